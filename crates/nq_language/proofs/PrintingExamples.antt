-- Terms with their forms and texts, computed.
use Prim.Native.String.{String as Text}
use Rattle.std.proofs.Common.{◌≡◌, true, false, refl}
use Rattle.std.specs.Prelude.{codes}
use Rattle.nq_logic.specs.Terms.{Term}
use Rattle.nq_logic.specs.Words.{variable, call1, true_term, equal_term, numeral, literal_atom}
use Rattle.nq_form.specs.Form.{symbol, numeral as number, quoted, listed, end, dotted, next}
use Rattle.nq_form.specs.Spelling.{spelled}
use Rattle.nq_language.specs.Objects.{nil_term, cons_term}
use Rattle.nq_logic.specs.Numerals.{number_of}
use Rattle.nq_logic.specs.Sizes.{tree_size}
use Rattle.nq_language.specs.Quotations.{object_of, codes_of}
use Rattle.nq_language.specs.Printing.{form_under, printed_form, printed}

abbrev x : Term
x = variable "X"

abbrev Prints : Term → Text → Type 0
Prints t written = printed t ≡ codes written

call_text : Prints (equal_term (call1 "CAR" (call1 "CDR" x)) true_term) "(EQUAL (CADR X) T)"
unfolding form_under object_of codes_of number_of tree_size spelled
call_text = refl

list_text : Prints (call1 "LEN" (cons_term (literal_atom "A") (cons_term (literal_atom "B") nil_term))) "(LEN '(A B))"
unfolding form_under object_of codes_of number_of tree_size spelled numeral
list_text = refl

tail_text : Prints (cons_term nil_term (literal_atom "B")) "'(NIL . B)"
unfolding form_under object_of codes_of number_of tree_size spelled numeral
tail_text = refl

nil_text : Prints (cons_term x nil_term) "(CONS X NIL)"
unfolding form_under object_of codes_of number_of tree_size spelled numeral
nil_text = refl

truth_text : Prints (cons_term true_term (literal_atom "B")) "(CONS T 'B)"
unfolding form_under object_of codes_of number_of tree_size spelled numeral
truth_text = refl

small_letters : printed_form (literal_atom "a") ≡ listed (next (symbol (codes "PACK")) (next (quoted (listed (next (number false 97) (dotted (number false 0))))) end))
unfolding form_under object_of codes_of number_of numeral
small_letters = refl

number_form : printed_form (call1 "MINUS" (numeral 2)) ≡ number true 2
unfolding form_under object_of number_of numeral
number_form = refl
