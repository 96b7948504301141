-- Logs with shells, declarations, undoing, measures and inductions.
use Prim.Native.String.{String as Text}
use Rattle.std.proofs.Common.{◌≡◌, ℕ, List, [], ◌∷◌, ◌++◌, refl}
use Rattle.std.specs.Fmt.{digits}
use Rattle.nq_logic.specs.Words.{numeral}
use Rattle.nq_logic.specs.Ground.{symbols_of}
use Rattle.nq_logic.specs.Numerals.{number_of as number_in}
use Rattle.nq_logic.specs.Sizes.{tree_depth, tree_size}
use Rattle.nq_logtext.specs.Reading.{line_of_words, run_of, field_of, number_of, path_of, places_of}
use Rattle.nq_log.proofs.ExampleTexts.{lines, log_of}
use Rattle.nq_log.specs.Logs.{Right, Wrong, NotAllowed, first_wrong_line}

abbrev stacks : List ℕ
stacks = log_of ("PART TOP ONE-OF ZERO NUMBERP" ∷ "PART POP ONE-OF EMPTY-STACK STACKP" ∷ "SHELL PUSH EMPTY-STACK STACKP" ∷ "END" ∷ [])

-- a measure and its descent, as axioms
abbrev pub obligations : List Text
obligations = "V X" ∷ "A COUNT 1" ∷ "A ORDINALP 2" ∷ "AXIOMATIZE O1 3" ∷ "V X" ∷ "A COUNT 1" ∷ "A CDR 1" ∷ "A COUNT 3" ∷ "A ORD-LESSP 4 2" ∷ "AXIOMATIZE O2 5" ∷ []

stacks_ending : first_wrong_line (stacks) ≡ Right
unfolding digits symbols_of numeral number_in tree_depth tree_size line_of_words run_of field_of number_of path_of places_of
stacks_ending = refl

no_parts_left : first_wrong_line (log_of ("PART TOP ONE-OF ZERO NUMBERP" ∷ "DCL E 1" ∷ [])) ≡ Wrong 3 NotAllowed
unfolding digits symbols_of numeral number_in tree_depth tree_size line_of_words run_of field_of number_of path_of places_of
no_parts_left = refl

bad_default : first_wrong_line (log_of ("PART UNBOX ONE-OF ZERO LISTP" ∷ "SHELL BOX NIL BOXP" ∷ [])) ≡ Wrong 3 NotAllowed
unfolding digits symbols_of numeral number_in tree_depth tree_size line_of_words run_of field_of number_of path_of places_of
bad_default = refl

unknown_recognizer : first_wrong_line (log_of ("PART UNBOX ONE-OF ZERO FOOP" ∷ "SHELL BOX NIL BOXP" ∷ [])) ≡ Wrong 3 NotAllowed
unfolding digits symbols_of numeral number_in tree_depth tree_size line_of_words run_of field_of number_of path_of places_of
unknown_recognizer = refl

name_in_use : first_wrong_line (log_of ("DCL PLUS 2" ∷ [])) ≡ Wrong 2 NotAllowed
unfolding digits symbols_of numeral number_in tree_depth tree_size line_of_words run_of field_of number_of path_of places_of
name_in_use = refl

nest_is_in_use : first_wrong_line (log_of ("DCL CADR 1" ∷ [])) ≡ Wrong 2 NotAllowed
unfolding digits symbols_of numeral number_in tree_depth tree_size line_of_words run_of field_of number_of path_of places_of
nest_is_in_use = refl

no_nest : first_wrong_line (log_of ("DCL CXR 1" ∷ "END" ∷ [])) ≡ Right
unfolding digits symbols_of numeral number_in tree_depth tree_size line_of_words run_of field_of number_of path_of places_of
no_nest = refl

undone : first_wrong_line (log_of ("DCL E 1" ∷ "TOGGLE OFF E 1" ∷ "UNDO E" ∷ "DCL E 2" ∷ "TOGGLE OFF E 0" ∷ "END" ∷ [])) ≡ Right
unfolding digits symbols_of numeral number_in tree_depth tree_size line_of_words run_of field_of number_of path_of places_of
undone = refl

undone_is_gone : first_wrong_line (log_of ("DCL E 1" ∷ "TOGGLE OFF E 1" ∷ "UNDO E" ∷ "TOGGLE OFF E 0" ∷ [])) ≡ Wrong 5 NotAllowed
unfolding digits symbols_of numeral number_in tree_depth tree_size line_of_words run_of field_of number_of path_of places_of
undone_is_gone = refl

ground_stays : first_wrong_line (log_of ("UNDO PLUS" ∷ [])) ≡ Wrong 2 NotAllowed
unfolding digits symbols_of numeral number_in tree_depth tree_size line_of_words run_of field_of number_of path_of places_of
ground_stays = refl

end_in_block : first_wrong_line (log_of ("V X" ∷ "END" ∷ [])) ≡ Wrong 3 NotAllowed
unfolding digits symbols_of numeral number_in tree_depth tree_size line_of_words run_of field_of number_of path_of places_of
end_in_block = refl

second_header : first_wrong_line (log_of ("NQTHM-LOG 1" ∷ [])) ≡ Wrong 2 NotAllowed
unfolding digits symbols_of numeral number_in tree_depth tree_size line_of_words run_of field_of number_of path_of places_of
second_header = refl

no_header : first_wrong_line (lines ("BOOT-STRAP" ∷ "END" ∷ [])) ≡ Wrong 1 NotAllowed
unfolding digits symbols_of numeral number_in tree_depth tree_size line_of_words run_of field_of number_of path_of places_of
no_header = refl

function_later : first_wrong_line (log_of ("V X" ∷ "F G 1" ∷ [])) ≡ Wrong 3 NotAllowed
unfolding digits symbols_of numeral number_in tree_depth tree_size line_of_words run_of field_of number_of path_of places_of
function_later = refl

function_in_rule : first_wrong_line (log_of ("F G 1" ∷ "V X" ∷ "A G 1" ∷ "REFL 2" ∷ [])) ≡ Wrong 5 NotAllowed
unfolding digits symbols_of numeral number_in tree_depth tree_size line_of_words run_of field_of number_of path_of places_of
function_in_rule = refl

no_definition : first_wrong_line (log_of ("F G 1" ∷ "V X" ∷ "AXIOMATIZE H 1" ∷ [])) ≡ Wrong 4 NotAllowed
unfolding digits symbols_of numeral number_in tree_depth tree_size line_of_words run_of field_of number_of path_of places_of
no_definition = refl

constant_is_no_variable : first_wrong_line (log_of ("V NIL" ∷ [])) ≡ Wrong 2 NotAllowed
unfolding digits symbols_of numeral number_in tree_depth tree_size line_of_words run_of field_of number_of path_of places_of
constant_is_no_variable = refl

axiom_used : first_wrong_line (log_of ("V X" ∷ "AXIOMATIZE H 1" ∷ "V X" ∷ "EVENT H" ∷ "LEMMA L 1 1" ∷ "END" ∷ [])) ≡ Right
unfolding digits symbols_of numeral number_in tree_depth tree_size line_of_words run_of field_of number_of path_of places_of
axiom_used = refl

abbrev pub recursive_lines : List Text
recursive_lines = obligations ++ ("F LEN 1" ∷ "V X" ∷ "A LISTP 1" ∷ "A CDR 1" ∷ "A LEN 3" ∷ "A ADD1 4" ∷ "N 0" ∷ "A IF 2 5 6" ∷ "A COUNT 1" ∷ "EVENT O1" ∷ "EVENT O2" ∷ "MEASURE 8 1 2" ∷ "DEFN LEN 7 1" ∷ "END" ∷ [])

recursion : first_wrong_line (log_of recursive_lines) ≡ Right
unfolding digits symbols_of numeral number_in tree_depth tree_size line_of_words run_of field_of number_of path_of places_of
recursion = refl

no_measure : first_wrong_line (log_of (obligations ++ ("F LEN 1" ∷ "V X" ∷ "A LISTP 1" ∷ "A CDR 1" ∷ "A LEN 3" ∷ "A ADD1 4" ∷ "N 0" ∷ "A IF 2 5 6" ∷ "A COUNT 1" ∷ "EVENT O1" ∷ "EVENT O2" ∷ "DEFN LEN 7 1" ∷ "END" ∷ []))) ≡ Wrong 23 NotAllowed
unfolding digits symbols_of numeral number_in tree_depth tree_size line_of_words run_of field_of number_of path_of places_of
no_measure = refl

wrong_measure : first_wrong_line (log_of (obligations ++ ("F LEN 1" ∷ "V X" ∷ "A LISTP 1" ∷ "A CDR 1" ∷ "A LEN 3" ∷ "A ADD1 4" ∷ "N 0" ∷ "A IF 2 5 6" ∷ "A COUNT 1" ∷ "EVENT O1" ∷ "EVENT O2" ∷ "MEASURE 8 1 1" ∷ "DEFN LEN 7 1" ∷ "END" ∷ []))) ≡ Wrong 24 NotAllowed
unfolding digits symbols_of numeral number_in tree_depth tree_size line_of_words run_of field_of number_of path_of places_of
wrong_measure = refl

measure_is_last : first_wrong_line (log_of (obligations ++ ("F LEN 1" ∷ "V X" ∷ "A LISTP 1" ∷ "A CDR 1" ∷ "A LEN 3" ∷ "A ADD1 4" ∷ "N 0" ∷ "A IF 2 5 6" ∷ "A COUNT 1" ∷ "EVENT O1" ∷ "EVENT O2" ∷ "MEASURE 8 1 2" ∷ "V Y" ∷ "DEFN LEN 7 1" ∷ "END" ∷ []))) ≡ Wrong 24 NotAllowed
unfolding digits symbols_of numeral number_in tree_depth tree_size line_of_words run_of field_of number_of path_of places_of
measure_is_last = refl

induction : first_wrong_line (log_of (obligations ++ ("V X" ∷ "A EQUAL 1 1" ∷ "A COUNT 1" ∷ "A LISTP 1" ∷ "A CDR 1" ∷ "REFL 1" ∷ "EVENT O1" ∷ "EVENT O2" ∷ "CASE 4 1" ∷ "HYP 3 1 5" ∷ "INDUCT 2 3 2 1" ∷ "LEMMA L 2 4" ∷ "END" ∷ []))) ≡ Right
unfolding digits symbols_of numeral number_in tree_depth tree_size line_of_words run_of field_of number_of path_of places_of
induction = refl

hypothesis_first : first_wrong_line (log_of (obligations ++ ("V X" ∷ "A EQUAL 1 1" ∷ "A COUNT 1" ∷ "A LISTP 1" ∷ "A CDR 1" ∷ "REFL 1" ∷ "EVENT O1" ∷ "EVENT O2" ∷ "HYP 3 1 5" ∷ "CASE 4 1" ∷ "INDUCT 2 3 2 1" ∷ "LEMMA L 2 4" ∷ "END" ∷ []))) ≡ Wrong 22 NotAllowed
unfolding digits symbols_of numeral number_in tree_depth tree_size line_of_words run_of field_of number_of path_of places_of
hypothesis_first = refl

wrong_descent : first_wrong_line (log_of (obligations ++ ("V X" ∷ "A EQUAL 1 1" ∷ "A COUNT 1" ∷ "A LISTP 1" ∷ "A CDR 1" ∷ "REFL 1" ∷ "EVENT O1" ∷ "EVENT O2" ∷ "CASE 4 1" ∷ "HYP 2 1 5" ∷ "INDUCT 2 3 2 1" ∷ "LEMMA L 2 4" ∷ "END" ∷ []))) ≡ Wrong 22 NotAllowed
unfolding digits symbols_of numeral number_in tree_depth tree_size line_of_words run_of field_of number_of path_of places_of
wrong_descent = refl

left_case : first_wrong_line (log_of (obligations ++ ("V X" ∷ "EVENT O1" ∷ "CASE 1 1" ∷ "DCL E 1" ∷ []))) ≡ Wrong 15 NotAllowed
unfolding digits symbols_of numeral number_in tree_depth tree_size line_of_words run_of field_of number_of path_of places_of
left_case = refl
