-- The variables of a term whose form is spelled are such as a log can spell.
use Rattle.std.proofs.Common.{◌≡◌, ℕ, Bool, true, false, refl}
use Rattle.std.specs.Prelude.{◌||◌, IsTrue, Option, bytes_eq, codes}
use Rattle.nq_logic.specs.Terms.{Name, Term, Variable, Function, Applied}
use Rattle.nq_form.specs.Form.{Form, Forms, symbol, numeral, text, quoted, listed, end, dotted, next}
use Rattle.nq_logtext.specs.Symbols.{is_symbol}
use Rattle.nq_language.specs.Refusals.{is_constant}
use Rattle.nq_language.specs.Translation.{translated}
use Rattle.nq_events.specs.TermRefusals.{arity_of, arity_with}
use Rattle.nq_events.specs.ReadTerms.{HasPlainVariables}
use Rattle.nq_events.proofs.ReadTerms.{over_histories, over_definitions}
use Rattle.nq_kernel.specs.Over.{VariablesAre, IsVariable}
use Rattle.nq_spelling.specs.Spelled.{IsSpelled, AreSpelled}
use Rattle.nq_spelling.specs.SpelledTerms.{SymbolsAre, AllSymbolsAre, TermsAreSpelled, DefinitionTermsAreSpelled}
use Rattle.nq_spelling.proofs.FormVariables.{form_are}

-- a symbol in upper case
abbrev IsSymbol : Name → Type 0
IsSymbol x = IsTrue (is_symbol x)

mutual
  spelled_symbols : (f : Form) → IsSpelled f → SymbolsAre IsSymbol f
  spelled_symbols (symbol x) s = s
  spelled_symbols (numeral negative n) s = tt
  spelled_symbols (text bytes) s = tt
  spelled_symbols (quoted f) s = spelled_symbols f s
  spelled_symbols (listed fs) s = all_spelled fs s

  all_spelled : (fs : Forms) → AreSpelled fs → AllSymbolsAre IsSymbol fs
  all_spelled end s = tt
  all_spelled (dotted f) s = spelled_symbols f s
  all_spelled (next f fs) s = (spelled_symbols f s.0, all_spelled fs s.1)

none_of : (t f n : Bool) → (t || f || n) ≡ false → (t || (f || (n || false))) ≡ false
none_of true f n e = e
none_of false true n e = e
none_of false false true e = e
none_of false false false e = refl

no_constant : (x : Name) → IsSymbol x → is_constant x ≡ false → IsVariable x
no_constant x s e = record { symbol = s; other = none_of (bytes_eq x (codes "T")) (bytes_eq x (codes "F")) (bytes_eq x (codes "NIL")) e }

plain_symbols : (t : Term) → VariablesAre IsSymbol t → HasPlainVariables t → VariablesAre IsVariable t
plain_symbols (Variable x) s e = no_constant x s e
plain_symbols (Function f) s e = tt
plain_symbols (Applied t u) s e = (plain_symbols t s.0 e.0, plain_symbols u s.1 e.1)

spelled_term : (arity : Name → Option ℕ) (f : Form) → IsSpelled f → HasPlainVariables (translated arity f) → VariablesAre IsVariable (translated arity f)
spelled_term arity f s plain = plain_symbols (translated arity f) (form_are IsSymbol arity f (spelled_symbols f s)) plain

pub terms_are_spelled : TermsAreSpelled
terms_are_spelled h f s e = spelled_term (arity_of h) f s (over_histories h f e).plain

pub definition_terms_are_spelled : DefinitionTermsAreSpelled
definition_terms_are_spelled h name formals f s e = spelled_term (arity_with h name formals) f s (over_definitions h name formals f e).plain
