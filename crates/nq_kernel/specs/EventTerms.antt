-- The terms of a history's axioms and lemmas, with variables that a log can spell.
use Rattle.std.specs.Prelude.{◌≡◌, List, Some}
use Rattle.nq_logic.specs.Terms.{Name, Symbol, Term}
use Rattle.nq_logic.specs.Histories.{History}
use Rattle.nq_proof.specs.Rules.{event_term}
use Rattle.nq_kernel.specs.Over.{IsTermOf, IsVariable}

-- a term of some functions, with variables that a log can spell
pub record IsSpelledTerm (t : Term) : Type 0 where
  pub symbols : List Symbol
  pub over : IsTermOf IsVariable symbols t

-- the term of each axiom and lemma is so
pub record HasSpelledTerms (h : History) : Type 0 where
  pub spelled : (name : Name) (t : Term) → event_term name h ≡ Some t → IsSpelledTerm t
