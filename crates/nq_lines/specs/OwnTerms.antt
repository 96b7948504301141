-- What instances of axioms and lemmas ask of a history.
use Rattle.std.specs.Prelude.{◌≡◌, ℕ, Some}
use Rattle.nq_logic.specs.Terms.{Name, Term, Each}
use Rattle.nq_logic.specs.Ground.{symbols_of}
use Rattle.nq_logic.specs.Histories.{History}
use Rattle.nq_proof.specs.Clauses.{Clause}
use Rattle.nq_proof.specs.Rules.{event_term}
use Rattle.nq_proof.specs.Rows.{axiom_clause}
use Rattle.nq_kernel.specs.Over.{IsTermOf, IsVariable}

-- a term over the history's own functions, with variables that a log can spell
abbrev pub IsOver : History → Term → Type 0
IsOver h t = IsTermOf IsVariable (symbols_of h) t

-- the term of each axiom and lemma is so, and each literal of the rows of the tables of axioms
pub record HasOwnTerms (h : History) : Type 0 where
  pub events : (name : Name) (t : Term) → event_term name h ≡ Some t → IsOver h t
  pub rows : (name : Name) (row part : ℕ) (c : Clause) → axiom_clause h name row part ≡ Some c → Each (IsOver h) c
