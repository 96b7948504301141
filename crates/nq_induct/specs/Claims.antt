-- A clause as one term, and a case's test of several parts.
use Rattle.std.specs.Prelude.{ℕ, List, [], ◌∷◌, ◌++◌}
use Rattle.nq_logic.specs.Terms.{Term}
use Rattle.nq_logic.specs.Words.{if_term, true_term, false_term}
use Rattle.nq_bank.specs.declared.node.TermId.{TermId}
use Rattle.nq_bank.specs.Content.{IsIdOf}
use Rattle.nq_history.specs.declared.entry.Entry.{Entry}
use Rattle.nq_kernel.specs.declared.work.Work.{Work}
use Rattle.nq_lines.specs.Lines.{IsTermIn, LineHasOnly}
use Rattle.nq_lines.specs.declared.facts.Fact.{Fact}

-- the term that is true where one of these is: the right nest of (IF t T ..); F of none
abbrev pub any_of : List Term → Term
any_of [] = false_term
any_of (t ∷ []) = t
any_of (t ∷ u ∷ ts) = if_term t true_term (any_of (u ∷ ts))

-- line n has one term, from a line with each of some literals
abbrev pub GathersTo : Work → Work → List Term → Term → ℕ → ℕ → Type 0
GathersTo old new literals whole line n = (these : List Term) → LineHasOnly old line (literals ++ these) → LineHasOnly new n (whole ∷ these)

-- line n has each of some literals, from a line with one term
abbrev pub OpensTo : Work → Work → Term → List Term → ℕ → ℕ → Type 0
OpensTo old new whole literals line n = (these : List Term) → LineHasOnly old line (whole ∷ these) → LineHasOnly new n (literals ++ these)

-- the term is T
pub record IsTruth (history : List Entry) (work : Work) (t : TermId) : Type 0 where
  pub term : IsTermIn history work t
  pub is : IsIdOf work.bank t true_term

-- and the line has only it
pub record IsShownTruth (history : List Entry) (work : Work) (f : Fact) : Type 0 where
  pub truth : IsTruth history work f.term
  pub line : LineHasOnly work f.line (true_term ∷ [])
