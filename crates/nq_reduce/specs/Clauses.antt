-- Lines of several literals.
use Rattle.std.specs.Prelude.{ℕ, All, List, ◌∷◌}
use Rattle.nq_logic.specs.Terms.{Term, Each}
use Rattle.nq_bank.specs.declared.node.TermId.{TermId}
use Rattle.nq_bank.specs.Content.{terms_at}
use Rattle.nq_proof.specs.Clauses.{Clause}
use Rattle.nq_history.specs.declared.entry.Entry.{Entry}
use Rattle.nq_history.specs.Events.{events_at}
use Rattle.nq_kernel.specs.declared.work.Work.{Work}
use Rattle.nq_kernel.specs.Growing.{LineHolds}
use Rattle.nq_lines.specs.Lines.{AreAmong, IsTermIn, LineHasOnly}
use Rattle.nq_lines.specs.OwnTerms.{IsOver}

-- the line stands, and its literals are over the history
pub record LineIsIn (history : List Entry) (work : Work) (line : ℕ) : Type 0 where
  pub literals : Clause
  pub holds : LineHolds work line literals
  pub over : Each (IsOver (events_at work.bank history)) literals

-- these are the literals of the line
pub record AreLiterals (history : List Entry) (work : Work) (line : ℕ) (ids : List TermId) : Type 0 where
  pub holds : LineHolds work line (terms_at work.bank ids)
  pub there : All (IsTermIn history work) ids

-- line n is another without the literal l, where it may hold these given ones
abbrev pub DropsTo : Work → Work → List Term → Term → ℕ → ℕ → Type 0
DropsTo old new given l line n = (these : List Term) → AreAmong given these → LineHasOnly old line (l ∷ these) → LineHasOnly new n these
