-- What the proof by a value answers.
use Rattle.std.specs.Prelude.{ℕ, List, [], ◌∷◌, Option, Some, None}
use Rattle.nq_bank.specs.declared.node.TermId.{TermId}
use Rattle.nq_bank.specs.Content.{term_at}
use Rattle.nq_history.specs.declared.entry.Entry.{Entry}
use Rattle.nq_history.specs.Events.{events_at}
use Rattle.nq_fragments.specs.Evaluation.{HasTrueValue}
use Rattle.nq_kernel.specs.declared.work.Work.{Work}
use Rattle.nq_kernel.specs.Growing.{LineHolds}

-- the goal has a value other than F, and the line has only the goal
pub record IsValueLine (history : List Entry) (old new : Work) (goal : TermId) (line : ℕ) : Type 0 where
  pub value : HasTrueValue (events_at old.bank history) (term_at old.bank goal)
  pub holds : LineHolds new line (term_at old.bank goal ∷ [])

-- some line exactly where the goal has a value other than F
abbrev pub IsProvedByValue : List Entry → Work → Work → TermId → Option ℕ → Type 0
IsProvedByValue history old new goal None = HasTrueValue (events_at old.bank history) (term_at old.bank goal) → ⊥
IsProvedByValue history old new goal (Some line) = IsValueLine history old new goal line
