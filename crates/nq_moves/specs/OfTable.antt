-- Moves over ids that are moves of the table.
use Rattle.std.specs.Prelude.{List}
use Rattle.nq_bank.specs.declared.node.TermId.{TermId}
use Rattle.nq_bank.specs.Content.{Content, terms_at}
use Rattle.nq_proof.specs.Clauses.{Clause}
use Rattle.nq_events.specs.Events.{Hints}
use Rattle.nq_moves.specs.declared.moved.Moved.{Moved}
use Rattle.nq_moves.specs.Found.{goals_at}

-- the move leads from the goal to the goals of a move of this kind, on every path and under all hints
pub record IsOfTable (Leads : Hints → List Clause → Clause → List Clause → Type 0) (old new : Content) (goal : List TermId) (moved : Moved) : Type 0 where
  pub leads : (hints : Hints) (path : List Clause) → Leads hints path (terms_at old goal) (goals_at new moved.children.items)
