-- Goals that the goals above them subsume.
use Rattle.std.specs.Prelude.{◌≡◌, true, List}
use Rattle.nq_bank.specs.declared.node.TermId.{TermId}
use Rattle.nq_bank.specs.Content.{Content, terms_at}
use Rattle.nq_goals.specs.Moves.{Subsumes}
use Rattle.nq_goals.specs.Paths.{is_induction}
use Rattle.nq_waterfall.specs.Kinds.{goal_kind}
use Rattle.nq_waterfall.specs.declared.trail.Ancestor.{Ancestor}

-- induction was applied to the goal above, and it subsumes the goal
pub record SubsumesBy (bank : Content) (above : Ancestor) (goal : List TermId) : Type 0 where
  pub inducted : is_induction (goal_kind above.kind) ≡ true
  pub subsumes : Subsumes (terms_at bank above.goal.items) (terms_at bank goal)
