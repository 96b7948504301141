-- The kinds of moves and the causes of answers, as the definitions of goals have them.
use Rattle.nq_kernel.specs.declared.verdict.MoveKind.{MoveKind}
use Rattle.nq_kernel.specs.declared.verdict.MoveKind.TheVariants.{Simp, Subst, Elim, Fert, Gen, Irr, Ind}
use Rattle.nq_kernel.specs.declared.verdict.Cause.{Cause}
use Rattle.nq_kernel.specs.declared.verdict.Cause.TheVariants.{False, NoInduction, Loop, Forbidden, Depth}
use Rattle.nq_goals.specs.declared.kinds.MoveKind.{MoveKind as GoalKind}
use Rattle.nq_goals.specs.declared.kinds.MoveKind.TheVariants as moves
use Rattle.nq_goals.specs.declared.kinds.Cause.{Cause as GoalCause}
use Rattle.nq_goals.specs.declared.kinds.Cause.TheVariants as causes

abbrev pub goal_kind : MoveKind → GoalKind
goal_kind Simp = moves.Simp
goal_kind Subst = moves.Subst
goal_kind Elim = moves.Elim
goal_kind Fert = moves.Fert
goal_kind Gen = moves.Gen
goal_kind Irr = moves.Irr
goal_kind Ind = moves.Ind

abbrev pub goal_cause : Cause → GoalCause
goal_cause False = causes.False
goal_cause NoInduction = causes.NoInduction
goal_cause Loop = causes.Loop
goal_cause Forbidden = causes.Forbidden
goal_cause Depth = causes.Depth
