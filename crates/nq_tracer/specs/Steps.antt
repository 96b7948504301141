-- The steps from a first goal to the goals of one move.
use Rattle.std.specs.Prelude.{List, [], map}
use Rattle.nq_logic.specs.Terms.{Term}
use Rattle.nq_logic.specs.Histories.{History}
use Rattle.nq_events.specs.Events.{Hints}
use Rattle.nq_goals.specs.declared.kinds.MoveKind.{MoveKind}
use Rattle.nq_goals.specs.Moves.{IsMove}
use Rattle.nq_goals.specs.Trees.{Step}
use Rattle.nq_goals.specs.Forests.{step}
use Rattle.nq_traces.specs.Traces.{IsTrace}

abbrev pub steps_to : MoveKind → List (List Term) → List Step
steps_to kind nexts = map (step 0 kind) nexts

-- they are a trace
abbrev pub OneMoveIsTrace : Type 0
OneMoveIsTrace =
    (h : History) (hints : Hints) (kind : MoveKind) (first : List Term) (nexts : List (List Term)) → IsMove h hints [] kind first nexts → IsTrace h hints first (steps_to kind nexts)
