-- Traces and trees, as the lines of a report show them.
use Rattle.std.specs.Prelude.{◌≡◌, List, map}
use Rattle.nq_logic.specs.Terms.{Term}
use Rattle.nq_logic.specs.Histories.{History}
use Rattle.nq_events.specs.Events.{Hints}
use Rattle.nq_goals.specs.declared.kinds.MoveKind.{MoveKind}
use Rattle.nq_goals.specs.declared.kinds.MoveKind.TheVariants as kinds
use Rattle.nq_goals.specs.declared.kinds.Cause.{Cause as GoalCause}
use Rattle.nq_goals.specs.declared.kinds.Cause.TheVariants as causes
use Rattle.nq_goals.specs.Trees.{Step, IsFailureTree}
use Rattle.nq_traces.specs.Traces.{IsTrace}
use Rattle.nq_comment.specs.Reports.{ShownStep}
use Rattle.nq_comment.specs.declared.step.Move.{Move}
use Rattle.nq_comment.specs.declared.step.Move.TheVariants.{Simp, Subst, Elim, Fert, Gen, Irr, Ind}
use Rattle.nq_comment.specs.declared.step.Cause.{Cause}
use Rattle.nq_comment.specs.declared.step.Cause.TheVariants.{False, NoInduction, Loop, Forbidden, Depth}
use Rattle.nq_answers.specs.Goals.{goal_text}

-- the kind of a move, as it is shown
abbrev pub shown_kind : MoveKind → Move
shown_kind kinds.Simp = Simp
shown_kind kinds.Subst = Subst
shown_kind kinds.Elim = Elim
shown_kind kinds.Fert = Fert
shown_kind kinds.Gen = Gen
shown_kind kinds.Irr = Irr
shown_kind kinds.Ind = Ind

-- the cause that is meant by what is shown
abbrev pub cause_shown : Cause → GoalCause
cause_shown False = causes.False
cause_shown NoInduction = causes.NoInduction
cause_shown Loop = causes.Loop
cause_shown Forbidden = causes.Forbidden
cause_shown Depth = causes.Depth

-- a step, as its line shows it
abbrev pub shown_step : Step → ShownStep
shown_step s = record { parent = s.parent; led_by = shown_kind s.kind; goal = goal_text s.goal }

abbrev pub shown_steps : List Step → List ShownStep
shown_steps steps = map shown_step steps

-- these are the steps of a trace from the goal
pub record ShowsTrace (h : History) (hints : Hints) (first : List Term) (shown : List ShownStep) : Type 0 where
  pub steps : List Step
  pub trace : IsTrace h hints first steps
  pub shown_is : shown ≡ shown_steps steps

-- these are the steps of the tree of a failure from the goal, for this cause
pub record ShowsTree (h : History) (hints : Hints) (first : List Term) (shown : List ShownStep) (cause : Cause) : Type 0 where
  pub steps : List Step
  pub tree : IsFailureTree h hints first steps (cause_shown cause)
  pub shown_is : shown ≡ shown_steps steps
