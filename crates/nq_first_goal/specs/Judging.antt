-- What is told of a goal.
use Rattle.std.specs.Prelude.{◌≡◌, Bool, true, false, List, [], ◌∷◌, Option, Some, None, MatchOption}
use Rattle.nq_logic.specs.Terms.{Term}
use Rattle.nq_logic.specs.Histories.{History}
use Rattle.nq_comment.specs.declared.step.Cause.{Cause}
use Rattle.nq_comment.specs.declared.step.Cause.TheVariants.{False, NoInduction, Loop, Forbidden, Depth}
use Rattle.nq_events.specs.Events.{Hints}
use Rattle.nq_goals.specs.Spent.{IsFalse}
use Rattle.nq_comment.specs.Reports.{ShownStep}
use Rattle.nq_comment.specs.ReportViews.{steps_of}
use Rattle.nq_answers.specs.Goals.{goal_text}
use Rattle.nq_answers.specs.Shown.{ShowsTree}
use Rattle.nq_first_goal.specs.declared.judging.Judged.{Judged}

-- false first
abbrev pub cause_if : Bool → Bool → Option Cause
cause_if true stuck = Some False
cause_if false true = Some NoInduction
cause_if false false = None

-- no step where the first goal is false or stuck itself
abbrev pub steps_unless : Bool → Bool → List ShownStep → List ShownStep
steps_unless true stuck steps = []
steps_unless false true steps = []
steps_unless false false steps = steps

-- whether a goal is left over: the first one is stuck, or there are steps down to one
abbrev pub is_left : Bool → List ShownStep → Bool
is_left stuck [] = stuck
is_left stuck (step ∷ steps) = true

-- these are the steps of the tree of a failure from the goal, where there is one
abbrev pub GoalFailsBy : History → Hints → List Term → List ShownStep → Type 0
GoalFailsBy h hints goal steps = (steps ≡ [] → ⊥) → ShowsTree h hints goal steps NoInduction

-- it is not false, and these are the steps of the tree of a failure from it
pub record IsLeftOver (h : History) (hints : Hints) (goal : List Term) (steps : List ShownStep) (cause : Cause) : Type 0 where
  pub not_false : IsFalse h goal → ⊥
  pub tree : ShowsTree h hints goal steps cause

-- the first goal is false, and no step is told; or some goal is left over for this cause
abbrev pub IsCauseOf : History → Hints → List Term → List ShownStep → Cause → Type 0
IsCauseOf h hints goal steps False = IsFalse h goal × (steps ≡ [])
IsCauseOf h hints goal steps NoInduction = IsLeftOver h hints goal steps NoInduction
IsCauseOf h hints goal steps Loop = IsLeftOver h hints goal steps Loop
IsCauseOf h hints goal steps Forbidden = IsLeftOver h hints goal steps Forbidden
IsCauseOf h hints goal steps Depth = IsLeftOver h hints goal steps Depth

-- its text, and why it is left over, with the steps down to there; where no cause is told it is not false
pub record IsJudged (h : History) (hints : Hints) (goal : List Term) (judged : Judged) : Type 0 where
  pub text : judged.text.items ≡ goal_text goal
  pub cause : MatchOption judged.cause (IsFalse h goal → ⊥) (IsCauseOf h hints goal (steps_of judged.steps.items))

abbrev pub unless : Bool → Cause → Option Cause
unless true cause = None
unless false cause = Some cause

-- the cause that is told, where moves proved the lemma or did not
abbrev pub failing_by : Cause → Bool → Option Cause
failing_by False proved = Some False
failing_by NoInduction proved = unless proved NoInduction
failing_by Loop proved = unless proved Loop
failing_by Forbidden proved = unless proved Forbidden
failing_by Depth proved = unless proved Depth

abbrev pub failing : Option Cause → Bool → Option Cause
failing None proved = None
failing (Some cause) proved = failing_by cause proved
