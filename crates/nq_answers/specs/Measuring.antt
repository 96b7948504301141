-- What is told of a recursive definition of which no measure is proved.
use Rattle.std.specs.Prelude.{◌≡◌, ◌⊎◌, ◌++◌, List, [], ◌∷◌, ⊤}
use Rattle.nq_logic.specs.Terms.{Term, Each}
use Rattle.nq_logic.specs.Words.{call1}
use Rattle.nq_logic.specs.Formulas.{clause}
use Rattle.nq_logic.specs.Histories.{History, Definition}
use Rattle.nq_logic.specs.Admissible.{Call, calls_of, obligation, FallsAt}
use Rattle.nq_logic.specs.Derivations.{Derivable}
use Rattle.nq_language.specs.Printing.{printed}
use Rattle.nq_comment.specs.Reports.{Trial}
use Rattle.nq_answers.specs.Goals.{goal_text}

-- that a measure is an ordinal
abbrev pub ordinal_goal : Term → List Term
ordinal_goal m = call1 "ORDINALP" m ∷ []

-- The goal is that the measure falls at a call of the function in the body. The measure is an ordinal, and it falls at each call
-- before that one.
pub record IsFallLeft (h : History) (d : Definition) (m : Term) (goal : List Term) : Type 0 where
  pub ordinal : Derivable h (clause (ordinal_goal m))
  pub before : List Call
  pub here : Call
  pub after : List Call
  pub calls : calls_of d.function d.body ≡ before ++ here ∷ after
  pub falls : Each (FallsAt h d m) before
  pub goal_is : goal ≡ obligation d.function d.formals m here.tests here.arguments

-- the goal is an obligation of the measure, and each one before it is derivable
abbrev pub IsGoalLeft : History → Definition → Term → List Term → Type 0
IsGoalLeft h d m goal = (goal ≡ ordinal_goal m) ⊎ IsFallLeft h d m goal

-- a trial tells the measure, and the obligation that is left
pub record IsTrial (h : History) (d : Definition) (m : Term) (trial : Trial) : Type 0 where
  pub goal : List Term
  pub left : IsGoalLeft h d m goal
  pub measure_is : trial.measure ≡ printed m
  pub goal_is : trial.goal ≡ goal_text goal

-- one trial for each measure, in their order
abbrev pub AreTrials : History → Definition → List Term → List Trial → Type 0
AreTrials h d [] [] = ⊤
AreTrials h d [] (t ∷ trials) = ⊥
AreTrials h d (m ∷ measures) [] = ⊥
AreTrials h d (m ∷ measures) (t ∷ trials) = IsTrial h d m t × AreTrials h d measures trials
