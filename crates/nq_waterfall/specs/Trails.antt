-- What the ids of goals, of ways down and of steps stand for.
use Rattle.std.specs.Prelude.{◌≡◌, ℕ, List, [], ◌∷◌, ◌++◌, map, All, Vec}
use Rattle.std.specs.declared.alloc.Global.{Global}
use Rattle.nq_bank.specs.declared.node.TermId.{TermId}
use Rattle.nq_bank.specs.Content.{Content, Stands, terms_at}
use Rattle.nq_proof.specs.Clauses.{Clause}
use Rattle.nq_kernel.specs.declared.verdict.MoveKind.{MoveKind}
use Rattle.nq_goals.specs.Paths.{Above, Passed, passed}
use Rattle.nq_goals.specs.Trees.{Step}
use Rattle.nq_goals.specs.Forests.{step}
use Rattle.nq_waterfall.specs.Kinds.{goal_kind}
use Rattle.nq_waterfall.specs.declared.trail.Ancestor.{Ancestor}
use Rattle.nq_kernel.specs.declared.verdict.PathStep.{PathStep}
use Rattle.nq_waterfall.specs.declared.trail.Trail.{Trail}

-- the clauses of some goals
abbrev pub goals_at : Content → List (Vec TermId Global) → List Clause
goals_at bank goals = map (λ goal. terms_at bank goal.items) goals

abbrev pub passed_at : Content → Ancestor → Passed
passed_at bank a = passed (terms_at bank a.goal.items) (goal_kind a.kind)

abbrev pub above_onto : Content → Above → List Ancestor → Above
above_onto bank above [] = above
above_onto bank above (a ∷ path) = above_onto bank (passed_at bank a ∷ above) path

-- the goals above a goal, the nearest first; the way down has the first goal first
abbrev pub above_at : Content → List Ancestor → Above
above_at bank path = above_onto bank [] path

abbrev pub step_at : Content → PathStep → Step
step_at bank s = step s.parent (goal_kind s.kind) (terms_at bank s.goal.items)

abbrev pub steps_at : Content → List PathStep → List Step
steps_at bank steps = map (step_at bank) steps

abbrev pub AncestorStands : Content → Ancestor → Type 0
AncestorStands bank a = All (Stands bank) a.goal.items

abbrev pub StepStands : Content → PathStep → Type 0
StepStands bank s = All (Stands bank) s.goal.items

-- the literals of all goals of the trail stand
pub record TrailStands (bank : Content) (trail : Trail) : Type 0 where
  pub path : All (AncestorStands bank) trail.path.items
  pub steps : All (StepStands bank) trail.steps.items
  pub trace : All (StepStands bank) trail.trace.items

-- the way down goes on to this goal, which is led on by a move of this kind
pub record IsWithAncestor (old new : List Ancestor) (goal : List TermId) (kind : MoveKind) : Type 0 where
  pub last : Ancestor
  pub whole : new ≡ old ++ last ∷ []
  pub goal_is : last.goal.items ≡ goal
  pub kind_is : last.kind ≡ kind

-- a step by a move of this kind to this goal is added
pub record IsWithStep (old new : List PathStep) (parent : ℕ) (kind : MoveKind) (goal : List TermId) : Type 0 where
  pub last : PathStep
  pub whole : new ≡ old ++ last ∷ []
  pub parent_is : last.parent ≡ parent
  pub kind_is : last.kind ≡ kind
  pub goal_is : last.goal.items ≡ goal
