-- Goals that no move leads on, and the cause for which each is left over.
use Rattle.std.specs.Prelude.{◌≡◌, ◌≤◌, true, List, [], ◌∷◌}
use Rattle.nq_logic.specs.Terms.{Term, Each}
use Rattle.nq_logic.specs.Words.{false_term}
use Rattle.nq_logic.specs.Histories.{History}
use Rattle.nq_fragments.specs.Evaluation.{HasGroundValue}
use Rattle.nq_events.specs.Events.{Hints}
use Rattle.nq_goals.specs.declared.kinds.Cause.{Cause}
use Rattle.nq_goals.specs.declared.kinds.Cause.TheVariants.{False, NoInduction, Loop, Forbidden, Depth}
use Rattle.nq_goals.specs.Normal.{IsNormal}
use Rattle.nq_goals.specs.Paths.{Above, inductions}
use Rattle.nq_goals.specs.NewVariables.{clause_variables}
use Rattle.nq_goals.specs.Inducting.{suggestions}
use Rattle.nq_goals.specs.Moves.{HasNoCandidate, IsSubsumed, induction_limit}

-- The goal has no literal, or all its literals are ground with the value F.
abbrev pub IsFalse : History → List Term → Type 0
IsFalse h goal = Each (λ l. HasGroundValue h l false_term) goal

-- Why a goal would be left over, the other causes aside.
abbrev pub HasCause : History → Hints → Above → List Term → Cause → Type 0
-- no literal, or all ground with the value F
HasCause h hints above goal False = IsFalse h goal
-- no SUBST, ELIM, FERT, GEN or IRR candidate, and no call suggests an induction
HasCause h hints above goal NoInduction = HasNoCandidate h hints goal × (suggestions h hints above goal ≡ [])
-- no such candidate, and one substitution takes each literal of an earlier goal of the path, to which IND was applied, to a
-- literal of the goal
HasCause h hints above goal Loop = HasNoCandidate h hints goal × IsSubsumed above goal
-- DO-NOT-INDUCT stands, and no such candidate
HasCause h hints above goal Forbidden = HasNoCandidate h hints goal × (hints.no_induct ≡ true)
-- no such candidate, and the path holds twelve inductions
HasCause h hints above goal Depth = HasNoCandidate h hints goal × (induction_limit ≤ inductions above)

-- the causes before this one
abbrev pub earlier_causes : Cause → List Cause
earlier_causes False = []
earlier_causes NoInduction = False ∷ []
earlier_causes Loop = False ∷ NoInduction ∷ []
earlier_causes Forbidden = False ∷ NoInduction ∷ Loop ∷ []
earlier_causes Depth = False ∷ NoInduction ∷ Loop ∷ Forbidden ∷ []

abbrev pub IsGround : List Term → Type 0
IsGround goal = clause_variables goal ≡ []

-- the goal is Normal, or is the first goal and ground
pub data MayBeSpent (h : History) (hints : Hints) (above : Above) (goal : List Term) : Type 0 where
  normal : IsNormal h hints goal → MayBeSpent h hints above goal
  first_and_ground : above ≡ [] → IsGround goal → MayBeSpent h hints above goal

-- A goal that is left over: it is Normal, or the first goal and ground, and this is the first of the causes that holds.
pub record IsSpent (h : History) (hints : Hints) (above : Above) (goal : List Term) (cause : Cause) : Type 0 where
  pub form : MayBeSpent h hints above goal
  pub holds : HasCause h hints above goal cause
  pub first : Each (λ earlier. HasCause h hints above goal earlier → ⊥) (earlier_causes cause)

-- a goal is left over for one cause only
abbrev pub HasOneCause : Type 0
HasOneCause =
    (h : History) (hints : Hints) (above : Above) (goal : List Term) (one other : Cause) → IsSpent h hints above goal one → IsSpent h hints above goal other →
    one ≡ other
