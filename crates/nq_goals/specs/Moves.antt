-- The moves that lead from a goal to others, and the rules that hold of all of them.
use Rattle.std.specs.Prelude.{◌≡◌, ◌<◌, ℕ, false, List, [], ◌∷◌}
use Rattle.nq_logic.specs.Terms.{Term, IsAmong, Each, substituted}
use Rattle.nq_logic.specs.Histories.{History}
use Rattle.nq_proof.specs.Clauses.{distinct}
use Rattle.nq_events.specs.Events.{Hints}
use Rattle.nq_goals.specs.declared.kinds.MoveKind.{MoveKind}
use Rattle.nq_goals.specs.declared.kinds.MoveKind.TheVariants.{Simp, Subst, Elim, Fert, Gen, Irr, Ind}
use Rattle.nq_goals.specs.Normal.{IsNormal}
use Rattle.nq_goals.specs.Paths.{Above, goals_above, inducted_goals, inductions}
use Rattle.nq_goals.specs.Simplifying.{Simplifies}
use Rattle.nq_goals.specs.Substituting.{substitutions_of, SubstituteMove}
use Rattle.nq_goals.specs.Eliminating.{Eliminating, EliminateCandidate, EliminateMove}
use Rattle.nq_goals.specs.Fertilizing.{fertilizings_of, FertilizeMove}
use Rattle.nq_goals.specs.Generalizing.{generalizings_of, GeneralizeMove}
use Rattle.nq_goals.specs.Dropping.{droppings_of, DropMove}
use Rattle.nq_goals.specs.Inducting.{hinted_call, InductMove}

-- no candidate of SUBST, ELIM, FERT, GEN or IRR
pub record HasNoCandidate (h : History) (hints : Hints) (goal : List Term) : Type 0 where
  pub no_substituting : substitutions_of goal ≡ []
  pub no_eliminating : (e : Eliminating) → EliminateCandidate h hints goal e → ⊥
  pub no_fertilizing : fertilizings_of goal ≡ []
  pub no_generalizing : generalizings_of h hints goal ≡ []
  pub no_dropping : droppings_of h goal ≡ []

-- one substitution takes each literal of the first to one of the second
pub record Subsumes (c d : List Term) : Type 0 where
  pub substitution : List (List ℕ × Term)
  pub takes : Each (λ t. IsAmong (substituted substitution t) d) c

-- some earlier goal of the path to which induction was applied subsumes the goal
pub record IsSubsumed (above : Above) (goal : List Term) : Type 0 where
  pub earlier : List Term
  pub inducted : IsAmong earlier (inducted_goals above)
  pub subsumes : Subsumes earlier goal

-- the most inductions on a path
abbrev pub induction_limit : ℕ
induction_limit = 12

-- The goal has no candidate of the other moves, or it is the first induction of the path and there is a hint for it.
pub data MayInduct (h : History) (hints : Hints) (above : Above) (goal : List Term) : Type 0 where
  no_candidate : HasNoCandidate h hints goal → MayInduct h hints above goal
  hinted : (t : Term) (ts : List Term) → hinted_call h hints above ≡ (t ∷ ts) → MayInduct h hints above goal

-- Where an induction may start.
pub record StartsInduction (h : History) (hints : Hints) (above : Above) (goal : List Term) : Type 0 where
  pub allowed : hints.no_induct ≡ false
  pub due : MayInduct h hints above goal
  pub no_loop : IsSubsumed above goal → ⊥
  pub not_deep : inductions above < induction_limit

-- A goal is a clause: no literal of it is a later copy of an earlier one.
abbrev pub IsWithoutCopies : List Term → Type 0
IsWithoutCopies goal = distinct goal ≡ goal

-- A move of a kind from a goal, under the goals above it, with the whole list of the goals to which it leads. A SIMP leads to
-- Normal goals, and every other move starts from one.
pub data IsMove (h : History) (hints : Hints) (above : Above) : MoveKind → List Term → List (List Term) → Type 0 where
  simplifies : (goal : List Term) (nexts : List (List Term)) → Simplifies h goal nexts → Each (IsNormal h hints) nexts → Each IsWithoutCopies nexts →
      IsMove h hints above Simp goal nexts
  substitutes : (goal : List Term) (nexts : List (List Term)) → IsNormal h hints goal → SubstituteMove h hints (goals_above above) goal nexts →
      IsMove h hints above Subst goal nexts
  eliminates : (goal : List Term) (nexts : List (List Term)) → IsNormal h hints goal → EliminateMove h hints (goals_above above) goal nexts →
      IsMove h hints above Elim goal nexts
  fertilizes : (goal : List Term) (nexts : List (List Term)) → IsNormal h hints goal → FertilizeMove h hints (goals_above above) goal nexts →
      IsMove h hints above Fert goal nexts
  generalizes : (goal : List Term) (nexts : List (List Term)) → IsNormal h hints goal → GeneralizeMove h hints (goals_above above) goal nexts →
      IsMove h hints above Gen goal nexts
  drops : (goal : List Term) (nexts : List (List Term)) → IsNormal h hints goal → DropMove h hints (goals_above above) goal nexts →
      IsMove h hints above Irr goal nexts
  inducts : (goal : List Term) (nexts : List (List Term)) → IsNormal h hints goal → StartsInduction h hints above goal → InductMove h hints above goal nexts →
      IsMove h hints above Ind goal nexts
