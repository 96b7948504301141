-- What the tests say of a goal.
use Rattle.std.proofs.Common.{◌≡◌, Bool, true, false, List, [], ◌∷◌, ◌++◌, refl, ap, ◌∙◌, Option, Some, None}
use Rattle.std.specs.Prelude.{not, is_some, IsTrue, ◌↔◌}
use Rattle.std.specs.Option.{option_map}
use Rattle.nq_logic.specs.Terms.{Term}
use Rattle.nq_logic.specs.Histories.{History}
use Rattle.nq_proof.specs.Clauses.{Clause}
use Rattle.nq_events.specs.Events.{Hints}
use Rattle.nq_goals.specs.declared.kinds.Cause.TheVariants.{NoInduction}
use Rattle.nq_goals.specs.Inducting.{hinted_term, suggesting_among, suggesting_in, suggestions}
use Rattle.nq_goals.specs.Moves.{HasNoCandidate}
use Rattle.nq_goals.specs.Normal.{IsNormal}
use Rattle.nq_goals.specs.Spent.{IsFalse, IsGround, IsSpent, MayBeSpent, normal, first_and_ground}

module _ (h : History) (hints : Hints) (goal : Clause) where
  pub normal_may : (b : Bool) → IsTrue b ↔ IsNormal h hints goal → b ≡ true → MayBeSpent h hints [] goal
  normal_may b tells e = normal (tells.0 e)

  pub ground_may : (b : Bool) → IsTrue b ↔ IsGround goal → not b ≡ false → MayBeSpent h hints [] goal
  ground_may b tells e = first_and_ground refl (tells.0 (denied b e))
    where
      denied : (b : Bool) → not b ≡ false → b ≡ true
      denied true e = refl
      denied false e = absurd (cc)

  -- no hint, and no call of the goal
  pub none_suggested : (b : Bool) → hints.induct ≡ None → IsTrue b ↔ (suggesting_in h goal ≡ [] → ⊥) → b ≡ false → suggestions h hints [] goal ≡ []
  none_suggested b hint tells e =
      ap (λ o. suggesting_among h (hinted_term o []) ++ suggesting_in h goal) hint ∙ by_list (suggesting_in h goal) tells
    where
      by_list : (ts : List Term) → IsTrue b ↔ (ts ≡ [] → ⊥) → ts ≡ []
      by_list [] tell = refl
      by_list (t ∷ ts) tell = let so = tell.1 (λ f. cc) in absurd (cc)

  pub left_over : MayBeSpent h hints [] goal → HasNoCandidate h hints goal → suggestions h hints [] goal ≡ [] → (IsFalse h goal → ⊥) → IsSpent h hints [] goal NoInduction
  left_over form nothing none true_once = record { form = form; holds = (nothing, none); first = (true_once, tt) }

pub no_hint : {X Y : Type 0} (f : X → Y) (o : Option X) (b : Bool) → b ≡ is_some o → b ≡ false → option_map f o ≡ None
no_hint f None b is e = refl
no_hint f (Some x) b is e = absurd (cc)

pub not_suggested : (b : Bool) → not b ≡ true → b ≡ false
not_suggested true e = absurd (cc)
not_suggested false e = refl
