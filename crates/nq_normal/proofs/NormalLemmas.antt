-- The five parts of the normal form together.
use Rattle.std.proofs.Common.{◌≡◌, Bool, true, false, ◌&&◌, refl, sym, ap, ap₂, ◌∙◌}
use Rattle.std.specs.Prelude.{not, IsTrue, ◌↔◌}
use Rattle.nq_logic.specs.Histories.{History}
use Rattle.nq_proof.specs.Clauses.{Clause}
use Rattle.nq_events.specs.Events.{Hints}
use Rattle.nq_goals.specs.Normal.{is_normal, IsNormal, has_connective, has_openable, has_decided_test, has_rewritable, has_settled}
use Rattle.nq_goals.proofs.Causes.{normal_is_told}
use Rattle.nq_normal.specs.Plain.{is_plain}

pub normal_joined : (h : History) (hints : Hints) (goal : Clause) (plain rewritable answer : Bool) → plain ≡ is_plain h hints goal → rewritable ≡ has_rewritable h hints goal →
    answer ≡ (plain && not rewritable) → answer ≡ is_normal h hints goal
normal_joined h hints goal plain rewritable answer p r is =
    is
    ∙ (ap₂ (λ a b. a && not b) p r
    ∙ of_bools (has_connective goal) (has_openable h hints goal) (has_decided_test h goal) (has_rewritable h hints goal) (has_settled goal))
  where
    of_bools : (a b c d e : Bool) → ((not a && not b && not c && not e) && not d) ≡ (not a && not b && not c && not d && not e)
    of_bools true b c d e = refl
    of_bools false true c d e = refl
    of_bools false false true d e = refl
    of_bools false false false true true = refl
    of_bools false false false true false = refl
    of_bools false false false false true = refl
    of_bools false false false false false = refl

pub not_plain : (h : History) (hints : Hints) (goal : Clause) (plain : Bool) → plain ≡ is_plain h hints goal → plain ≡ false → false ≡ is_normal h hints goal
not_plain h hints goal plain p untrue =
    normal_joined h hints goal plain (has_rewritable h hints goal) false p refl (ap (λ b. b && not (has_rewritable h hints goal)) (sym untrue))

pub normal_tells : (h : History) (hints : Hints) (goal : Clause) (answer : Bool) → answer ≡ is_normal h hints goal → IsTrue answer ↔ IsNormal h hints goal
normal_tells h hints goal answer e =
    let told = normal_is_told h hints goal in
    ((λ t. told.0 (sym e ∙ t)), (λ n. e ∙ told.1 n))
