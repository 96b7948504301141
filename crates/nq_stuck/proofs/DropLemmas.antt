-- The group of a literal that stands alone is all of the goal.
use Rattle.std.proofs.Common.{◌≡◌, ◌<◌, ◌≤◌, Bool, true, false, ◌||◌, ◌&&◌, List, [], ◌∷◌, length, refl, ap, ◌∙◌, arith}
use Rattle.std.specs.Prelude.{not, if◌then◌else◌}
use Rattle.nq_logic.specs.Terms.{Term}
use Rattle.nq_logic.specs.Histories.{History}
use Rattle.nq_bank.specs.declared.node.TermId.{TermId}
use Rattle.nq_bank.specs.Content.{Content, term_at, terms_at}
use Rattle.nq_proof.specs.Clauses.{Clause}
use Rattle.nq_rule.proofs.LiteralLemmas.{true_same}
use Rattle.nq_goals.specs.Dropping.{can_drop, droppings_of, group_from, group_of, is_empty, is_irrelevant}

group_alone : (t : Term) → group_of (t ∷ []) t ≡ t ∷ []
group_alone t = ap (λ b. group_from (length (t ∷ [])) (t ∷ []) (if b then [] else t ∷ [])) (true_same t t refl)

and_false : (b : Bool) → (b && false) ≡ false
and_false true = refl
and_false false = refl

stays : (h : History) (t : Term) → can_drop h (t ∷ []) (t ∷ []) ≡ false
stays h t =
    ap (λ b. is_irrelevant h (t ∷ []) && not (is_empty (if b || false then [] else t ∷ []))) (true_same t t refl) ∙ and_false (is_irrelevant h (t ∷ []))

alone_stays : (h : History) (t : Term) → droppings_of h (t ∷ []) ≡ []
alone_stays h t =
    ap (λ b. elim b as (λ b. List Clause) [ true ↦ group_of (t ∷ []) t ∷ [] | false ↦ [] ]) (ap (can_drop h (t ∷ [])) (group_alone t) ∙ stays h t)

pub one_stays : (bank : Content) (h : History) (ids : List TermId) → 1 ≤ length ids → length ids < 2 → droppings_of h (terms_at bank ids) ≡ []
one_stays bank h [] least below = refl
one_stays bank h (t ∷ []) least below = alone_stays h (term_at bank t)
one_stays bank h (t ∷ u ∷ ids) least below = absurd (omega arith)
