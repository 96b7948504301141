-- A proposition is true under all values exactly where it is true in all assignments to its other terms.
use Rattle.std.proofs.Common.{◌≡◌, ◌≤◌, ◌<◌, ◌⊎◌, Bool, true, false, List, [], ◌∷◌, ◌++◌, length, refl, sym, ap, ap₂, ◌∙◌, inl, inr, arith}
use Rattle.std.specs.Prelude.{◌&&◌, ◌||◌}
use Rattle.nq_logic.specs.Terms.{Term, IsAmong}
use Rattle.nq_logic.specs.Shapes.{chosen}
use Rattle.nq_logic.proofs.Lists.{among_left, among_right}
use Rattle.nq_proof.specs.Clauses.{has_term, same_term, distinct}
use Rattle.std.proofs.lemmas.List.{length-map}
use Rattle.nq_proof.proofs.Tests.{or_cases, distinct_in, same_true}
use Rattle.nq_rule.proofs.LiteralLemmas.{true_same}
use Rattle.nq_rule.proofs.ClauseLemmas.{has_term-push}
use Rattle.nq_bank.specs.declared.node.TermId.{TermId}
use Rattle.nq_bank.specs.Content.{Content, term_at, terms_at}
use Rattle.nq_fragments.specs.Propositions.{Proposition, Other, Truth, Falsity, Choice, Denial, Joined, proposition_of, others_in, nodes_in, truth_of, joined_truth}
use Rattle.nq_quick.specs.Assignments.{truth_with, true_in_all}
use Rattle.nq_fragments.specs.Tautologies.{IsSmallTautology, node_limit, other_limit}
use Rattle.nq_quick.specs.Answers.{AreOthers}

both_true : (a b : Bool) → a ≡ true → b ≡ true → (a && b) ≡ true
both_true true true h k = refl
both_true true false h k = absurd cc
both_true false b h k = absurd cc

first_true : (a b : Bool) → (a && b) ≡ true → a ≡ true
first_true true b h = refl
first_true false b h = absurd cc

second_true : (a b : Bool) → (a && b) ≡ true → b ≡ true
second_true true b h = h
second_true false b h = absurd cc

either_left : (a b : Bool) → a ≡ true → (a || b) ≡ true
either_left true b h = refl
either_left false b h = absurd cc

either_right : (a b : Bool) → b ≡ true → (a || b) ≡ true
either_right true b h = refl
either_right false b h = h

-- a term is itself
pub same_itself : (t : Term) → same_term t t ≡ true
same_itself t = true_same t t refl

pub always_in_all : (p : Proposition) (ts trues : List Term) → ((values : Term → Bool) → truth_of values p ≡ true) → true_in_all ts trues p ≡ true
always_in_all p [] trues h = h (λ t. has_term t trues)
always_in_all p (t ∷ ts) trues h = both_true (true_in_all ts (trues ++ t ∷ []) p) (true_in_all ts trues p) (always_in_all p ts (trues ++ t ∷ []) h) (always_in_all p ts trues h)

-- the truth of a proposition rests on that of its other terms
truth_same : (v w : Term → Bool) (p : Proposition) → ((t : Term) → IsAmong t (others_in p) → v t ≡ w t) → truth_of v p ≡ truth_of w p
truth_same v w (Other t) h = h t (inl refl)
truth_same v w Truth h = refl
truth_same v w Falsity h = refl
truth_same v w (Choice p x y) h =
    let test : truth_of v p ≡ truth_of w p = truth_same v w p (λ t k. h t (among_left t (others_in p) (others_in x ++ others_in y) k)) in
    let first : truth_of v x ≡ truth_of w x = truth_same v w x (λ t k. h t (among_right t (others_in p) (others_in x ++ others_in y) (among_left t (others_in x) (others_in y) k))) in
    let second : truth_of v y ≡ truth_of w y = truth_same v w y (λ t k. h t (among_right t (others_in p) (others_in x ++ others_in y) (among_right t (others_in x) (others_in y) k))) in
    ap (λ b. chosen b (truth_of v x) (truth_of v y)) test ∙ ap₂ (chosen (truth_of w p)) first second
truth_same v w (Denial p) h = ap (λ b. chosen b false true) (truth_same v w p h)
truth_same v w (Joined c p q) h =
    let left : truth_of v p ≡ truth_of w p = truth_same v w p (λ t k. h t (among_left t (others_in p) (others_in q) k)) in
    let right : truth_of v q ≡ truth_of w q = truth_same v w q (λ t k. h t (among_right t (others_in p) (others_in q) k)) in
    ap₂ (joined_truth c) left right

module _ (values : Term → Bool) where
  abbrev more_trues : Bool → Term → List Term → List Term
  more_trues true t trues = trues ++ t ∷ []
  more_trues false t trues = trues

  -- the terms that are true, at the end of the way that the values take
  abbrev reached : List Term → List Term → List Term
  reached [] trues = trues
  reached (t ∷ ts) trues = reached ts (more_trues (values t) t trues)

  true_where_reached : (p : Proposition) (ts trues : List Term) → true_in_all ts trues p ≡ true → truth_with (reached ts trues) p ≡ true
  true_where_reached p [] trues h = h
  true_where_reached p (t ∷ ts) trues h =
      by_value (values t)
      (true_where_reached p ts (trues ++ t ∷ []) (first_true (true_in_all ts (trues ++ t ∷ []) p) (true_in_all ts trues p) h))
      (true_where_reached p ts trues (second_true (true_in_all ts (trues ++ t ∷ []) p) (true_in_all ts trues p) h))
    where
      by_value : (b : Bool) → truth_with (reached ts (trues ++ t ∷ [])) p ≡ true → truth_with (reached ts trues) p ≡ true → truth_with (reached ts (more_trues b t trues)) p ≡ true
      by_value true h k = h
      by_value false h k = k

  -- what is true stays so
  kept_true : (u : Term) (ts trues : List Term) → has_term u trues ≡ true → has_term u (reached ts trues) ≡ true
  kept_true u [] trues h = h
  kept_true u (t ∷ ts) trues h =
      by_value (values t)
      (kept_true u ts (trues ++ t ∷ []) (has_term-push u t trues ∙ either_left (has_term u trues) (same_term u t) h))
      (kept_true u ts trues h)
    where
      by_value : (b : Bool) → has_term u (reached ts (trues ++ t ∷ [])) ≡ true → has_term u (reached ts trues) ≡ true → has_term u (reached ts (more_trues b t trues)) ≡ true
      by_value true h k = h
      by_value false h k = k

  becomes_true : (u : Term) (ts trues : List Term) → IsAmong u ts → values u ≡ true → has_term u (reached ts trues) ≡ true
  becomes_true u [] trues among h = absurd among
  becomes_true u (t ∷ ts) trues (inr later) h = becomes_true u ts (more_trues (values t) t trues) later h
  becomes_true u (t ∷ ts) trues (inl same) h =
      let value : values t ≡ true = ap values (sym same) ∙ h in
      let here : has_term u (trues ++ t ∷ []) ≡ true = has_term-push u t trues ∙ either_right (has_term u trues) (same_term u t) (ap (same_term u) (sym same) ∙ same_itself u) in
      ap (λ b. has_term u (reached ts (more_trues b t trues))) value ∙ kept_true u ts (trues ++ t ∷ []) here

  from_push : (u t : Term) (trues : List Term) → values t ≡ true → has_term u (trues ++ t ∷ []) ≡ true → (values u ≡ true) ⊎ (has_term u trues ≡ true)
  from_push u t trues e h =
      elim (or_cases (has_term u trues) (same_term u t) (sym (has_term-push u t trues) ∙ h)) [
        | inl k ↦ inr k
        | inr k ↦ inl (ap values (same_true u t k) ∙ e)
      ]

  -- only what the values make true is added
  only_trues : (u : Term) (ts trues : List Term) → has_term u (reached ts trues) ≡ true → (values u ≡ true) ⊎ (has_term u trues ≡ true)
  only_trues u [] trues h = inr h
  only_trues u (t ∷ ts) trues h = by_value (values t) refl (only_trues u ts (trues ++ t ∷ [])) (only_trues u ts trues) h
    where
      by_value : (b : Bool) → values t ≡ b → (has_term u (reached ts (trues ++ t ∷ [])) ≡ true → (values u ≡ true) ⊎ (has_term u (trues ++ t ∷ []) ≡ true)) → (has_term u (reached ts trues) ≡ true → (values u ≡ true) ⊎ (has_term u trues ≡ true)) → has_term u (reached ts (more_trues b t trues)) ≡ true → (values u ≡ true) ⊎ (has_term u trues ≡ true)
      by_value false e more same k = same k
      by_value true e more same k = elim (more k) [ inl v ↦ inl v | inr v ↦ from_push u t trues e v ]

  values_reached : (u : Term) (ts : List Term) → IsAmong u ts → has_term u (reached ts []) ≡ values u
  values_reached u ts among = by_value (values u) refl (has_term u (reached ts [])) refl
    where
      by_value : (b : Bool) → values u ≡ b → (d : Bool) → has_term u (reached ts []) ≡ d → d ≡ b
      by_value true e d k = sym k ∙ becomes_true u ts [] among e
      by_value false e false k = refl
      by_value false e true k = elim (only_trues u ts [] k) [ inl v ↦ sym v ∙ e | inr v ↦ sym v ]

  in_all_always : (p : Proposition) (ts : List Term) → ((t : Term) → IsAmong t (others_in p) → IsAmong t ts) → true_in_all ts [] p ≡ true → truth_of values p ≡ true
  in_all_always p ts within h =
      truth_same values (λ t. has_term t (reached ts [])) p (λ t k. sym (values_reached t ts (within t k))) ∙ true_where_reached p ts [] h

-- the answer yes
pub is_tautology : (bank : Content) (t : TermId) (others : List TermId) → nodes_in (proposition_of (term_at bank t)) ≤ node_limit → AreOthers bank t others → length others ≤ other_limit → true_in_all (terms_at bank others) [] (proposition_of (term_at bank t)) ≡ true → IsSmallTautology (term_at bank t)
is_tautology bank t others few are few_others h =
    let p : Proposition = proposition_of (term_at bank t) in
    let in_all : true_in_all (distinct (others_in p)) [] p ≡ true = ap (λ ts. true_in_all ts [] p) (sym are.are) ∙ h in
    let count : length (distinct (others_in p)) ≡ length others = ap length (sym are.are) ∙ length-map others (term_at bank) in
    record {
      few_nodes = few;
      few_others = omega (arith, count);
      always_true = λ values. in_all_always values p (distinct (others_in p)) (λ u k. distinct_in u (others_in p) k) in_all;
    }

-- the answers no
pub too_many_nodes : (t : Term) → node_limit < nodes_in (proposition_of t) → IsSmallTautology t → ⊥
too_many_nodes t h small = omega (arith, small.few_nodes)

pub too_many_others : (bank : Content) (t : TermId) (others : List TermId) → AreOthers bank t others → other_limit < length others → IsSmallTautology (term_at bank t) → ⊥
too_many_others bank t others are h small =
    let count : length (distinct (others_in (proposition_of (term_at bank t)))) ≡ length others = ap length (sym are.are) ∙ length-map others (term_at bank) in
    omega (arith, count, small.few_others)

pub not_always_true : (t : Term) (ts : List Term) → true_in_all ts [] (proposition_of t) ≡ false → IsSmallTautology t → ⊥
not_always_true t ts h small =
    let yes : true_in_all ts [] (proposition_of t) ≡ true = always_in_all (proposition_of t) ts [] small.always_true in
    absurd cc
