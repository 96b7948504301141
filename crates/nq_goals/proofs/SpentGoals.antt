-- Goals that are left over.
use Rattle.std.proofs.Common.{◌≡◌, ℕ, true, false, List, [], ◌∷◌, refl, ap, inl, inr, arith}
use Rattle.std.specs.Prelude.{codes}
use Rattle.nq_logic.specs.Terms.{Term, IsAmong, substituted}
use Rattle.nq_logic.specs.Words.{call2}
use Rattle.nq_logic.specs.Numerals.{number_of}
use Rattle.nq_logic.specs.Values.{is_tree_value}
use Rattle.nq_logic.specs.Sizes.{tree_depth}
use Rattle.nq_bank.specs.Parts.{occurs}
use Rattle.nq_goals.specs.Dropping.{shares}
use Rattle.nq_goals.specs.Recursion.{holds_recursive}
use Rattle.nq_goals.specs.declared.kinds.Cause.TheVariants.{NoInduction, Loop, Forbidden, Depth}
use Rattle.nq_fragments.specs.Evaluation.{outcome_within}
use Rattle.nq_goals.specs.Normal.{IsNormal}
use Rattle.nq_goals.specs.Paths.{Above, inducted_goals}
use Rattle.nq_goals.specs.Moves.{HasNoCandidate, Subsumes}
use Rattle.nq_goals.specs.Spent.{IsSpent, normal, first_and_ground}
use Rattle.nq_goals.specs.NormalExamples.{p, q, x, y, plus, no_hints}
use Rattle.nq_goals.specs.SpentExamples.{SpentExamples, not_to_induct, once_inducted, often_inducted}
use Rattle.nq_goals.specs.Functions.{is_call_among}
use Rattle.nq_logic.proofs.Lists.{each_at}
use Rattle.nq_goals.proofs.Candidates.{no_elimination}

pub normal_q : IsNormal [] no_hints (q ∷ [])
unfolding number_of is_tree_value shares occurs holds_recursive
normal_q = record { no_connective = refl; none_openable = refl; no_decided_test = refl; none_rewritable = refl; none_settled = refl }

pub none_of_q : HasNoCandidate [] no_hints (q ∷ [])
unfolding number_of is_tree_value shares occurs holds_recursive
none_of_q = record { no_substituting = refl; no_eliminating = no_elimination [] no_hints (q ∷ []) refl refl; no_fertilizing = refl; no_generalizing = refl; no_dropping = refl }

normal_empty : IsNormal [] no_hints []
normal_empty = record { no_connective = refl; none_openable = refl; no_decided_test = refl; none_rewritable = refl; none_settled = refl }

normal_sum : (a b : Term) → IsNormal [] no_hints (plus x y ∷ [])
unfolding number_of is_tree_value shares occurs holds_recursive
normal_sum a b = record { no_connective = refl; none_openable = refl; no_decided_test = refl; none_rewritable = refl; none_settled = refl }

some_name : (n : List ℕ) (ns : List (List ℕ)) → (n ∷ ns) ≡ [] → ⊥
some_name n ns e = cc

some_term : (t : Term) (ts : List Term) → (t ∷ ts) ≡ [] → ⊥
some_term t ts e = cc

pub spent_q : (above : Above) → IsSpent [] no_hints above (q ∷ []) NoInduction
spent_q above = record { form = normal normal_q; holds = (none_of_q, refl); first = ((λ e. some_name _ _ e.0.ground), tt) }

none_of_sum : HasNoCandidate [] no_hints (plus x y ∷ [])
unfolding number_of is_tree_value shares occurs holds_recursive
none_of_sum = record { no_substituting = refl; no_eliminating = no_elimination [] no_hints (plus x y ∷ []) refl refl; no_fertilizing = refl; no_generalizing = refl; no_dropping = refl }

forbidden_sum : IsSpent [] not_to_induct [] (plus x y ∷ []) Forbidden
unfolding number_of is_tree_value shares occurs holds_recursive
forbidden_sum = record {
  form = normal (record { no_connective = refl; none_openable = refl; no_decided_test = refl; none_rewritable = refl; none_settled = refl });
  holds = (record { no_substituting = refl; no_eliminating = no_elimination [] not_to_induct (plus x y ∷ []) refl refl; no_fertilizing = refl; no_generalizing = refl; no_dropping = refl }, refl);
  first = ((λ e. some_name _ _ e.0.ground), ((λ e. some_term _ _ e.1), ((λ e. absurd e.1.inducted), tt)));
}

loop_sum : IsSpent [] no_hints once_inducted (plus p q ∷ []) Loop
unfolding number_of is_tree_value shares occurs holds_recursive
loop_sum = record {
  form = normal (record { no_connective = refl; none_openable = refl; no_decided_test = refl; none_rewritable = refl; none_settled = refl });
  holds = (record { no_substituting = refl; no_eliminating = no_elimination [] no_hints (plus p q ∷ []) refl refl; no_fertilizing = refl; no_generalizing = refl; no_dropping = refl }, record { earlier = plus x y ∷ []; inducted = inl refl; subsumes = record { substitution = (codes "X", p) ∷ (codes "Y", q) ∷ []; takes = (inl refl, tt) } });
  first = ((λ e. some_name _ _ e.0.ground), ((λ e. some_term _ _ e.1), tt));
}

-- no instance of a product is a sum
no_product : Subsumes (call2 "TIMES" x y ∷ []) (plus x y ∷ []) → ⊥
no_product s = of_place s.takes.0
  where
    true_is_false : true ≡ false → ⊥
    true_is_false e = cc

    of_place : IsAmong (substituted s.substitution (call2 "TIMES" x y)) (plus x y ∷ []) → ⊥
    of_place (inl e) = true_is_false (ap (is_call_among (codes "TIMES" ∷ [])) e)
    of_place (inr m) = absurd m

deep_sum : IsSpent [] no_hints often_inducted (plus x y ∷ []) Depth
unfolding number_of is_tree_value shares occurs holds_recursive
deep_sum = record {
  form = normal (normal_sum x y);
  holds = (none_of_sum, omega arith);
  first = (
    (λ e. some_name _ _ e.0.ground),
    (
      (λ e. some_term _ _ e.1),
      (
        (λ e. each_at (λ c. Subsumes c (plus x y ∷ []) → ⊥) e.1.earlier (inducted_goals often_inducted) (n, (n, (n, (n, (n, (n, (n, (n, (n, (n, (n, (n, tt)))))))))))) e.1.inducted e.1.subsumes),
        ((λ e. false_is_true e.1), tt),
      ),
    ),
  );
}
  where
    n : Subsumes (call2 "TIMES" x y ∷ []) (plus x y ∷ []) → ⊥
    n = no_product

    false_is_true : false ≡ true → ⊥
    false_is_true e = cc

pub spent_examples : SpentExamples
unfolding number_of is_tree_value outcome_within tree_depth shares occurs holds_recursive
spent_examples = record {
  empty = record { form = normal normal_empty; holds = tt; first = tt };
  ground = record { form = first_and_ground refl refl; holds = (record { ground = refl; shallow = omega arith; value = refl }, tt); first = tt };
  nothing_suggested = spent_q [];
  forbidden = forbidden_sum;
  loop = loop_sum;
  deep = deep_sum;
}
