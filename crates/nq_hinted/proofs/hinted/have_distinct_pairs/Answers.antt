use Rattle.std.proofs.Common.{◌≡◌, ◌∙◌, ◌<◌, ◌+◌, ◌⊎◌, ℕ, true, false, List, length, get_or, inl, inr, refl, sym, ap, subst, arith}
use Rattle.std.proofs.lemmas.List.{get_or_read_under}
use Rattle.std.proofs.lemmas.Bool.{cases_order}
use Rattle.nq_bank.specs.Content.{Content}
use Rattle.nq_clause.specs.declared.substitution.Pair.{Pair}
use Rattle.nq_clause.specs.Substitution.{PairStands, substitution_at}
use Rattle.std.specs.Prelude.{All}
use Rattle.nq_history.specs.Hints.{InstanceStands}
use Rattle.nq_proof.specs.Rules.{is_substitution}
use Rattle.nq_history.specs.declared.hints.Instance.{Instance}
use Rattle.nq_hinted.specs.Answers.{HasDistinctPairs}
use Rattle.nq_hinted.proofs.hinted.have_distinct_pairs.Goals as goal

-- of each instance below the next place, where it holds of those so far and of the one there
one_more : (bank : Content) (xs : List Instance) (i : ℕ) (x : Instance) → i < length xs → x ≡ get_or xs i x → ((k : ℕ) (d : Instance) → k < i → HasDistinctPairs bank (get_or xs k d)) → HasDistinctPairs bank x →
    (k : ℕ) (d : Instance) → k < i + 1 → HasDistinctPairs bank (get_or xs k d)
one_more bank xs i x lt is before here k d below = by_place (cases_order k i)
  where
    by_place : (k ≡ i) ⊎ ((k < i) ⊎ (i < k)) → HasDistinctPairs bank (get_or xs k d)
    by_place (inl e) = subst (HasDistinctPairs bank) (get_or_read_under xs i (length xs) x d is lt refl ∙ ap (λ (n : ℕ). get_or xs n d) (sym e)) here
    by_place (inr (inl l)) = before k d l
    by_place (inr (inr l)) = absurd (omega (arith, l, below))

pub loop-instance-preserved : goal.loop-instance-preserved
loop-instance-preserved c =
    one_more c.args.work.now.bank c.args.instances.now c.loop-instance.instance-index c.instance-item.result c.loop-instance-test.true c.instance-item.is c.loop-instance.invariant
    (subst (λ (ps : List Pair). is_substitution (substitution_at c.args.work.now.bank ps) ≡ true) c.as_slice.ensures.value (sym c.are_distinct_variables.ensures ∙ c.if-not-are_distinct_variables.false))

pub returns-then-not-are_distinct_variables : goal.returns-then-not-are_distinct_variables
returns-then-not-are_distinct_variables c = (
  (λ e. absurd cc),
  λ all.
      let other : is_substitution (substitution_at c.args.work.now.bank c.instance-item.result.pairs.items) ≡ false =
      subst (λ (ps : List Pair). is_substitution (substitution_at c.args.work.now.bank ps) ≡ false) c.as_slice.ensures.value (sym c.are_distinct_variables.ensures ∙ c.if-not-are_distinct_variables.true) in
      let here : is_substitution (substitution_at c.args.work.now.bank c.instance-item.result.pairs.items) ≡ true =
      subst (HasDistinctPairs c.args.work.now.bank) (sym c.instance-item.is) (all c.loop-instance.instance-index c.instance-item.result c.loop-instance-test.true) in
      absurd cc,
)

pub returns : goal.returns
returns c = ((λ e k d below. c.loop-instance.invariant k d (omega (arith, below, c.loop-instance-test.false))), λ all. refl)

pub are_distinct_variables-requires : goal.are_distinct_variables-requires
are_distinct_variables-requires c =
    subst (All (PairStands c.args.work.now.bank)) (sym c.as_slice.ensures.value)
    (subst (InstanceStands c.args.work.now.bank) (sym c.instance-item.is) (c.requires.stand c.loop-instance.instance-index c.instance-item.result c.loop-instance-test.true)).pairs
