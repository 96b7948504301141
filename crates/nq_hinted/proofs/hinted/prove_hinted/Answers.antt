use Rattle.std.proofs.Common.{◌≡◌, true, false, sym, subst, List}
use Rattle.std.specs.Prelude.{All}
use Rattle.nq_history.specs.declared.hints.Instance.{Instance}
use Rattle.nq_history.specs.Hints.{InstanceStands}
use Rattle.nq_eval.proofs.LineLemmas.{grown_refl}
use Rattle.nq_hinted.specs.Answers.{HaveDistinctPairs}
use Rattle.nq_hinted.proofs.HintedLemmas.{instances_in}
use Rattle.nq_hinted.proofs.hinted.prove_hinted.Goals as goal

pub prove_distinct-requires : goal.prove_distinct-requires
prove_distinct-requires c =
    let distinct : HaveDistinctPairs c.args.work.now.bank c.args.hints.now.instances.items =
    subst (λ (xs : List Instance). HaveDistinctPairs c.args.work.now.bank xs) c.as_slice.ensures.value (c.have_distinct_pairs.ensures.0 c.if-have_distinct_pairs.true) in
    record {
      can = record {
        stands = c.requires.stands;
        ready = c.requires.ready;
        goal_stands = c.requires.goal;
        over = c.requires.over;
        outside = c.requires.none;
        hints_stand = c.requires.hints;
        pairs = instances_in c.args.history.now c.args.work.now c.args.hints.now c.requires.hints c.requires.hint_terms distinct;
      };
    }

pub have_distinct_pairs-requires : goal.have_distinct_pairs-requires
have_distinct_pairs-requires c = record { stand = subst (All (InstanceStands c.args.work.now.bank)) (sym c.as_slice.ensures.value) c.requires.hints.instances }

pub returns-else-have_distinct_pairs-clause-answer : goal.returns-else-have_distinct_pairs-clause-answer
returns-else-have_distinct_pairs-clause-answer c =
    λ distinct h.
    let all : HaveDistinctPairs c.args.work.now.bank c.as_slice.result.now = subst (λ (xs : List Instance). HaveDistinctPairs c.args.work.now.bank xs) (sym c.as_slice.ensures.value) distinct in
    let told : c.have_distinct_pairs.result ≡ true = c.have_distinct_pairs.ensures.1 all in
    let other : c.have_distinct_pairs.result ≡ false = c.if-have_distinct_pairs.false in
    absurd cc

pub returns-else-have_distinct_pairs-clause-grows : goal.returns-else-have_distinct_pairs-clause-grows
returns-else-have_distinct_pairs-clause-grows c = grown_refl c.args.history.now c.args.work.now c.requires.stands
