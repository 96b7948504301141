use Rattle.std.proofs.Common.{[], ◌+◌, refl, sym, subst, take, ◌∙◌}
use Rattle.nq_waterfall.proofs.SolvingLemmas.{get_at}
use Rattle.nq_legal.specs.Legal.{AreCopies}
use Rattle.nq_legal.proofs.MovingLemmas.{copied_more, copied_whole}
use Rattle.nq_legal.proofs.moving.copied.Goals as goal

pub loop-goal-init : goal.loop-goal-init
loop-goal-init c = subst (λ vs. AreCopies vs []) (sym c.new-copies.ensures.items) refl

pub loop-goal-preserved : goal.loop-goal-preserved
loop-goal-preserved c =
    let here = get_at c.args.goals.now c.loop-goal.goal-index c.goal-item.result c.loop-goal-test.true c.goal-item.is in
    subst (λ vs. AreCopies vs (take (c.loop-goal.goal-index + 1) c.args.goals.now)) (sym c.in_ok-push.ensures.items)
    (copied_more c.args.goals.now c.loop-goal.copies.items c.loop-goal.goal-index c.goal-item.result c.in_ok-copy.copy here (c.in_ok-copy.ensures.items ∙ c.as_slice.ensures.value) c.loop-goal.invariant)

pub returns : goal.returns
returns c = copied_whole c.args.goals.now c.loop-goal.copies.items c.loop-goal.goal-index c.loop-goal-test.false c.loop-goal.invariant
