use Rattle.nq_bank.specs.Content.{terms_at}
use Rattle.nq_history.specs.Events.{events_at}
use Rattle.nq_stuck.proofs.GeneralLemmas.{none_shared, shared_none}
use Rattle.nq_stuck.proofs.common.shares_call.Goals as goal

pub returns : goal.returns
returns c =
    let bank = c.args.bank.now in
    let h = events_at bank c.args.history.now in
    λ absent.
    none_shared bank h c.in_ok-left.left.items c.in_ok-right.right.items (terms_at bank c.args.these.now) (terms_at bank c.args.others.now) c.in_ok-left.ensures.holds c.in_ok-right.ensures.holds
    (shared_none bank h c.in_ok-left.left.items c.in_ok-right.right.items _ _ c.has_common.result c.as_slice.ensures.value c.as_slice-2.ensures.value c.has_common.ensures absent)
