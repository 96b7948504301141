use Rattle.nq_bank.specs.Content.{terms_at}
use Rattle.nq_history.specs.Events.{events_at}
use Rattle.nq_event.specs.EventsAt.{hints_at}
use Rattle.nq_stuck.proofs.GeneralLemmas.{no_generalizing}
use Rattle.nq_stuck.proofs.common.has_generalization.Goals as goal

pub returns : goal.returns
returns c =
    let bank = c.args.bank.now in
    let h = events_at bank c.args.history.now in
    λ e. no_generalizing h (hints_at bank c.args.hints.now) (terms_at bank c.args.goal.now) (c.in_ok-has_repeated.ensures c.if-branch.false) (c.in_ok-balanced.ensures e)
