use Rattle.nq_bank.specs.Content.{term_at, terms_at}
use Rattle.nq_history.specs.Events.{events_at}
use Rattle.nq_event.specs.EventsAt.{hints_at}
use Rattle.nq_stuck.proofs.GoalLemmas.{no_hint, none_suggested}
use Rattle.nq_stuck.proofs.goal.may_induct.Goals as goal

pub returns : goal.returns
returns c =
    let bank = c.args.bank.now in
    let h = events_at bank c.args.history.now in
    let hints = hints_at bank c.args.hints.now in
    none_suggested h hints (terms_at bank c.args.goal.now) c.in_ok-suggested.suggested (no_hint (term_at bank) c.args.hints.now.induct c.is_some.result c.is_some.ensures c.if-is_some.false) c.in_ok-suggested.ensures
