use Rattle.nq_bank.specs.Content.{terms_at}
use Rattle.nq_history.specs.Events.{events_at}
use Rattle.nq_event.specs.EventsAt.{hints_at}
use Rattle.nq_stuck.proofs.CandidateLemmas.{none_changed}
use Rattle.nq_stuck.proofs.goal.may_change.Goals as goal

pub returns : goal.returns
returns c =
    let bank = c.args.bank.now in
    let h = events_at bank c.args.history.now in
    let hints = hints_at bank c.args.hints.now in
    none_changed h hints (terms_at bank c.args.goal.now) c.in_ok-has_substitution.field-0 c.in_ok-has_substitution.ensures c.if-branch.false (c.in_ok-has_fertilization.ensures c.if-branch-2.false)
    (c.in_ok-has_elimination.ensures c.if-branch-3.false) c.in_ok-general.general c.in_ok-general.ensures
