use Rattle.nq_bank.specs.Content.{terms_at}
use Rattle.nq_history.specs.Events.{events_at}
use Rattle.nq_event.specs.EventsAt.{hints_at}
use Rattle.nq_stuck.proofs.GoalLemmas.{left_over, not_suggested}
use Rattle.nq_stuck.proofs.goal.is_stuck.Goals as goal

pub returns : goal.returns
returns c =
    let bank = c.args.bank.now in
    let h = events_at bank c.args.history.now in
    let hints = hints_at bank c.args.hints.now in
    λ e.
    left_over h hints (terms_at bank c.args.goal.now) (c.in_ok-may_simplify.ensures c.if-branch.false) (c.in_ok-may_go_on.ensures c.if-branch-2.false)
    (c.in_ok-suggested.ensures (not_suggested c.in_ok-suggested.suggested e))
