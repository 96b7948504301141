use Rattle.nq_bank.specs.Content.{terms_at}
use Rattle.nq_history.specs.Events.{events_at}
use Rattle.nq_event.specs.EventsAt.{hints_at}
use Rattle.nq_stuck.proofs.GoalLemmas.{normal_may, ground_may}
use Rattle.nq_stuck.proofs.goal.may_simplify.Goals as goal

pub returns-then-branch : goal.returns-then-branch
returns-then-branch c =
    let bank = c.args.bank.now in
    let h = events_at bank c.args.history.now in
    let hints = hints_at bank c.args.hints.now in
    λ e. normal_may h hints (terms_at bank c.args.goal.now) c.in_ok-is_normal.field-0 c.in_ok-is_normal.ensures.tells c.if-branch.true

pub returns : goal.returns
returns c =
    let bank = c.args.bank.now in
    let h = events_at bank c.args.history.now in
    let hints = hints_at bank c.args.hints.now in
    ground_may h hints (terms_at bank c.args.goal.now) c.in_ok-ground.ground c.in_ok-ground.ensures
