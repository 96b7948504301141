use Rattle.std.specs.Prelude.{false}
use Rattle.nq_bank.specs.Content.{terms_at}
use Rattle.nq_history.specs.Events.{events_at}
use Rattle.nq_normal.specs.Definitions.{hints_at}
use Rattle.nq_normal.proofs.NormalLemmas.{normal_joined, normal_tells, not_plain}
use Rattle.nq_normal.proofs.goal.is_normal.Goals as goal

pub returns-clause-is : goal.returns-clause-is
returns-clause-is c =
    let bank = c.args.bank.now in
    normal_joined (events_at bank c.args.history.now) (hints_at bank c.args.hints.now) (terms_at bank c.args.goal.now) c.in_ok-plain.plain c.in_ok-rewritable.rewritable c.is_both.result c.in_ok-plain.ensures c.in_ok-rewritable.ensures c.is_both.ensures

pub returns-clause-tells : goal.returns-clause-tells
returns-clause-tells c =
    let bank = c.args.bank.now in
    normal_tells (events_at bank c.args.history.now) (hints_at bank c.args.hints.now) (terms_at bank c.args.goal.now) c.is_both.result
    (normal_joined (events_at bank c.args.history.now) (hints_at bank c.args.hints.now) (terms_at bank c.args.goal.now) c.in_ok-plain.plain c.in_ok-rewritable.rewritable c.is_both.result c.in_ok-plain.ensures c.in_ok-rewritable.ensures c.is_both.ensures)

pub returns-then-not-plain-clause-is : goal.returns-then-not-plain-clause-is
returns-then-not-plain-clause-is c =
    let bank = c.args.bank.now in
    not_plain (events_at bank c.args.history.now) (hints_at bank c.args.hints.now) (terms_at bank c.args.goal.now) c.in_ok-plain.plain c.in_ok-plain.ensures c.if-not-plain.true

pub returns-then-not-plain-clause-tells : goal.returns-then-not-plain-clause-tells
returns-then-not-plain-clause-tells c =
    let bank = c.args.bank.now in
    normal_tells (events_at bank c.args.history.now) (hints_at bank c.args.hints.now) (terms_at bank c.args.goal.now) false
    (not_plain (events_at bank c.args.history.now) (hints_at bank c.args.hints.now) (terms_at bank c.args.goal.now) c.in_ok-plain.plain c.in_ok-plain.ensures c.if-not-plain.true)
