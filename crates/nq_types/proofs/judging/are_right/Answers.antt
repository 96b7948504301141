use Rattle.nq_bank.specs.declared.node.TermId.{TermId}
use Rattle.nq_bank.specs.Content.{term_at, terms_at}
use Rattle.nq_history.specs.Events.{events_at}
use Rattle.nq_types.specs.Shown.{allowed_literals}
use Rattle.nq_types.proofs.JudgeLemmas.{allowed_more}
use Rattle.nq_types.proofs.judging.are_right.Goals as goal

pub loop-literal-preserved : goal.loop-literal-preserved
loop-literal-preserved c =
    let bank = c.args.bank.now in
    let first : TermId = record { 0 = 0 } in
    allowed_more bank (allowed_literals (events_at bank c.args.history.now) c.args.set.0 (terms_at bank c.args.assumed.now) (term_at bank c.args.t)) c.args.literals.now c.loop-literal.literal-index first c.loop-literal-test.true c.loop-literal.invariant (c.is_right.ensures c.if-not-is_right.false)
