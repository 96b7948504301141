use Rattle.std.proofs.Common.{refl}
use Rattle.nq_bank.specs.declared.node.TermId.{TermId}
use Rattle.nq_reduce.proofs.RewritingLemmas.{denial_told}
use Rattle.nq_reduce.proofs.knowledge.assumed_denial.Goals as goal

pub returns-then-is_denial : goal.returns-then-is_denial
returns-then-is_denial c =
    let first : TermId = record { 0 = 0 } in
    denial_told c.args.history.now c.args.work.now c.args.assumed.now c.args.t c.loop-a.a-index first c.requires.can c.loop-a-test.true (c.if-is_denial.ensures refl)
