use Rattle.std.proofs.Common.{get_or}
use Rattle.nq_bank.specs.declared.node.TermId.{TermId}
use Rattle.nq_arithmetic.proofs.Lemmas.{one_at, same_id}
use Rattle.nq_arithmetic.proofs.checking.is_one_of.Goals as goal

pub returns-then-u-t : goal.returns-then-u-t
returns-then-u-t c = λ so. let d : TermId = record { 0 = 0 } in one_at c.args.goal.now c.loop-u.u-index d c.args.t c.loop-u-test.true (same_id (get_or c.args.goal.now c.loop-u.u-index d) c.args.t c.if-u-t.true)
