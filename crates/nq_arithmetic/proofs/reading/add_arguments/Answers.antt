use Rattle.std.proofs.Common.{arith}
use Rattle.nq_bank.specs.declared.node.TermId.{TermId}
use Rattle.nq_arithmetic.proofs.Lemmas.{argument_in}
use Rattle.nq_arithmetic.proofs.reading.add_arguments.Goals as goal

pub push_new-requires-clause-term : goal.push_new-requires-clause-term
push_new-requires-clause-term c = let d : TermId = record { 0 = 0 } in argument_in c.args.history.now c.args.work.now c.args.t c.args-arguments.result.now c.loop-i.i d c.requires.term c.args-arguments.ensures.parts c.args-arguments.ensures.earlier (omega (arith, c.loop-i-test.true))
