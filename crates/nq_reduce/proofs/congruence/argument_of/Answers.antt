use Rattle.std.proofs.Common.{arith}
use Rattle.nq_bank.specs.declared.node.TermId.{TermId}
use Rattle.nq_reduce.proofs.ArgumentLemmas.{argument_told}
use Rattle.nq_reduce.proofs.congruence.argument_of.Goals as goal

pub returns : goal.returns
returns c =
    let first : TermId = record { 0 = 0 } in
    argument_told c.args.history.now c.args.work.now c.args.t c.args-arguments.result.now c.args.place first c.requires.term c.args-arguments.ensures.parts c.args-arguments.ensures.earlier (omega arith) (omega arith)
