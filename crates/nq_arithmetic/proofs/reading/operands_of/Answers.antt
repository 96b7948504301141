use Rattle.std.proofs.Common.{arith}
use Rattle.nq_bank.specs.declared.node.TermId.{TermId}
use Rattle.nq_arithmetic.proofs.Lemmas.{argument_in}
use Rattle.nq_arithmetic.proofs.reading.operands_of.Goals as goal

pub returns-in-len1 : goal.returns-in-len1
returns-in-len1 c = let d : TermId = record { 0 = 0 } in record { first = argument_in c.args.history.now c.args.work.now c.args.t c.args-arguments.result.now 0 d c.requires.term c.args-arguments.ensures.parts c.args-arguments.ensures.earlier (omega (arith, c.in-len1.len_at_least)); second = argument_in c.args.history.now c.args.work.now c.args.t c.args-arguments.result.now 0 d c.requires.term c.args-arguments.ensures.parts c.args-arguments.ensures.earlier (omega (arith, c.in-len1.len_at_least)) }

pub returns-in-len2 : goal.returns-in-len2
returns-in-len2 c = let d : TermId = record { 0 = 0 } in record { first = argument_in c.args.history.now c.args.work.now c.args.t c.args-arguments.result.now 0 d c.requires.term c.args-arguments.ensures.parts c.args-arguments.ensures.earlier (omega (arith, c.in-len2.len_at_least)); second = argument_in c.args.history.now c.args.work.now c.args.t c.args-arguments.result.now 1 d c.requires.term c.args-arguments.ensures.parts c.args-arguments.ensures.earlier (omega (arith, c.in-len2.len_at_least)) }
