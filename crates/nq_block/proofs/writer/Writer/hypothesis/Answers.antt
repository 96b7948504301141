use Rattle.std.proofs.Common.{refl}
use Rattle.std.proofs.lemmas.Result.{on_ok_weaker}
use Rattle.nq_block.specs.Writing.{with_case}
use Rattle.nq_block.proofs.Keeping.{fits}
use Rattle.nq_block.proofs.InductionLemmas.{hypothesis_written}
use Rattle.nq_block.proofs.writer.Writer.hypothesis.Goals as goal

pub returns-clause-writing : goal.returns-clause-writing
returns-clause-writing c =
    λ frame d v can.
    on_ok_weaker c.put.result
    (λ adds. hypothesis_written c.args.bank.now (with_case frame d) c.bindings.new.self c.put.new.self (c.in_ok-bindings.ensures.writing (with_case frame d) v can.names can.terms) frame.cases d c.args.line c.args.pairs.now c.in_ok-bindings.bindings.items refl
    (fits c.args.line c.ranges.line) c.in_ok-bindings.ensures.written c.in_ok-bindings.ensures.numbers can.line adds)
    c.put.ensures.line
