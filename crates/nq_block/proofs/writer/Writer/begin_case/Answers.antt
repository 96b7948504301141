use Rattle.std.proofs.lemmas.Result.{on_ok_weaker}
use Rattle.nq_block.proofs.Keeping.{fits}
use Rattle.nq_block.proofs.InductionLemmas.{case_written}
use Rattle.nq_block.proofs.writer.Writer.begin_case.Goals as goal

pub returns-clause-writing : goal.returns-clause-writing
returns-clause-writing c =
    λ frame v line over.
    on_ok_weaker c.put.result
    (λ adds. case_written c.args.bank.now frame c.term.new.self c.put.new.self (c.in_ok-term.ensures.writing frame v over) c.args.test c.number-test.result c.args.line (fits c.args.line c.ranges.line) c.in_ok-term.ensures.written c.number-test.ensures line adds)
    c.put.ensures.line
