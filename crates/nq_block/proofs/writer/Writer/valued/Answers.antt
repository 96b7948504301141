use Rattle.std.proofs.lemmas.Result.{on_ok_weaker}
use Rattle.nq_block.proofs.RuleLemmas.{value_written}
use Rattle.nq_block.proofs.writer.Writer.valued.Goals as goal

pub returns-clause-rule : goal.returns-clause-rule
returns-clause-rule c =
    λ frame clause v none over concluded low.
    on_ok_weaker c.put.result
    (λ adds. value_written c.args.bank.now frame c.term.new.self c.put.new.self clause (c.in_ok-term.ensures.writing frame v over.terms.0) low c.args.t c.number-term.result c.in_ok-term.ensures.written c.number-term.ensures concluded adds)
    c.put.ensures.line
