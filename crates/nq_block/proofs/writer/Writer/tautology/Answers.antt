use Rattle.std.proofs.lemmas.Result.{on_ok_weaker}
use Rattle.nq_block.proofs.RuleLemmas.{taut_written}
use Rattle.nq_block.proofs.writer.Writer.tautology.Goals as goal

pub returns-clause-rule : goal.returns-clause-rule
returns-clause-rule c =
    λ frame clause v none over concluded low.
    on_ok_weaker c.put.result
    (λ adds. taut_written c.args.bank.now frame c.numbers_of.new.self c.put.new.self clause (c.in_ok-terms.ensures.writing frame v over.terms) low c.args.terms.now c.in_ok-terms.terms.items c.in_ok-terms.ensures.written c.in_ok-terms.ensures.numbers concluded adds)
    c.put.ensures.line
