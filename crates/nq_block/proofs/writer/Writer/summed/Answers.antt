use Rattle.std.proofs.lemmas.Result.{on_ok_weaker}
use Rattle.nq_block.proofs.SumLemmas.{linear_written}
use Rattle.nq_block.proofs.writer.Writer.summed.Goals as goal

pub returns-clause-rule : goal.returns-clause-rule
returns-clause-rule c =
    λ frame clause v none over concluded low.
    on_ok_weaker c.put.result
    (λ adds. linear_written c.args.bank.now frame c.multiples.new.self c.put.new.self clause (c.in_ok-multiples.ensures.writing frame v over.terms) low c.args.summands.now c.in_ok-multiples.multiples.items c.in_ok-multiples.ensures.written c.in_ok-multiples.ensures.fit c.in_ok-multiples.ensures.numbers concluded adds)
    c.put.ensures.line
