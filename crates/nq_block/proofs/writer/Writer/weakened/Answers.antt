use Rattle.std.proofs.lemmas.Result.{on_ok_weaker}
use Rattle.nq_block.proofs.Keeping.{fits}
use Rattle.nq_block.proofs.RuleLemmas.{weaken_written}
use Rattle.nq_block.proofs.writer.Writer.weakened.Goals as goal

pub returns-clause-rule : goal.returns-clause-rule
returns-clause-rule c =
    λ frame clause v none over concluded low.
    on_ok_weaker c.put.result
    (λ adds. weaken_written c.args.bank.now frame c.numbers_of.new.self c.put.new.self clause (c.in_ok-terms.ensures.writing frame v over.terms) low c.args.line c.args.terms.now c.in_ok-terms.terms.items (fits c.args.line c.ranges.line) c.in_ok-terms.ensures.written c.in_ok-terms.ensures.numbers concluded adds)
    c.put.ensures.line
