use Rattle.std.proofs.lemmas.Result.{on_ok_weaker}
use Rattle.nq_block.proofs.Keeping.{fits}
use Rattle.nq_block.proofs.RuleLemmas.{instance_written}
use Rattle.nq_block.proofs.writer.Writer.instance.Goals as goal

pub returns-clause-rule : goal.returns-clause-rule
returns-clause-rule c =
    λ frame clause v none over concluded low.
    on_ok_weaker c.put.result
    (λ adds. instance_written c.args.bank.now frame c.bindings.new.self c.put.new.self clause (c.in_ok-bindings.ensures.writing frame v over.names over.terms) low c.args.line c.args.pairs.now c.in_ok-bindings.bindings.items (fits c.args.line c.ranges.line) c.in_ok-bindings.ensures.written c.in_ok-bindings.ensures.numbers concluded adds)
    c.put.ensures.line
