use Rattle.std.proofs.lemmas.Result.{on_ok_weaker}
use Rattle.nq_block.proofs.Keeping.{fits}
use Rattle.nq_block.proofs.RuleLemmas.{join_written}
use Rattle.nq_block.proofs.writer.Writer.joined.Goals as goal

pub returns-clause-rule : goal.returns-clause-rule
returns-clause-rule c =
    λ frame clause v none over concluded low.
    let first = c.in_ok-term.ensures.writing frame v over.terms.0 in
    let second = c.in_ok-term-2.ensures.writing frame first over.terms.1.0 in
    let third = c.in_ok-term-3.ensures.writing frame second over.terms.1.1.0 in
    let parts = c.args.parts in
    on_ok_weaker c.put.result
    (λ adds. join_written c.args.bank.now frame c.term-3.new.self c.put.new.self clause third low c.args.first c.args.second parts.test parts.first parts.second (fits c.args.first c.ranges.first) (fits c.args.second c.ranges.second)
    (c.in_ok-term-3.ensures.keeps.terms parts.test (c.in_ok-term-2.ensures.keeps.terms parts.test c.in_ok-term.ensures.written)) (c.in_ok-term-3.ensures.keeps.terms parts.first c.in_ok-term-2.ensures.written) c.in_ok-term-3.ensures.written
    c.number.result c.number-2.result c.number-3.result c.number.ensures c.number-2.ensures c.number-3.ensures concluded adds)
    c.put.ensures.line
