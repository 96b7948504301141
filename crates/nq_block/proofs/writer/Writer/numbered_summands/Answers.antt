use Rattle.std.proofs.Common.{◌<◌, ◌^◌}
use Rattle.std.specs.Prelude.{false}
use Rattle.nq_bank.specs.declared.node.TermId.{TermId}
use Rattle.nq_linear_rule.specs.declared.summand.Summand.{Summand}
use Rattle.nq_block.proofs.SumLemmas.{next_holds, multiples_next}
use Rattle.nq_block.proofs.writer.Writer.numbered_summands.Goals as goal

pub loop-one-preserved : goal.loop-one-preserved
loop-one-preserved c =
    let term : TermId = record { 0 = 0 } in
    let first : Summand = record { factor = 0; literal = term; forwards = false } in
    record {
      numbers = multiples_next c.args.self.now c.args.summands.now c.loop-one.one-index first c.loop-one.multiples.items c.push.new.self.items c.multiple.result c.loop-one-test.true c.loop-one.invariant.numbers c.multiple.ensures.multiple c.in_ok-push.ensures.items;
      fit = next_holds (λ s. s.factor < 2 ^ 64) c.args.summands.now c.loop-one.one-index first c.loop-one-test.true c.loop-one.invariant.fit c.multiple.ensures.fits;
    }
