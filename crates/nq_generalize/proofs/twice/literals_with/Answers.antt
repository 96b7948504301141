use Rattle.nq_bank.specs.declared.node.TermId.{TermId}
use Rattle.nq_bank.specs.Content.{term_at}
use Rattle.nq_generalize.proofs.TwiceLemmas.{no_more_than, with-more}
use Rattle.nq_generalize.proofs.twice.literals_with.Goals as goal

pub loop-literal-preserved : goal.loop-literal-preserved
loop-literal-preserved c =
    let first : TermId = record { 0 = 0 } in
    record {
      so_far = with-more c.args.bank.now (term_at c.args.bank.now c.args.a) c.args.goal.now c.loop-literal.literal-index first c.loop-literal.count c.counted-count.result c.in_ok-here.here c.loop-literal-test.true c.loop-literal.invariant.so_far c.in_ok-here.ensures.answer c.counted-count.ensures;
      most = no_more_than c.loop-literal.count c.counted-count.result c.loop-literal.literal-index c.in_ok-here.here c.loop-literal.invariant.most c.counted-count.ensures;
    }
