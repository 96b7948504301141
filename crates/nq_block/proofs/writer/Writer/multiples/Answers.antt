use Rattle.std.specs.Prelude.{false}
use Rattle.nq_logic.specs.Ground.{symbols_of}
use Rattle.nq_bank.specs.declared.node.TermId.{TermId}
use Rattle.nq_linear_rule.specs.declared.summand.Summand.{Summand}
use Rattle.nq_kernel.specs.Over.{IsTermOf, IsVariable}
use Rattle.nq_block.proofs.Keeping.{keeps_more, on_ok_known}
use Rattle.nq_block.proofs.SumLemmas.{summands_next, whole_summands, each_literal}
use Rattle.nq_block.proofs.writer.Writer.multiples.Goals as goal

pub loop-one-preserved : goal.loop-one-preserved
loop-one-preserved c =
    let term : TermId = record { 0 = 0 } in
    let first : Summand = record { factor = 0; literal = term; forwards = false } in
    record {
      counted = c.in_ok-term.ensures.counted;
      writing = λ frame v over.
          c.in_ok-term.ensures.writing frame (c.loop-one.invariant.writing frame v over)
          (each_literal c.args.bank.now (IsTermOf IsVariable (symbols_of frame.history)) c.args.summands.now c.loop-one.one-index first c.loop-one-test.true over);
      written = summands_next c.loop-one.self c.term.new.self c.args.summands.now c.loop-one.one-index first c.loop-one-test.true c.in_ok-term.ensures.keeps c.loop-one.invariant.written c.in_ok-term.ensures.written;
      keeps = keeps_more c.args.self.now c.loop-one.self c.term.new.self c.loop-one.invariant.keeps c.in_ok-term.ensures.keeps;
    }

pub returns-clause-written : goal.returns-clause-written
returns-clause-written c = on_ok_known c.numbered_summands.result (whole_summands c.loop-one.self c.args.summands.now c.loop-one.one-index c.loop-one-test.false c.loop-one.invariant.written)
