use Rattle.nq_logic.specs.Ground.{symbols_of}
use Rattle.nq_bank.specs.declared.node.TermId.{TermId}
use Rattle.nq_bank.specs.Content.{term_from}
use Rattle.nq_kernel.specs.Over.{IsTermOf, IsVariable}
use Rattle.nq_block.proofs.Keeping.{keeps_more, written_next, whole_written, on_ok_known, each_made}
use Rattle.nq_block.proofs.writer.Writer.numbers_of.Goals as goal

pub loop-t-preserved : goal.loop-t-preserved
loop-t-preserved c =
    let first : TermId = record { 0 = 0 } in
    record {
      counted = c.in_ok-term.ensures.counted;
      writing = λ frame v over. c.in_ok-term.ensures.writing frame (c.loop-t.invariant.writing frame v over) (each_made (IsTermOf IsVariable (symbols_of frame.history)) (term_from c.args.bank.now.terms) c.args.terms.now c.loop-t.t-index first c.loop-t-test.true over);
      written = written_next c.loop-t.self c.term.new.self c.args.terms.now c.loop-t.t-index first c.loop-t-test.true c.in_ok-term.ensures.keeps c.loop-t.invariant.written c.in_ok-term.ensures.written;
      keeps = keeps_more c.args.self.now c.loop-t.self c.term.new.self c.loop-t.invariant.keeps c.in_ok-term.ensures.keeps;
    }

pub returns-clause-written : goal.returns-clause-written
returns-clause-written c = on_ok_known c.numbers.result (whole_written c.loop-t.self c.args.terms.now c.loop-t.t-index c.loop-t-test.false c.loop-t.invariant.written)
