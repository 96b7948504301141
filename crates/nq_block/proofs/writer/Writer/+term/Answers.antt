use Rattle.nq_logic.specs.Ground.{symbols_of}
use Rattle.nq_bank.specs.declared.node.TermId.{TermId}
use Rattle.nq_bank.specs.Parts.{parts_of}
use Rattle.nq_bank.specs.Content.{text_at, term_at, terms_at, term_from}
use Rattle.nq_kernel.specs.Over.{IsTermOf, IsVariable}
use Rattle.nq_log.specs.States.{introduced_symbols}
use Rattle.nq_block.specs.Writing.{frame_symbols}
use Rattle.nq_block.proofs.NewFunction.{over_more}
use Rattle.nq_block.proofs.Keeping.{keeps_more, written_next, whole_written, each_made}
use Rattle.nq_block.proofs.TermParts.{arguments_over}
use Rattle.nq_block.proofs.TermLemmas.{on_ok_three, new_numeral}
use Rattle.nq_block.proofs.writer.Writer.+term.Goals as goal

pub loop-a-preserved : goal.loop-a-preserved
loop-a-preserved t c =
    let first : TermId = record { 0 = 0 } in
    record {
      counted = c.in_ok-term-in-App.ensures.counted;
      writing = λ frame v over.
          c.in_ok-term-in-App.ensures.within frame (c.loop-a.invariant.writing frame v over)
          (each_made (IsTermOf IsVariable (frame_symbols frame)) (term_from c.args.bank.now.terms) c.args-arguments.result.now c.loop-a.a-index first c.loop-a-test.true over);
      written = written_next c.loop-a.self c.term.new.self c.args-arguments.result.now c.loop-a.a-index first c.loop-a-test.true c.in_ok-term-in-App.ensures.keeps c.loop-a.invariant.written c.in_ok-term-in-App.ensures.written;
      keeps = keeps_more c.args.self.now c.loop-a.self c.term.new.self c.loop-a.invariant.keeps c.in_ok-term-in-App.ensures.keeps;
    }

pub call-requires-clause-written : goal.call-requires-clause-written
call-requires-clause-written t c = whole_written c.loop-a.self c.args-arguments.result.now c.loop-a.a-index c.loop-a-test.false c.loop-a.invariant.written

pub returns-in-Num-clause-within : goal.returns-in-Num-clause-within
returns-in-Num-clause-within t c =
    λ frame v over.
    on_ok_three c.put_term.result
    (λ adds updates same. new_numeral c.args.bank.now frame c.args.self.now c.put_term.new.self v c.args.t c.in-Num.value c.in-Num.ensures.head.1 c.in-Num.ensures.head.0 adds updates same)
    c.put_term.ensures.adds c.put_term.ensures.terms c.put_term.ensures.variables

pub returns-after-loop-a-clause-within : goal.returns-after-loop-a-clause-within
returns-after-loop-a-clause-within t c =
    λ frame v over.
    let term = term_at c.args.bank.now c.args.t in
    let arguments = arguments_over IsVariable (frame_symbols frame) term (text_at c.args.bank.now c.in-App.function) (parts_of term) (terms_at c.args.bank.now c.args-arguments.result.now) c.in-App.ensures.head.1 c.args-arguments.ensures.parts over in
    c.call.ensures.writing frame (c.loop-a.invariant.writing frame v arguments) over

-- a term over the history's functions is one over the block's
pub returns-in-Num-clause-writing : goal.returns-in-Num-clause-writing
returns-in-Num-clause-writing t c = λ frame v over. returns-in-Num-clause-within t c frame v (over_more (introduced_symbols frame.introduced) (symbols_of frame.history) (term_at c.args.bank.now c.args.t) over)

pub returns-after-loop-a-clause-writing : goal.returns-after-loop-a-clause-writing
returns-after-loop-a-clause-writing t c =
    λ frame v over. returns-after-loop-a-clause-within t c frame v (over_more (introduced_symbols frame.introduced) (symbols_of frame.history) (term_at c.args.bank.now c.args.t) over)
