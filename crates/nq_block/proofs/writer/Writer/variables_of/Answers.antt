use Rattle.nq_bank.specs.declared.node.Sym.{Sym}
use Rattle.nq_bank.specs.Content.{text_at}
use Rattle.nq_kernel.specs.Over.{IsVariable}
use Rattle.nq_block.proofs.Keeping.{keeps_more, names_next, whole_names, on_ok_known, each_made}
use Rattle.nq_block.proofs.writer.Writer.variables_of.Goals as goal

pub loop-s-preserved : goal.loop-s-preserved
loop-s-preserved c =
    let first : Sym = record { 0 = 0 } in
    record {
      counted = c.in_ok-variable.ensures.counted;
      writing = λ frame v spelled. c.in_ok-variable.ensures.writing frame (c.loop-s.invariant.writing frame v spelled) (each_made IsVariable (text_at c.args.bank.now) c.args.names.now c.loop-s.s-index first c.loop-s-test.true spelled);
      written = names_next c.loop-s.self c.variable.new.self c.args.names.now c.loop-s.s-index first c.loop-s-test.true c.in_ok-variable.ensures.keeps c.loop-s.invariant.written c.in_ok-variable.ensures.written;
      keeps = keeps_more c.args.self.now c.loop-s.self c.variable.new.self c.loop-s.invariant.keeps c.in_ok-variable.ensures.keeps;
    }

pub returns-clause-written : goal.returns-clause-written
returns-clause-written c = on_ok_known c.variable_numbers.result (whole_names c.loop-s.self c.args.names.now c.loop-s.s-index c.loop-s-test.false c.loop-s.invariant.written)
