use Rattle.nq_logic.specs.Ground.{symbols_of}
use Rattle.nq_bank.specs.declared.node.Sym.{Sym}
use Rattle.nq_bank.specs.declared.node.TermId.{TermId}
use Rattle.nq_clause.specs.declared.substitution.Pair.{Pair}
use Rattle.nq_kernel.specs.Over.{IsTermOf, IsVariable}
use Rattle.nq_block.proofs.Keeping.{keeps_more, pairs_next, whole_pairs, on_ok_known, each_name, each_term}
use Rattle.nq_block.proofs.writer.Writer.bindings.Goals as goal

pub loop-pair-preserved : goal.loop-pair-preserved
loop-pair-preserved c =
    let variable : Sym = record { 0 = 0 } in
    let term : TermId = record { 0 = 0 } in
    let first : Pair = record { variable = variable; term = term } in
    record {
      counted = c.in_ok-pair.ensures.counted;
      writing = λ frame v names terms.
          c.in_ok-pair.ensures.writing frame (c.loop-pair.invariant.writing frame v names terms)
          (each_name c.args.bank.now IsVariable c.args.pairs.now c.loop-pair.pair-index first c.loop-pair-test.true names)
          (each_term c.args.bank.now (IsTermOf IsVariable (symbols_of frame.history)) c.args.pairs.now c.loop-pair.pair-index first c.loop-pair-test.true terms);
      written = pairs_next c.loop-pair.self c.pair.new.self c.args.pairs.now c.loop-pair.pair-index first c.loop-pair-test.true c.in_ok-pair.ensures.keeps c.loop-pair.invariant.written c.in_ok-pair.ensures.written;
      keeps = keeps_more c.args.self.now c.loop-pair.self c.pair.new.self c.loop-pair.invariant.keeps c.in_ok-pair.ensures.keeps;
    }

pub returns-clause-written : goal.returns-clause-written
returns-clause-written c = on_ok_known c.numbered_pairs.result (whole_pairs c.loop-pair.self c.args.pairs.now c.loop-pair.pair-index c.loop-pair-test.false c.loop-pair.invariant.written)
