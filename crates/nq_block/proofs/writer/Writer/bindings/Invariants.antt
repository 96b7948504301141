-- The pairs so far have their lines.
use Rattle.std.proofs.Common.{take}
use Rattle.std.specs.Prelude.{All}
use Rattle.nq_logic.specs.Terms.{Each}
use Rattle.nq_logic.specs.Ground.{symbols_of}
use Rattle.nq_proof.specs.Rules.{pair_terms}
use Rattle.nq_clause.specs.Substitution.{substitution_at}
use Rattle.nq_kernel.specs.Over.{IsTermOf, pair_names, IsVariable}
use Rattle.nq_block.specs.Writing.{Frame, IsWriting, IsCounted, IsPairWritten, Keeps}
use Rattle.nq_block.proofs.writer.Writer.bindings.Given as goal

abbrev pub invariant-loop-pair : goal.invariant-loop-pair
invariant-loop-pair l =
    record {
      counted : IsCounted l.self;
      writing : (frame : Frame) → IsWriting l.bank frame l.fn.self → Each IsVariable (pair_names (substitution_at l.bank l.pairs)) → Each (IsTermOf IsVariable (symbols_of frame.history)) (pair_terms (substitution_at l.bank l.pairs)) → IsWriting l.bank frame l.self;
      written : All (IsPairWritten l.self) (take l.pair-index l.pairs);
      keeps : Keeps l.fn.self l.self;
    }
