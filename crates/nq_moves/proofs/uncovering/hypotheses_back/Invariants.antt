-- The line that is left has the NOTs of the hypotheses from here on.
use Rattle.std.specs.Prelude.{drop}
use Rattle.nq_bank.specs.Content.{terms_at}
use Rattle.nq_kernel.specs.Growing.{WorkGrows}
use Rattle.nq_lines.specs.Lines.{LineHasOnly}
use Rattle.nq_moves.proofs.EliminatedLemmas.{left_beside}
use Rattle.nq_moves.proofs.uncovering.hypotheses_back.Given as goal

abbrev pub invariant-loop-i : goal.invariant-loop-i
invariant-loop-i l =
    record {
      grows : WorkGrows l.history l.fn.work l.work;
      line : LineHasOnly l.work l.left (left_beside l.fn.work.bank (terms_at l.fn.work.bank l.goal) (drop l.i l.hypotheses));
    }
