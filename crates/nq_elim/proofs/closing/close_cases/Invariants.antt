-- The line that is left has the literals of the cases from here on.
use Rattle.std.proofs.Common.{◌++◌, drop}
use Rattle.nq_bank.specs.Content.{terms_at}
use Rattle.nq_kernel.specs.Growing.{WorkGrows}
use Rattle.nq_lines.specs.Lines.{LineHasOnly}
use Rattle.nq_elim.specs.Cases.{literals_at}
use Rattle.nq_elim.proofs.closing.close_cases.Given as goal

abbrev pub invariant-loop-i : goal.invariant-loop-i
invariant-loop-i l =
    record {
      grows : WorkGrows l.history l.fn.work l.work;
      line : LineHasOnly l.work l.left (literals_at l.fn.work.bank (drop l.i l.cases) ++ terms_at l.fn.work.bank l.goal);
    }
