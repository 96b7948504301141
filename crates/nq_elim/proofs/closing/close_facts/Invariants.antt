-- The line that is left has the denials of the facts from here on.
use Rattle.std.proofs.Common.{◌++◌, drop}
use Rattle.nq_bank.specs.Content.{terms_at}
use Rattle.nq_kernel.specs.Growing.{WorkGrows}
use Rattle.nq_lines.specs.Lines.{LineHasOnly}
use Rattle.nq_elim.specs.Reasons.{denied_at}
use Rattle.nq_elim.proofs.closing.close_facts.Given as goal

abbrev pub invariant-loop-fact : goal.invariant-loop-fact
invariant-loop-fact l =
    record {
      grows : WorkGrows l.history l.fn.work l.work;
      line : LineHasOnly l.work l.left (denied_at l.fn.work.bank (drop l.fact-index l.facts) ++ terms_at l.fn.work.bank l.rest);
    }
