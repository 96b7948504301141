-- Work has only grown.
use Rattle.nq_history.specs.Events.{events_at}
use Rattle.nq_kernel.specs.Growing.{WorkGrows}
use Rattle.nq_lines.specs.OwnTerms.{HasOwnTerms}
use Rattle.nq_simplify.specs.Simplified.{AreTermsIn, BasisStands}
use Rattle.nq_simplify.proofs.turning.change_between.Given as goal

abbrev pub invariant-loop-at : goal.invariant-loop-at
invariant-loop-at g l =
    record {
      grows : WorkGrows l.fn.history l.fn.work l.work;
      basis : BasisStands l.fn.history l.work l.fn.basis;
      terms : AreTermsIn l.fn.history l.work l.fn.goal;
      ready : HasOwnTerms (events_at l.work.bank l.fn.history);
    }
