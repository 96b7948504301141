-- The hypotheses so far.
use Rattle.std.proofs.Common.{◌≡◌, take}
use Rattle.nq_logic.specs.Laws.{denied}
use Rattle.nq_bank.specs.Content.{term_at, terms_at}
use Rattle.nq_rule.specs.Inductions.{substitutions_at}
use Rattle.nq_kernel.specs.Growing.{WorkGrows}
use Rattle.nq_induct.specs.Goals.{AreTermsIn}
use Rattle.nq_induct.proofs.goals.hypotheses_of.Given as goal

abbrev pub invariant-loop-step : goal.invariant-loop-step
invariant-loop-step l =
    record {
      grows : WorkGrows l.history l.fn.work l.work;
      over : AreTermsIn l.history l.work l.literals.items;
      terms : terms_at l.work.bank l.literals.items ≡ denied (term_at l.fn.work.bank l.claim) (substitutions_at l.fn.work.bank (take l.step-index l.steps));
    }
