-- The arguments that are left decide.
use Rattle.std.proofs.Common.{◌≡◌, drop}
use Rattle.nq_logic.specs.Admissible.{has_variables}
use Rattle.nq_bank.specs.Content.{term_at, terms_at}
use Rattle.nq_bank.specs.Shells.{texts_at}
use Rattle.nq_check.specs.Variables.{HasAnswers}
use Rattle.nq_check.proofs.BodyLemmas.{have_variables}
use Rattle.nq_check.proofs.bodies.+has_variables_within.Given as goal

abbrev pub decreases-has_variables_within : goal.decreases-has_variables_within
decreases-has_variables_within l = l.t.0

abbrev pub invariant-loop-a : goal.invariant-loop-a
invariant-loop-a l =
    record {
      so_far : has_variables (texts_at l.bank l.names) (term_at l.bank l.fn.t) ≡ have_variables (texts_at l.bank l.names) (terms_at l.bank (drop l.a-index l.a-items));
      answers : HasAnswers l.bank (texts_at l.bank l.names) l.known;
    }
