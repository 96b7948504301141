-- The arguments that are left decide.
use Rattle.std.proofs.Common.{◌≡◌, drop}
use Rattle.nq_bank.specs.Content.{term_at, terms_at}
use Rattle.nq_evaluated.specs.Ground.{is_ground, HasAnswers}
use Rattle.nq_evaluated.proofs.GroundLemmas.{are_ground}
use Rattle.nq_evaluated.proofs.ground.+is_ground_within.Given as goal

abbrev pub decreases-is_ground_within : goal.decreases-is_ground_within
decreases-is_ground_within l = l.t.0

abbrev pub invariant-loop-a : goal.invariant-loop-a
invariant-loop-a l =
    record {
      so_far : is_ground (term_at l.bank l.fn.t) ≡ are_ground (terms_at l.bank (drop l.a-index l.a-items));
      answers : HasAnswers l.bank l.known;
    }
