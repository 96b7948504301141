-- The answer so far is that of the arguments so far.
use Rattle.std.proofs.Common.{◌≡◌, take}
use Rattle.nq_bank.specs.Content.{terms_at}
use Rattle.nq_normal.specs.Variables.{owned, HasOwn}
use Rattle.nq_normal.proofs.OwnLemmas.{all_own}
use Rattle.nq_normal.proofs.variables.+has_own.Given as goal

abbrev pub decreases-has_own : goal.decreases-has_own
decreases-has_own l = l.t.0

abbrev pub invariant-loop-a : goal.invariant-loop-a
invariant-loop-a l =
    record {
      so_far : l.answer ≡ all_own (owned l.bank l.owner) (terms_at l.bank (take l.a-index l.a-items));
      answers : HasOwn l.bank (owned l.bank l.owner) l.known;
    }
