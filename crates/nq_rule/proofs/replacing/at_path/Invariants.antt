-- The rest of the path leads on from the part so far.
use Rattle.std.proofs.Common.{◌≡◌, drop}
use Rattle.nq_bank.specs.Content.{Stands, term_at}
use Rattle.nq_rule.specs.Places.{part_at}
use Rattle.nq_rule.proofs.replacing.at_path.Given as goal

abbrev pub invariant-loop-place : goal.invariant-loop-place
invariant-loop-place l =
    record {
      stands : Stands l.bank l.part;
      part : part_at l.path (term_at l.bank l.fn.t) ≡ part_at (drop l.place-index l.path) (term_at l.bank l.part);
    }
