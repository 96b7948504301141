use Rattle.std.proofs.Common.{◌≤◌, drop, length}
use Rattle.nq_logic.specs.Words.{numerals}
use Rattle.nq_bank.specs.Content.{Grows, IsIdOf}
use Rattle.nq_abbrev.proofs.making.codes_of.Given as goal

abbrev pub decreases-loop-place : goal.decreases-loop-place
decreases-loop-place l = l.place

abbrev pub invariant-loop-place : goal.invariant-loop-place
invariant-loop-place l =
    record {
      within : l.place ≤ length l.name;
      list : IsIdOf l.bank l.list (numerals (drop l.place l.name));
      grows : Grows l.fn.bank l.bank;
    }
