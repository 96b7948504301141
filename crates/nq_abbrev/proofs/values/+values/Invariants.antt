use Rattle.std.proofs.Common.{◌≤◌, drop, length}
use Rattle.nq_bank.specs.Content.{Grows, IsIdOf, term_at}
use Rattle.nq_abbrev.specs.Values.{values_before}
use Rattle.nq_abbrev.proofs.values.+values.Given as goal

abbrev pub decreases-values_before-loop-place : goal.decreases-values_before-loop-place
decreases-values_before-loop-place l = l.place

abbrev pub invariant-values_before-loop-place : goal.invariant-values_before-loop-place
invariant-values_before-loop-place l =
    record {
      within : l.place ≤ length l.items;
      list : IsIdOf l.bank l.list (values_before (drop l.place l.items) (term_at l.fn.bank l.fn.last));
      grows : Grows l.fn.bank l.bank;
    }
