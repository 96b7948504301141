use Rattle.std.proofs.Common.{◌<◌, drop, length}
use Rattle.nq_bank.specs.Content.{Grows, IsIdOf, terms_at}
use Rattle.nq_abbrev.specs.Nests.{right_nest}
use Rattle.nq_abbrev.proofs.nests.nested_of.Given as goal

abbrev pub decreases-loop-place : goal.decreases-loop-place
decreases-loop-place l = l.place

abbrev pub invariant-loop-place : goal.invariant-loop-place
invariant-loop-place l =
    record {
      within : l.place < length l.terms;
      nest : IsIdOf l.bank l.nest (right_nest l.name (terms_at l.fn.bank (drop l.place l.terms)));
      grows : Grows l.fn.bank l.bank;
    }
