use Rattle.std.proofs.Common.{◌≤◌, drop, length}
use Rattle.nq_bank.specs.Content.{Grows, IsIdOf, term_at}
use Rattle.nq_language.specs.Translation.{path_term}
use Rattle.nq_abbrev.proofs.nests.path_of.Given as goal

abbrev pub decreases-loop-place : goal.decreases-loop-place
decreases-loop-place l = l.place

abbrev pub invariant-loop-place : goal.invariant-loop-place
invariant-loop-place l =
    record {
      within : l.place ≤ length l.letters;
      nest : IsIdOf l.bank l.nest (path_term (drop l.place l.letters) (term_at l.fn.bank l.fn.t));
      grows : Grows l.fn.bank l.bank;
    }
