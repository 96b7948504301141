-- What is kept is among the terms so far, and is not nothing.
use Rattle.std.proofs.Common.{◌≤◌, ◌∷◌, length, take}
use Rattle.std.specs.Prelude.{All}
use Rattle.nq_bank.specs.Content.{Stands, terms_at}
use Rattle.nq_lines.specs.Lines.{AreAmong}
use Rattle.nq_generalize.proofs.least.least_of.Given as goal

abbrev pub invariant-loop-t : goal.invariant-loop-t
invariant-loop-t l =
    record {
      within : AreAmong (terms_at l.bank l.kept.items) (terms_at l.bank (l.fn.first ∷ take l.t-index l.others));
      some : 1 ≤ length l.kept.items;
      stand : All (Stands l.bank) l.kept.items;
    }
