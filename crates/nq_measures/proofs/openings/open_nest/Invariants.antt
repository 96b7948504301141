-- The nest of the literals from the place on is left, and the literals before it are told.
use Rattle.std.proofs.Common.{◌<◌, ◌++◌, ◌∷◌, List, length, drop}
use Rattle.nq_logic.specs.Terms.{Term}
use Rattle.nq_logic.specs.Shells.{either_of}
use Rattle.nq_bank.specs.Content.{terms_at}
use Rattle.nq_kernel.specs.Growing.{LineStands}
use Rattle.nq_lines.specs.Lines.{LineHasOnly}
use Rattle.nq_measures.proofs.OpeningLemmas.{IsOpened}
use Rattle.nq_measures.proofs.openings.open_nest.Given as goal

abbrev pub invariant-loop-place : goal.invariant-loop-place
invariant-loop-place l =
    record {
      here : IsOpened l.history l.fn.work l.work l.literals l.place l.whole;
      standing : LineStands l.work l.line;
      below : l.place < length l.literals;
      told : (these : List Term) → LineHasOnly l.fn.work l.fn.line (either_of (terms_at l.fn.work.bank l.literals) ∷ these) → LineHasOnly l.work l.line (either_of (terms_at l.fn.work.bank (drop l.place l.literals)) ∷ (terms_at l.fn.work.bank l.literals ++ these));
    }
