-- The calls of the arguments so far were found.
use Rattle.std.proofs.Common.{take}
use Rattle.std.specs.Prelude.{All}
use Rattle.nq_bank.specs.Content.{Stands, terms_at}
use Rattle.nq_stuck.specs.Calls.{AreKnown, HoldsAll, IsMore}
use Rattle.nq_stuck.proofs.calls.+add_calls.Given as goal

abbrev pub decreases-add_calls : goal.decreases-add_calls
decreases-add_calls l = l.t.0

abbrev pub invariant-loop-a : goal.invariant-loop-a
invariant-loop-a l =
    record {
      holds : HoldsAll l.bank l.found.items (terms_at l.bank (take l.a-index l.a-items));
      known : AreKnown l.bank l.known l.found.items;
      more : IsMore l.bank l.fn.found.items l.found.items;
      stand : All (Stands l.bank) l.found.items;
    }
