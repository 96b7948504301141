-- The calls of the terms so far were found.
use Rattle.std.proofs.Common.{take}
use Rattle.std.specs.Prelude.{All}
use Rattle.nq_bank.specs.Content.{Stands, terms_at}
use Rattle.nq_stuck.specs.Calls.{AreKnown, HoldsAll}
use Rattle.nq_stuck.proofs.calls.calls_in.Given as goal

abbrev pub invariant-loop-t : goal.invariant-loop-t
invariant-loop-t l =
    record {
      holds : HoldsAll l.bank l.found.items (terms_at l.bank (take l.t-index l.terms));
      known : AreKnown l.bank l.known l.found.items;
      stand : All (Stands l.bank) l.found.items;
    }
