-- The names of the variables of the terms so far were kept.
use Rattle.std.proofs.Common.{take}
use Rattle.nq_moves.specs.UsedNames.{AreKnown, AreNamed}
use Rattle.nq_moves.proofs.UsedLemmas.{Tells}
use Rattle.nq_moves.proofs.used_names.collect_names.Given as goal

abbrev pub invariant-loop-t : goal.invariant-loop-t
invariant-loop-t l =
    record {
      told : Tells l.bank l.names (take l.t-index l.terms);
      known : AreKnown l.bank l.known l.names;
      named : AreNamed l.bank l.names;
    }
