-- The names of the variables of the arguments so far were kept.
use Rattle.std.proofs.Common.{take}
use Rattle.nq_bank.specs.Content.{terms_at}
use Rattle.nq_moves.specs.Naming.{occurs_in_one}
use Rattle.nq_moves.specs.UsedNames.{Adds, AreKnown, AreNamed}
use Rattle.nq_moves.proofs.used_names.+add_names.Given as goal

abbrev pub decreases-add_names : goal.decreases-add_names
decreases-add_names l = l.t.0

abbrev pub invariant-loop-a : goal.invariant-loop-a
invariant-loop-a l =
    record {
      adds : Adds l.bank l.fn.names l.names (λ x. occurs_in_one x (terms_at l.bank (take l.a-index l.a-items)));
      known : AreKnown l.bank l.known l.names;
      named : AreNamed l.bank l.names;
    }
