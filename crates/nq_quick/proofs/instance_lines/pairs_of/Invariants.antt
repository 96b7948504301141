-- The pairs of the bindings so far.
use Rattle.std.proofs.Common.{◌≡◌, take}
use Rattle.std.specs.Prelude.{All}
use Rattle.nq_bank.specs.Content.{Grows}
use Rattle.nq_clause.specs.Substitution.{substitution_at, PairStands}
use Rattle.nq_clause.specs.Binding.{bindings_at}
use Rattle.nq_quick.proofs.instance_lines.pairs_of.Given as goal

abbrev pub invariant-loop-b : goal.invariant-loop-b
invariant-loop-b l =
    record {
      grows : Grows l.fn.bank l.bank;
      names : l.bank.names ≡ l.fn.bank.names;
      pairs : substitution_at l.bank l.pairs.items ≡ bindings_at l.fn.bank (take l.b-index l.bindings);
      stand : All (PairStands l.bank) l.pairs.items;
    }
