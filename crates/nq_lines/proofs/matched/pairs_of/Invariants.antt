-- The pairs of the bindings so far.
use Rattle.std.proofs.Common.{◌≡◌, take}
use Rattle.std.specs.Prelude.{All}
use Rattle.nq_clause.specs.Substitution.{substitution_at, PairStands}
use Rattle.nq_clause.specs.Binding.{bindings_at}
use Rattle.nq_kernel.specs.Growing.{WorkGrows}
use Rattle.nq_lines.proofs.matched.pairs_of.Given as goal

abbrev pub invariant-loop-b : goal.invariant-loop-b
invariant-loop-b l =
    record {
      grows : WorkGrows l.fn.history l.fn.work l.work;
      pairs : substitution_at l.work.bank l.pairs.items ≡ bindings_at l.fn.work.bank (take l.b-index l.bindings);
      stand : All (PairStands l.work.bank) l.pairs.items;
    }
