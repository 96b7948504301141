-- The pairs of the terms so far.
use Rattle.std.proofs.Common.{◌≡◌, take}
use Rattle.std.specs.Prelude.{All}
use Rattle.nq_bank.specs.Content.{terms_at}
use Rattle.nq_clause.specs.Substitution.{substitution_at, PairStands}
use Rattle.nq_kernel.specs.Growing.{WorkGrows}
use Rattle.nq_types.specs.Parts.{part_bindings}
use Rattle.nq_types.proofs.naming.part_pairs.Given as goal

abbrev pub invariant-loop-t : goal.invariant-loop-t
invariant-loop-t l =
    record {
      grows : WorkGrows l.fn.history l.fn.work l.work;
      count : l.place ≡ l.t-index;
      pairs : substitution_at l.work.bank l.pairs.items ≡ part_bindings 0 (terms_at l.fn.work.bank (take l.t-index l.arguments));
      stand : All (PairStands l.work.bank) l.pairs.items;
    }
