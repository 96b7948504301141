-- The pairs so far, and those that are still to be made.
use Rattle.std.proofs.Common.{◌≡◌, ◌++◌, drop}
use Rattle.std.specs.Prelude.{All}
use Rattle.nq_bank.specs.Shells.{shell_at}
use Rattle.nq_clause.specs.Substitution.{PairStands, substitution_at}
use Rattle.nq_part_lines.specs.Wholes.{part_pairs}
use Rattle.nq_part_lines.proofs.wholes.pairs_of.Given as goal

abbrev pub invariant-loop-place : goal.invariant-loop-place
invariant-loop-place l =
    record {
      stand : All (PairStands l.work.bank) l.pairs.items;
      pairs : substitution_at l.work.bank l.pairs.items ++ part_pairs l.place (drop l.place (shell_at l.work.bank l.shell).parts) ≡ part_pairs 0 (shell_at l.work.bank l.shell).parts;
    }
