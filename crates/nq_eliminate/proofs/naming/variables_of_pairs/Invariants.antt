-- The ids so far are those of the variables of the pairs so far.
use Rattle.std.proofs.Common.{◌≡◌, map, take}
use Rattle.std.specs.Prelude.{All}
use Rattle.nq_logic.specs.Terms.{Variable}
use Rattle.nq_bank.specs.Content.{Stands, terms_at}
use Rattle.nq_clause.specs.Substitution.{substitution_at}
use Rattle.nq_kernel.specs.Growing.{WorkGrows}
use Rattle.nq_kernel.specs.Over.{pair_names}
use Rattle.nq_eliminate.proofs.naming.variables_of_pairs.Given as goal

abbrev pub invariant-loop-p : goal.invariant-loop-p
invariant-loop-p l =
    record {
      grows : WorkGrows l.history l.fn.work l.work;
      stand : All (Stands l.work.bank) l.ids.items;
      are : terms_at l.work.bank l.ids.items ≡ map Variable (pair_names (substitution_at l.fn.work.bank (take l.p-index l.pairs)));
    }
