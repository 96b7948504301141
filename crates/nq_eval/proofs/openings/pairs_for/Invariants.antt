use Rattle.std.proofs.Common.{◌≡◌, take}
use Rattle.std.specs.Prelude.{All}
use Rattle.nq_logic.specs.Admissible.{matched}
use Rattle.nq_bank.specs.Content.{terms_at}
use Rattle.nq_bank.specs.Shells.{texts_at}
use Rattle.nq_clause.specs.Substitution.{substitution_at, PairStands}
use Rattle.nq_eval.proofs.openings.pairs_for.Given as goal

abbrev pub invariant-loop-place : goal.invariant-loop-place
invariant-loop-place l =
    record {
      pairs : substitution_at l.bank l.pairs.items ≡ matched (texts_at l.bank (take l.place l.formals)) (terms_at l.bank (take l.place l.values));
      stand : All (PairStands l.bank) l.pairs.items;
    }
