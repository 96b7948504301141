-- The pairs so far, with those of the formals that are left.
use Rattle.std.proofs.Common.{◌≡◌, ◌++◌}
use Rattle.std.specs.Prelude.{All}
use Rattle.nq_logic.specs.Admissible.{matched}
use Rattle.nq_bank.specs.Content.{terms_at}
use Rattle.nq_bank.specs.Shells.{texts_at}
use Rattle.nq_clause.specs.Substitution.{substitution_at, PairStands}
use Rattle.nq_calls.proofs.FallLemmas.{matched_from}
use Rattle.nq_tracer.proofs.drafts.pairs_of.Given as goal

abbrev pub invariant-loop-place : goal.invariant-loop-place
invariant-loop-place l =
    record {
      pairs : substitution_at l.bank l.pairs.items ++ matched_from l.bank l.formals l.arguments l.place ≡ matched (texts_at l.bank l.formals) (terms_at l.bank l.arguments);
      stand : All (PairStands l.bank) l.pairs.items;
    }
