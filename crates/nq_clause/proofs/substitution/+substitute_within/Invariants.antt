-- The arguments so far are replaced, in a bank that only grows.
use Rattle.std.proofs.Common.{◌≡◌, take, map}
use Rattle.std.specs.Prelude.{All}
use Rattle.nq_logic.specs.Terms.{substituted}
use Rattle.nq_bank.specs.Content.{terms_at, Stands, Grows}
use Rattle.nq_clause.specs.Substitution.{substitution_at, HasIds}
use Rattle.nq_clause.proofs.substitution.+substitute_within.Given as goal

abbrev pub decreases-substitute_within : goal.decreases-substitute_within
decreases-substitute_within l = l.t.0

abbrev pub invariant-loop-a : goal.invariant-loop-a
invariant-loop-a l =
    record {
      grows : Grows l.fn.bank l.bank;
      names : l.bank.names ≡ l.fn.bank.names;
      stand : All (Stands l.bank) l.parts.items;
      ids : HasIds l.bank (substitution_at l.fn.bank l.pairs) l.known;
      done : terms_at l.bank l.parts.items ≡ map (substituted (substitution_at l.fn.bank l.pairs)) (terms_at l.fn.bank (take l.a-index l.a-items));
    }
