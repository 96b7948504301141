-- The literals so far, in a bank that only grows.
use Rattle.std.proofs.Common.{◌≡◌, take, map}
use Rattle.std.specs.Prelude.{All}
use Rattle.nq_logic.specs.Terms.{substituted}
use Rattle.nq_bank.specs.Content.{terms_at, Stands, Grows}
use Rattle.nq_clause.specs.Substitution.{substitution_at}
use Rattle.nq_rule.proofs.instances.instances.Given as goal

abbrev pub invariant-loop-t : goal.invariant-loop-t
invariant-loop-t l =
    record {
      grows : Grows l.fn.bank l.bank;
      names : l.bank.names ≡ l.fn.bank.names;
      stand : All (Stands l.bank) l.literals.items;
      done : terms_at l.bank l.literals.items ≡ map (substituted (substitution_at l.fn.bank l.pairs)) (terms_at l.fn.bank (take l.t-index l.terms));
    }
