-- The tests so far, denied.
use Rattle.std.proofs.Common.{◌≡◌, map, take}
use Rattle.std.specs.Prelude.{All}
use Rattle.nq_logic.specs.Words.{not_term}
use Rattle.nq_bank.specs.Content.{Grows, Stands, terms_at}
use Rattle.nq_calls.specs.Calls.{guards_at}
use Rattle.nq_calls.proofs.falls.deny_guards.Given as goal

abbrev pub invariant-loop-guard : goal.invariant-loop-guard
invariant-loop-guard l =
    record {
      grows : Grows l.fn.bank l.bank;
      names : l.bank.names ≡ l.fn.bank.names;
      terms : terms_at l.bank l.literals.items ≡ map not_term (guards_at l.fn.bank (take l.guard-index l.guards));
      stand : All (Stands l.bank) l.literals.items;
    }
