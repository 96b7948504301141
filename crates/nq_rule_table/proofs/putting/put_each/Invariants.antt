-- The rules of the last parts so far have been put.
use Rattle.std.proofs.Common.{◌≡◌, ◌-◌, ◌++◌, drop, length}
use Rattle.std.specs.List.{filter}
use Rattle.nq_bank.specs.declared.node.Sym.{Sym}
use Rattle.nq_bank.specs.Content.{terms_at}
use Rattle.nq_rule_table.specs.Rules.{parts_rules}
use Rattle.nq_rule_table.specs.Tables.{list_at, is_early}
use Rattle.nq_rule_table.proofs.putting.put_each.Given as goal

abbrev pub invariant-loop-done : goal.invariant-loop-done
invariant-loop-done l =
    record {
      put : (f : Sym) → list_at l.lists.items f ≡ list_at l.fn.lists.items f ++ parts_rules l.bank f l.event l.place (length l.parts - l.done) (terms_at l.bank (drop (length l.parts - l.done) l.parts));
      early : (f : Sym) → filter (is_early l.place) (list_at l.lists.items f) ≡ filter (is_early l.place) (list_at l.fn.lists.items f);
    }
