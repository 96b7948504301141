-- The entries so far are learnt.
use Rattle.std.proofs.Common.{◌≡◌, take}
use Rattle.nq_bank.specs.declared.node.Sym.{Sym}
use Rattle.nq_rule_table.specs.Tables.{list_at, read_over, rules_about, toggles_from}
use Rattle.nq_rule_table.proofs.table.Rules.of.Given as goal

abbrev pub invariant-loop-place : goal.invariant-loop-place
invariant-loop-place l =
    record {
      rules : (f : Sym) → list_at l.lists.items f ≡ rules_about f 0 (read_over l.bank (take l.place l.history));
      toggles : l.toggles.items ≡ toggles_from 0 (take l.place l.history);
    }
