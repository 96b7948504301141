-- In the lists so far the first entries' rules were kept.
use Rattle.std.proofs.Common.{◌≡◌, length}
use Rattle.std.specs.Prelude.{nat_lt, if◌then◌else◌}
use Rattle.std.specs.List.{filter}
use Rattle.nq_bank.specs.declared.node.Sym.{Sym}
use Rattle.nq_rule_table.specs.Tables.{list_at, is_early}
use Rattle.nq_rule_table.proofs.lists.keep_each.Given as goal

abbrev pub invariant-loop-i : goal.invariant-loop-i
invariant-loop-i l =
    record {
      count : length l.lists.items ≡ length l.fn.lists.items;
      kept : (f : Sym) → list_at l.lists.items f ≡ (if nat_lt f.0 l.i then filter (is_early l.kept) (list_at l.fn.lists.items f) else list_at l.fn.lists.items f);
    }
