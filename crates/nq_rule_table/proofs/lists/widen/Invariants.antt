use Rattle.std.proofs.Common.{◌≡◌, ◌+◌, ◌-◌, length}
use Rattle.nq_bank.specs.declared.node.Sym.{Sym}
use Rattle.nq_rule_table.specs.Tables.{list_at}
use Rattle.nq_rule_table.proofs.lists.widen.Given as goal

abbrev pub invariant-loop-alloc : goal.invariant-loop-alloc
invariant-loop-alloc l = (g : Sym) → list_at l.lists.items g ≡ list_at l.fn.lists.items g

abbrev pub decreases-loop-alloc : goal.decreases-loop-alloc
decreases-loop-alloc l = l.f.0 + 1 - length l.lists.items
