-- The parts that are left decide.
use Rattle.std.proofs.Common.{◌≡◌, drop}
use Rattle.std.specs.Prelude.{is_some}
use Rattle.nq_logic.specs.Histories.{accessor_symbols}
use Rattle.nq_logic.specs.Names.{is_in_use, symbol_names}
use Rattle.nq_logic.specs.ShellPrinciple.{first_used}
use Rattle.nq_bank.specs.Shells.{parts_at}
use Rattle.nq_check.specs.Contexts.{state_of}
use Rattle.nq_check.proofs.context.Context.uses_accessor.Given as goal

abbrev pub invariant-loop-part : goal.invariant-loop-part
invariant-loop-part l =
    is_some (first_used (λ n. is_in_use n (state_of l.self).history) (symbol_names (accessor_symbols (parts_at l.self.bank l.parts))))
    ≡ is_some (first_used (λ n. is_in_use n (state_of l.self).history) (symbol_names (accessor_symbols (parts_at l.self.bank (drop l.part-index l.parts)))))
