use Rattle.std.proofs.Common.{true, false, List, refl, sym, ap, ◌∙◌}
use Rattle.std.specs.Prelude.{is_some}
use Rattle.nq_logic.specs.Histories.{accessor_symbols}
use Rattle.nq_logic.specs.Names.{is_in_use, symbol_names}
use Rattle.nq_logic.specs.ShellPrinciple.{first_used}
use Rattle.nq_bank.specs.declared.shell.Part.{Part}
use Rattle.nq_bank.specs.Shells.{parts_at, shell_at}
use Rattle.nq_check.specs.Contexts.{state_of}
use Rattle.nq_check.proofs.ShellLemmas.{used_so}
use Rattle.nq_check.proofs.context.Context.uses_name_of.Goals as goal

pub returns-then-in_use : goal.returns-then-in_use
returns-then-in_use c =
    let h = (state_of c.args.self.now).history in
    used_so (λ n. is_in_use n h) (shell_at c.args.self.now.bank c.args.shell.now) true _ _ _ (sym c.in_use.ensures ∙ c.if-in_use.true) refl refl refl

pub returns-then-uses_base : goal.returns-then-uses_base
returns-then-uses_base c =
    let h = (state_of c.args.self.now).history in
    used_so (λ n. is_in_use n h) (shell_at c.args.self.now.bank c.args.shell.now) false true _ _ (sym c.in_use.ensures ∙ c.if-in_use.false) (sym c.uses_base.ensures ∙ c.if-uses_base.true) refl refl

pub returns-then-in_use-2 : goal.returns-then-in_use-2
returns-then-in_use-2 c =
    let h = (state_of c.args.self.now).history in
    used_so (λ n. is_in_use n h) (shell_at c.args.self.now.bank c.args.shell.now) false false true _ (sym c.in_use.ensures ∙ c.if-in_use.false) (sym c.uses_base.ensures ∙ c.if-uses_base.false)
    (sym c.in_use-2.ensures ∙ c.if-in_use-2.true) refl

pub returns : goal.returns
returns c =
    let bank = c.args.self.now.bank in
    let h = (state_of c.args.self.now).history in
    let last = c.uses_accessor.ensures ∙ ap (λ (parts : List Part). is_some (first_used (λ n. is_in_use n h) (symbol_names (accessor_symbols (parts_at bank parts))))) c.as_slice.ensures.value in
    used_so (λ n. is_in_use n h) (shell_at bank c.args.shell.now) false false false c.uses_accessor.result (sym c.in_use.ensures ∙ c.if-in_use.false) (sym c.uses_base.ensures ∙ c.if-uses_base.false)
    (sym c.in_use-2.ensures ∙ c.if-in_use-2.false) (sym last)
