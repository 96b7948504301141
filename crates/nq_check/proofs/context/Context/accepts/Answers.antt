use Rattle.std.proofs.Common.{List, sym, ap, ◌∙◌}
use Rattle.std.specs.Prelude.{is_none}
use Rattle.nq_logic.specs.Histories.{Shell}
use Rattle.nq_logic.specs.Names.{is_in_use}
use Rattle.nq_logic.specs.ShellPrinciple.{shell_refusal, shells_of}
use Rattle.nq_bank.specs.Shells.{shell_at}
use Rattle.nq_check.specs.Contexts.{state_of}
use Rattle.nq_check.proofs.ShellLemmas.{answer_is, refused_used, unused}
use Rattle.nq_check.proofs.context.Context.accepts.Goals as goal

pub returns-then-uses_name_of : goal.returns-then-uses_name_of
returns-then-uses_name_of c =
    let h = (state_of c.args.self.now).history in
    sym (refused_used (λ n. is_in_use n h) (shells_of h) (shell_at c.args.self.now.bank c.args.shell.now) (sym c.uses_name_of.ensures ∙ c.if-uses_name_of.true))

pub returns : goal.returns
returns c =
    let bank = c.args.self.now.bank in
    let h = (state_of c.args.self.now).history in
    let s : Shell = shell_at bank c.args.shell.now in
    let shells = c.shells.ensures.logic bank c.requires.whole.history.stands in
    c.is_ok.ensures.value
    ∙ answer_is bank c.admit_shell.result
    ∙ ap is_none (c.admit_shell.ensures.refusal (λ n. is_in_use n h) (unused bank (λ n. is_in_use n h) s (sym c.uses_name_of.ensures ∙ c.if-uses_name_of.false)))
    ∙ ap (λ (earlier : List Shell). is_none (shell_refusal (λ n. is_in_use n h) earlier s)) shells
