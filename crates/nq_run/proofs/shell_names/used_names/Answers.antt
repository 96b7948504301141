use Rattle.std.proofs.Common.{sym, subst, ◌∙◌}
use Rattle.std.specs.Prelude.{All}
use Rattle.std.proofs.lemmas.Result.{IfOk-weaker}
use Rattle.nq_bank.specs.Content.{IsNamed}
use Rattle.nq_run.proofs.ShellLemmas.{names_stand, used_stand, used_told}
use Rattle.nq_run.proofs.shell_names.used_names.Goals as goal

pub used_among-requires-clause-names : goal.used_among-requires-clause-names
used_among-requires-clause-names c =
    subst (All (IsNamed c.args.bank.now)) (sym (c.as_slice.ensures.value ∙ c.in_ok-names.ensures)) (names_stand c.args.bank.now c.args.shell.now c.requires.shell)

pub returns-clause-stand : goal.returns-clause-stand
returns-clause-stand c =
    IfOk-weaker c.used_among.result _ _
    (λ used is. used_stand c.args.bank.now c.args.history.now c.args.shell.now c.as_slice.result.now used.items c.requires.shell (c.as_slice.ensures.value ∙ c.in_ok-names.ensures) is) c.used_among.ensures

pub returns-clause-used : goal.returns-clause-used
returns-clause-used c =
    IfOk-weaker c.used_among.result _ _
    (λ used is. used_told c.args.bank.now c.args.history.now c.args.shell.now c.as_slice.result.now used.items (c.as_slice.ensures.value ∙ c.in_ok-names.ensures) is) c.used_among.ensures
