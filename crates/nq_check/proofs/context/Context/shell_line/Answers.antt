use Rattle.std.proofs.Common.{[], ◌∷◌, sym, ◌∙◌}
use Rattle.nq_logtext.specs.Fields.{name}
use Rattle.nq_logic.specs.Histories.{AddShell, Shell}
use Rattle.nq_bank.specs.Shells.{shell_at}
use Rattle.nq_log.specs.States.{Adds, only_when}
use Rattle.nq_log.specs.Logs.{claimed}
use Rattle.nq_log.specs.ClosingLines.{shell_claim}
use Rattle.nq_check.specs.Claims.{has_place}
use Rattle.nq_check.specs.Contexts.{state_of}
use Rattle.nq_check.specs.Judging.{Leads}
use Rattle.nq_check.proofs.CaseLemmas.{if_ok}
use Rattle.nq_check.proofs.ShellLemmas.{shell_denied, refused_after, claimed_after, history_kept}
use Rattle.nq_check.proofs.context.Context.shell_line.Goals as goal

pub returns-then-not-may_end_in_shell : goal.returns-then-not-may_end_in_shell
returns-then-not-may_end_in_shell c =
    shell_denied c.args.self.now c.args.constructor.now c.args.base.now c.args.recognizer.now (sym c.may_end_in_shell.ensures ∙ c.if-not-may_end_in_shell.true)

pub returns-then-not-accepts : goal.returns-then-not-accepts
returns-then-not-accepts c =
    let old = c.args.self.now in
    let mid = c.take_shell.new.self in
    let s : Shell = shell_at mid.bank c.in_ok-shell.shell in
    refused_after old c.args.constructor.now c.args.base.now c.args.recognizer.now (state_of mid).history s (history_kept old mid c.requires c.take_shell.ensures.history c.take_shell.ensures.grows)
    c.in_ok-shell.ensures.shell (sym c.accepts.ensures ∙ c.if-not-accepts.true)

pub returns : goal.returns
returns c =
    let old = c.args.self.now in
    let mid = c.take_shell.new.self in
    let new = c.add_entry.new.self in
    let s : Shell = shell_at mid.bank c.in_ok-shell.shell in
    if_ok c.add_entry.result (λ judged. Leads (state_of mid) (claimed (only_when (has_place (state_of mid).history s.constructor) (Adds (AddShell s)))) judged new)
    (λ judged. Leads (state_of old) (claimed (shell_claim (state_of old) (name c.args.constructor.now ∷ name c.args.base.now ∷ name c.args.recognizer.now ∷ []))) judged new)
    (λ judged h.
    claimed_after old c.args.constructor.now c.args.base.now c.args.recognizer.now (state_of mid) s judged new (history_kept old mid c.requires c.take_shell.ensures.history c.take_shell.ensures.grows) c.in_ok-shell.ensures.shell
    (sym c.may_end_in_shell.ensures ∙ c.if-not-may_end_in_shell.false) (sym c.accepts.ensures ∙ c.if-not-accepts.false) h)
    c.add_entry.ensures
