use Rattle.std.proofs.Common.{◌≤◌, length, sym, subst}
use Rattle.std.specs.Prelude.{IfOk, IsTrue}
use Rattle.nq_logtext.specs.Symbols.{is_symbol}
use Rattle.nq_logic.specs.Terms.{Each}
use Rattle.nq_logic.specs.Names.{event_names}
use Rattle.nq_logic.specs.Histories as logic
use Rattle.nq_sexp.specs.Tree.{tree}
use Rattle.nq_bank.specs.Content.{text_at}
use Rattle.nq_bank.specs.Shells.{shell_at}
use Rattle.nq_history.specs.Events.{EntryStands}
use Rattle.nq_kernel.specs.Ready.{IsReadyEvent}
use Rattle.nq_block.specs.Closings.{IsFree}
use Rattle.nq_run.specs.HistoryView.{history_of}
use Rattle.nq_run.specs.Sessions.{IsAdded}
use Rattle.nq_run.proofs.ShellLemmas.{can_add, entry_stands, free_constructor, names_spelled, shell_added, shell_entry, shell_ready}
use Rattle.nq_run.proofs.session.Session.with_shell.Goals as goal

pub block_of_shell-requires-clause-can : goal.block_of_shell-requires-clause-can
block_of_shell-requires-clause-can g c = can_add (history_of c.args.self) (shell_at c.args.self.bank c.args.shell) c.requires.lawful c.requires.spelled

pub accepted-requires-clause-entry : goal.accepted-requires-clause-entry
accepted-requires-clause-entry g c =
    let bank = c.args.self.bank in
    subst (λ s. EntryStands bank (shell_entry s c.args.given.mark)) (sym c.in_ok-block.ensures.same) (entry_stands bank c.args.shell c.args.given.mark c.requires.shell)

pub accepted-requires-clause-free : goal.accepted-requires-clause-free
accepted-requires-clause-free g c =
    let bank = c.args.self.bank in
    let h = history_of c.args.self in
    subst (λ s. IsFree h (text_at bank s.constructor)) (sym c.in_ok-block.ensures.same) (free_constructor h (shell_at bank c.args.shell) c.requires.lawful c.requires.spelled)

pub accepted-requires-clause-symbols : goal.accepted-requires-clause-symbols
accepted-requires-clause-symbols g c =
    let bank = c.args.self.bank in
    subst (λ s. Each (λ n. IsTrue (is_symbol n)) (event_names (logic.AddShell (shell_at bank s)))) (sym c.in_ok-block.ensures.same)
    (names_spelled (shell_at bank c.args.shell) c.requires.spelled)

pub accepted-requires-clause-few : goal.accepted-requires-clause-few
accepted-requires-clause-few g c =
    let bank = c.args.self.bank in
    subst (λ s. length (event_names (logic.AddShell (shell_at bank s))) ≤ 24) (sym c.in_ok-block.ensures.same)
    (c.events_are_spelled.ensures.shells (shell_at bank c.args.shell) c.requires.spelled)

pub accepted-requires-clause-ready : goal.accepted-requires-clause-ready
accepted-requires-clause-ready g c =
    let bank = c.args.self.bank in
    let h = history_of c.args.self in
    subst (λ s. IsReadyEvent h (logic.AddShell (shell_at bank s))) (sym c.in_ok-block.ensures.same) (shell_ready h (shell_at bank c.args.shell) c.requires.lawful c.requires.spelled)

pub returns-clause-taken : goal.returns-clause-taken
returns-clause-taken g c =
    let old = c.args.self in
    let mark = c.args.given.mark in
    shell_added c.args.given.steps old (tree c.args.given.form.now) c.args.shell mark c.args.given.logging c.in_ok-block.block c.accepted.result c.requires.lawful c.in_ok-block.ensures.block
    (subst (λ s. IfOk c.accepted.result (λ r. IsAdded old (shell_entry s mark) r.session)) c.in_ok-block.ensures.same c.accepted.ensures.added) c.accepted.ensures.answer c.accepted.ensures.block
