use Rattle.std.proofs.Common.{◌≡◌, map, sym, ap, subst}
use Rattle.std.specs.Prelude.{IfOk, true}
use Rattle.nq_logic.specs.Histories.{Shell as ShellOfTexts}
use Rattle.nq_logic.specs.Terms.{Name, Variable}
use Rattle.nq_bank.specs.Content.{text_at}
use Rattle.nq_bank.specs.Shells.{shell_at}
use Rattle.nq_bank.proofs.Growth.{IsNamed-grown, text_at-grown}
use Rattle.nq_history.specs.Events.{events_at}
use Rattle.nq_history.proofs.ShellLemmas.{shell_at-grown, ShellStands-grown}
use Rattle.nq_kernel.specs.Over.{IsVariable}
use Rattle.nq_kernel.proofs.GrowingLemmas.{WorkGrows-trans}
use Rattle.nq_goals.specs.Eliminating.{has_parts}
use Rattle.nq_eliminate.specs.Instances.{IsInstance}
use Rattle.nq_eliminate.specs.Made.{IsMade}
use Rattle.nq_eliminate.specs.Shells.{eliminating_by}
use Rattle.nq_eliminate.proofs.OverLemmas.{shell_over}
use Rattle.nq_eliminate.proofs.RowLemmas.{made_of_row}
use Rattle.nq_eliminate.proofs.ShellSteps.{row_there, shell_over_grown}
use Rattle.nq_eliminate.proofs.shells.shell_instance.Goals as goal

pub with_rule-requires-clause-shell : goal.with_rule-requires-clause-shell
with_rule-requires-clause-shell c = ShellStands-grown c.args.work.now.bank c.made_by.new.work.bank c.made_by.ensures.grows.bank c.args.shell.now c.requires.shell

pub with_rule-requires-clause-row : goal.with_rule-requires-clause-row
with_rule-requires-clause-row c =
    let w = c.args.work.now in
    row_there c.args.history.now w c.made_by.new.work c.requires.stands c.made_by.ensures.grows c.args.shell.now c.requires.shell (made_of_row (events_at w.bank c.args.history.now) (shell_at w.bank c.args.shell.now) c.requires.ready c.requires.among)

pub with_rule-requires-clause-name : goal.with_rule-requires-clause-name
with_rule-requires-clause-name c = IsNamed-grown c.args.work.now.bank c.made_by.new.work.bank c.args.name c.made_by.ensures.grows.bank c.requires.name

pub with_rule-requires-clause-plain : goal.with_rule-requires-clause-plain
with_rule-requires-clause-plain c = subst IsVariable (sym (text_at-grown c.args.work.now.bank c.made_by.new.work.bank c.args.name c.made_by.ensures.grows.bank c.requires.name)) c.requires.plain

pub with_rule-requires-clause-parts : goal.with_rule-requires-clause-parts
with_rule-requires-clause-parts c =
    subst (λ (s : ShellOfTexts). has_parts (map (λ part. part.accessor) s.parts) ≡ true) (sym (shell_at-grown c.args.work.now.bank c.made_by.new.work.bank c.made_by.ensures.grows.bank c.args.shell.now c.requires.shell)) c.requires.parts

pub with_rule-requires-clause-over : goal.with_rule-requires-clause-over
with_rule-requires-clause-over c =
    let h = c.args.history.now in
    let w = c.args.work.now in
    let mid = c.made_by.new.work in
    let s = shell_at w.bank c.args.shell.now in
    let events = events_at w.bank h in
    let x = text_at w.bank c.args.name in
    shell_over_grown h w mid c.requires.stands c.made_by.ensures.grows c.args.shell.now (Variable x) (Variable (text_at mid.bank c.args.name)) c.requires.shell (ap Variable (text_at-grown w.bank mid.bank c.args.name c.made_by.ensures.grows.bank c.requires.name))
    (shell_over events (c.own_terms.ensures w.bank h c.requires.ready) s (made_of_row events s c.requires.ready c.requires.among) x c.requires.plain)

pub with_rule-requires-clause-made : goal.with_rule-requires-clause-made
with_rule-requires-clause-made c =
    let h = c.args.history.now in
    let w = c.args.work.now in
    let mid = c.made_by.new.work in
    let m = c.in_ok-made.made in
    subst (λ (s : ShellOfTexts). IsMade h mid s (text_at mid.bank c.args.name) m) (sym (shell_at-grown w.bank mid.bank c.made_by.ensures.grows.bank c.args.shell.now c.requires.shell))
    (subst (λ (x : Name). IsMade h mid (shell_at w.bank c.args.shell.now) x m) (sym (text_at-grown w.bank mid.bank c.args.name c.made_by.ensures.grows.bank c.requires.name)) c.in_ok-made.ensures.made)

pub returns-clause-instance : goal.returns-clause-instance
returns-clause-instance c =
    let h = c.args.history.now in
    let w = c.args.work.now in
    let mid = c.made_by.new.work in
    let new = c.with_rule.new.work in
    subst (λ (s : ShellOfTexts). IfOk c.with_rule.result (IsInstance h new (eliminating_by s (text_at w.bank c.args.name)))) (shell_at-grown w.bank mid.bank c.made_by.ensures.grows.bank c.args.shell.now c.requires.shell)
    (subst (λ (x : Name). IfOk c.with_rule.result (IsInstance h new (eliminating_by (shell_at mid.bank c.args.shell.now) x))) (text_at-grown w.bank mid.bank c.args.name c.made_by.ensures.grows.bank c.requires.name) c.with_rule.ensures.instance)

pub returns-clause-grows : goal.returns-clause-grows
returns-clause-grows c = WorkGrows-trans c.args.history.now c.args.work.now c.made_by.new.work c.with_rule.new.work c.made_by.ensures.grows c.with_rule.ensures.grows
