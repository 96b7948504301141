use Rattle.std.proofs.Common.{◌∙◌, ◌∷◌, map}
use Rattle.nq_logic.specs.Words.{equal_term, not_term}
use Rattle.nq_bank.specs.Content.{term_at}
use Rattle.nq_bank.specs.Shells.{shell_at}
use Rattle.nq_kernel.proofs.GrowingLemmas.{WorkGrows-trans}
use Rattle.nq_rule.proofs.Made.{for_ok}
use Rattle.nq_lines.specs.Lines.{LineHasOnly, MakesOf}
use Rattle.nq_lines.proofs.LineLemmas.{only_stands}
use Rattle.nq_lines.proofs.TermLemmas.{same_term_grown, term_grown}
use Rattle.nq_eliminate.specs.Made.{hypotheses_on, made_on}
use Rattle.nq_eliminate.proofs.InstanceLemmas.{line_with, line_without}
use Rattle.nq_eliminate.proofs.ShellSteps.{base_absent, base_says}
use Rattle.nq_eliminate.proofs.shells.rule_line.Goals as goal

pub deny_twice-requires-clause-term : goal.deny_twice-requires-clause-term
deny_twice-requires-clause-term c =
    let h = c.args.history.now in
    let old = c.args.work.now in
    let says = base_says h old (term_at old.bank c.args.t) (shell_at old.bank c.args.shell.now).base c.args.base c.in-Some.equation c.requires.base c.in-Some.is in
    term_grown h old c.row_about.new.work c.in-Some.equation c.requires.stands c.row_about.ensures.grows says.over

pub deny_twice-requires-clause-line : goal.deny_twice-requires-clause-line
deny_twice-requires-clause-line c = only_stands c.row_about.new.work c.in_ok-line.line _ c.in_ok-line.ensures.line

pub returns-in-Some-clause-line : goal.returns-in-Some-clause-line
returns-in-Some-clause-line c =
    let h = c.args.history.now in
    let old = c.args.work.now in
    let mid = c.row_about.new.work in
    let new = c.deny_twice.new.work in
    let t = term_at old.bank c.args.t in
    let s = shell_at old.bank c.args.shell.now in
    let e = c.in-Some.equation in
    let says = base_says h old t s.base c.args.base e c.requires.base c.in-Some.is in
    let same = same_term_grown h old mid e c.row_about.ensures.grows says.over in
    for_ok c.deny_twice.result (λ n. MakesOf mid new (term_at mid.bank e) (not_term (not_term (term_at mid.bank e))) c.in_ok-line.line n) (λ n. LineHasOnly new n (equal_term (made_on t s) t ∷ map not_term (hypotheses_on t s)))
    (λ n makes. line_with mid new t (term_at mid.bank e) s says.base c.in_ok-line.line n says.some (same ∙ says.is) c.in_ok-line.ensures.line makes) c.deny_twice.ensures.line

pub returns-in-Some-clause-grows : goal.returns-in-Some-clause-grows
returns-in-Some-clause-grows c = WorkGrows-trans c.args.history.now c.args.work.now c.row_about.new.work c.deny_twice.new.work c.row_about.ensures.grows c.deny_twice.ensures.grows

pub returns-in-None-clause-line : goal.returns-in-None-clause-line
returns-in-None-clause-line c =
    let old = c.args.work.now in
    let t = term_at old.bank c.args.t in
    let s = shell_at old.bank c.args.shell.now in
    line_without c.row_about.new.work t s c.in_ok-line.line (base_absent c.args.history.now old t s.base c.args.base c.requires.base c.in-None.is) c.in_ok-line.ensures.line

pub returns-in-None-clause-grows : goal.returns-in-None-clause-grows
returns-in-None-clause-grows c = c.row_about.ensures.grows
