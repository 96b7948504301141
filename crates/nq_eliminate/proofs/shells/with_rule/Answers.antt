use Rattle.std.proofs.Common.{◌∙◌, List, sym, ap, subst}
use Rattle.std.specs.Prelude.{All}
use Rattle.nq_logic.specs.Terms.{Variable}
use Rattle.nq_bank.specs.declared.node.TermId.{TermId}
use Rattle.nq_bank.specs.Content.{Stands, term_at, terms_at, text_at}
use Rattle.nq_bank.specs.Shells.{shell_at}
use Rattle.nq_bank.proofs.Standing.{stand_grown}
use Rattle.nq_proof.specs.Clauses.{distinct}
use Rattle.nq_history.specs.Events.{events_at}
use Rattle.nq_history.proofs.ShellLemmas.{ShellStands-grown}
use Rattle.nq_kernel.proofs.GrowingLemmas.{WorkGrows-trans}
use Rattle.nq_lines.proofs.TermLemmas.{same_term_grown, term_grown}
use Rattle.nq_moves.proofs.SwappedLemmas.{goal_in_grown, goal_same}
use Rattle.nq_eliminate.specs.Made.{IsShellOver}
use Rattle.nq_eliminate.proofs.ShellSteps.{base_equation_grown, base_moved, base_of_same, hypotheses_same, instance_made, line_same, made_in, row_there, shell_over_grown}
use Rattle.nq_eliminate.proofs.shells.with_rule.Goals as goal

pub base_equation-requires-clause-term : goal.base_equation-requires-clause-term
base_equation-requires-clause-term c = made_in c.args.history.now c.args.work.now (shell_at c.args.work.now.bank c.args.shell.now) (text_at c.args.work.now.bank c.args.name) c.args.made c.requires.plain c.requires.made

pub base_equation-requires-clause-over : goal.base_equation-requires-clause-over
base_equation-requires-clause-over c =
    let w = c.args.work.now in
    subst (IsShellOver (events_at w.bank c.args.history.now) (shell_at w.bank c.args.shell.now)) (sym c.requires.made.variable.denotes) c.requires.over

pub hypotheses_of-requires-clause-shell : goal.hypotheses_of-requires-clause-shell
hypotheses_of-requires-clause-shell c = ShellStands-grown c.args.work.now.bank c.base_equation.new.work.bank c.base_equation.ensures.grows.bank c.args.shell.now c.requires.shell

pub hypotheses_of-requires-clause-term : goal.hypotheses_of-requires-clause-term
hypotheses_of-requires-clause-term c =
    let w = c.args.work.now in
    let v = made_in c.args.history.now w (shell_at w.bank c.args.shell.now) (text_at w.bank c.args.name) c.args.made c.requires.plain c.requires.made in
    term_grown c.args.history.now w c.base_equation.new.work c.args.made.variable c.requires.stands c.base_equation.ensures.grows v

pub hypotheses_of-requires-clause-over : goal.hypotheses_of-requires-clause-over
hypotheses_of-requires-clause-over c =
    let h = c.args.history.now in
    let w = c.args.work.now in
    let one = c.base_equation.new.work in
    let v = made_in h w (shell_at w.bank c.args.shell.now) (text_at w.bank c.args.name) c.args.made c.requires.plain c.requires.made in
    shell_over_grown h w one c.requires.stands c.base_equation.ensures.grows c.args.shell.now (Variable (text_at w.bank c.args.name)) (term_at one.bank c.args.made.variable) c.requires.shell
    (same_term_grown h w one c.args.made.variable c.base_equation.ensures.grows v ∙ c.requires.made.variable.denotes) c.requires.over

pub hypotheses_of-requires-clause-base : goal.hypotheses_of-requires-clause-base
hypotheses_of-requires-clause-base c =
    let h = c.args.history.now in
    let w = c.args.work.now in
    let one = c.base_equation.new.work in
    let shell = c.args.shell.now in
    let v = made_in h w (shell_at w.bank shell) (text_at w.bank c.args.name) c.args.made c.requires.plain c.requires.made in
    base_moved h one (term_at w.bank c.args.made.variable) (term_at one.bank c.args.made.variable) (shell_at w.bank shell).base (shell_at one.bank shell).base c.in_ok-base.base (same_term_grown h w one c.args.made.variable c.base_equation.ensures.grows v)
    (base_of_same h w one c.requires.stands c.base_equation.ensures.grows shell c.requires.shell) c.in_ok-base.ensures.equation

pub returns-in_err-hypotheses-clause-grows : goal.returns-in_err-hypotheses-clause-grows
returns-in_err-hypotheses-clause-grows c = WorkGrows-trans c.args.history.now c.args.work.now c.base_equation.new.work c.hypotheses_of.new.work c.base_equation.ensures.grows c.hypotheses_of.ensures.grows

pub rule_line-requires-clause-shell : goal.rule_line-requires-clause-shell
rule_line-requires-clause-shell c =
    let two = c.hypotheses_of.new.work in
    let up = WorkGrows-trans c.args.history.now c.args.work.now c.base_equation.new.work two c.base_equation.ensures.grows c.hypotheses_of.ensures.grows in
    ShellStands-grown c.args.work.now.bank two.bank up.bank c.args.shell.now c.requires.shell

pub rule_line-requires-clause-row : goal.rule_line-requires-clause-row
rule_line-requires-clause-row c =
    let h = c.args.history.now in
    let w = c.args.work.now in
    let two = c.hypotheses_of.new.work in
    row_there h w two c.requires.stands (WorkGrows-trans h w c.base_equation.new.work two c.base_equation.ensures.grows c.hypotheses_of.ensures.grows) c.args.shell.now c.requires.shell c.requires.row

pub rule_line-requires-clause-term : goal.rule_line-requires-clause-term
rule_line-requires-clause-term c =
    let h = c.args.history.now in
    let w = c.args.work.now in
    let two = c.hypotheses_of.new.work in
    let v = made_in h w (shell_at w.bank c.args.shell.now) (text_at w.bank c.args.name) c.args.made c.requires.plain c.requires.made in
    term_grown h w two c.args.made.variable c.requires.stands (WorkGrows-trans h w c.base_equation.new.work two c.base_equation.ensures.grows c.hypotheses_of.ensures.grows) v

pub rule_line-requires-clause-base : goal.rule_line-requires-clause-base
rule_line-requires-clause-base c =
    let h = c.args.history.now in
    let w = c.args.work.now in
    let one = c.base_equation.new.work in
    let two = c.hypotheses_of.new.work in
    let shell = c.args.shell.now in
    let v = made_in h w (shell_at w.bank shell) (text_at w.bank c.args.name) c.args.made c.requires.plain c.requires.made in
    let v_one = term_grown h w one c.args.made.variable c.requires.stands c.base_equation.ensures.grows v in
    base_equation_grown h one two c.base_equation.ensures.grows.stands c.hypotheses_of.ensures.grows shell (term_at one.bank c.args.made.variable) (term_at two.bank c.args.made.variable) c.in_ok-base.base (ShellStands-grown w.bank one.bank c.base_equation.ensures.grows.bank shell c.requires.shell)
    (same_term_grown h one two c.args.made.variable c.hypotheses_of.ensures.grows v_one)
    (base_moved h one (term_at w.bank c.args.made.variable) (term_at one.bank c.args.made.variable) (shell_at w.bank shell).base (shell_at one.bank shell).base c.in_ok-base.base (same_term_grown h w one c.args.made.variable c.base_equation.ensures.grows v)
    (base_of_same h w one c.requires.stands c.base_equation.ensures.grows shell c.requires.shell) c.in_ok-base.ensures.equation)

pub returns-in_err-line-clause-grows : goal.returns-in_err-line-clause-grows
returns-in_err-line-clause-grows c =
    let h = c.args.history.now in
    let w = c.args.work.now in
    let two = c.hypotheses_of.new.work in
    WorkGrows-trans h w two c.rule_line.new.work (WorkGrows-trans h w c.base_equation.new.work two c.base_equation.ensures.grows c.hypotheses_of.ensures.grows) c.rule_line.ensures.grows

pub distinct_clause-requires : goal.distinct_clause-requires
distinct_clause-requires c =
    let h = c.args.history.now in
    let w = c.args.work.now in
    let two = c.hypotheses_of.new.work in
    let three = c.rule_line.new.work in
    let up = WorkGrows-trans h w two three (WorkGrows-trans h w c.base_equation.new.work two c.base_equation.ensures.grows c.hypotheses_of.ensures.grows) c.rule_line.ensures.grows in
    subst (All (Stands three.bank)) (sym c.as_slice.ensures.value) (stand_grown w.bank three.bank c.args.made.calls.items up.bank c.requires.made.stand)

pub returns-in_err-calls-clause-grows : goal.returns-in_err-calls-clause-grows
returns-in_err-calls-clause-grows c =
    let h = c.args.history.now in
    let w = c.args.work.now in
    let two = c.hypotheses_of.new.work in
    WorkGrows-trans h w two c.rule_line.new.work (WorkGrows-trans h w c.base_equation.new.work two c.base_equation.ensures.grows c.hypotheses_of.ensures.grows) c.rule_line.ensures.grows

pub returns-clause-instance : goal.returns-clause-instance
returns-clause-instance c =
    let h = c.args.history.now in
    let w = c.args.work.now in
    let one = c.base_equation.new.work in
    let two = c.hypotheses_of.new.work in
    let three = c.rule_line.new.work in
    let shell = c.args.shell.now in
    let s = shell_at w.bank shell in
    let x = text_at w.bank c.args.name in
    let g01 = c.base_equation.ensures.grows in
    let g02 = WorkGrows-trans h w one two g01 c.hypotheses_of.ensures.grows in
    let g03 = WorkGrows-trans h w two three g02 c.rule_line.ensures.grows in
    let v = made_in h w s x c.args.made c.requires.plain c.requires.made in
    let v_one = same_term_grown h w one c.args.made.variable g01 v ∙ c.requires.made.variable.denotes in
    let v_two = same_term_grown h w two c.args.made.variable g02 v ∙ c.requires.made.variable.denotes in
    let hyps : List TermId = c.in_ok-hypotheses.hypotheses.items in
    let hyps_two = c.in_ok-hypotheses.ensures.over in
    instance_made h w three c.requires.stands g03 s c.args.name c.requires.name c.requires.plain c.requires.parts c.requires.over c.args.made c.requires.made c.new-others.result c.in_ok-calls.calls c.in_ok-hypotheses.hypotheses c.in_ok-line.line c.new-others.ensures.items
    (c.in_ok-calls.ensures.clause ∙ ap (λ (ids : List TermId). distinct (terms_at three.bank ids)) c.as_slice.ensures.value) c.in_ok-calls.ensures.stand
    (goal_same h two three g02.stands c.rule_line.ensures.grows hyps hyps_two ∙ hypotheses_same h w one c.requires.stands g01 shell c.requires.shell (Variable x) (term_at one.bank c.args.made.variable) (terms_at two.bank hyps) v_one c.in_ok-hypotheses.ensures.hypotheses)
    (goal_in_grown h two three g02.stands c.rule_line.ensures.grows hyps hyps_two) (line_same h w two c.requires.stands g02 shell c.requires.shell three c.in_ok-line.line (Variable x) (term_at two.bank c.args.made.variable) v_two c.in_ok-line.ensures.line)

pub returns-clause-grows : goal.returns-clause-grows
returns-clause-grows c =
    let h = c.args.history.now in
    let w = c.args.work.now in
    let two = c.hypotheses_of.new.work in
    WorkGrows-trans h w two c.rule_line.new.work (WorkGrows-trans h w c.base_equation.new.work two c.base_equation.ensures.grows c.hypotheses_of.ensures.grows) c.rule_line.ensures.grows
