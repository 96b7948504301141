use Rattle.std.proofs.Common.{◌∙◌, List, sym, ap, subst}
use Rattle.std.specs.Prelude.{All}
use Rattle.nq_logic.specs.Terms.{call}
use Rattle.nq_logic.specs.Shells.{accessed}
use Rattle.nq_bank.specs.declared.node.TermId.{TermId}
use Rattle.nq_bank.specs.declared.shell.Part.{Part}
use Rattle.nq_bank.specs.Content.{IsIdOf, Stands, term_at, terms_at, text_at}
use Rattle.nq_bank.specs.Shells.{PartStands, parts_at}
use Rattle.nq_bank.proofs.Growth.{IsNamed-grown}
use Rattle.nq_history.proofs.ShellLemmas.{ShellStands-grown}
use Rattle.nq_kernel.proofs.GrowingLemmas.{WorkGrows-trans}
use Rattle.nq_eliminate.proofs.ShellSteps.{made_it}
use Rattle.nq_eliminate.proofs.shells.made_by.Goals as goal

pub calls_on-requires-clause-parts : goal.calls_on-requires-clause-parts
calls_on-requires-clause-parts c =
    let one = c.variable_id.new.work in
    subst (All (PartStands one.bank)) (sym c.as_slice.ensures.value) (ShellStands-grown c.args.work.now.bank one.bank c.variable_id.ensures.grows.bank c.args.shell.now c.requires.shell).parts

pub calls_on-requires-clause-term : goal.calls_on-requires-clause-term
calls_on-requires-clause-term c = c.in_ok-variable.ensures.term.stands

pub returns-in_err-calls-clause-grows : goal.returns-in_err-calls-clause-grows
returns-in_err-calls-clause-grows c = WorkGrows-trans c.args.history.now c.args.work.now c.variable_id.new.work c.calls_on.new.work c.variable_id.ensures.grows c.calls_on.ensures.grows

pub app-requires-clause-function : goal.app-requires-clause-function
app-requires-clause-function c =
    let one = c.variable_id.new.work.bank in
    IsNamed-grown one c.calls_on.new.work.bank c.args.shell.now.constructor c.calls_on.ensures.grows.bank (IsNamed-grown c.args.work.now.bank one c.args.shell.now.constructor c.variable_id.ensures.grows.bank c.requires.shell.constructor)

pub app-requires-clause-arguments : goal.app-requires-clause-arguments
app-requires-clause-arguments c = subst (All (Stands c.calls_on.new.work.bank)) (sym c.as_slice-2.ensures.value) c.in_ok-calls.ensures.stand

pub returns-in_err-whole-clause-grows : goal.returns-in_err-whole-clause-grows
returns-in_err-whole-clause-grows c =
    let h = c.args.history.now in
    let old = c.args.work.now in
    let two = c.calls_on.new.work in
    WorkGrows-trans h old two c.app.new.self (WorkGrows-trans h old c.variable_id.new.work two c.variable_id.ensures.grows c.calls_on.ensures.grows) c.app.ensures.grows

pub returns-clause-made : goal.returns-clause-made
returns-clause-made c =
    let old = c.args.work.now in
    let one = c.variable_id.new.work in
    let two = c.calls_on.new.work in
    let three = c.app.new.self in
    let shell = c.args.shell.now in
    made_it c.args.history.now old one two three c.variable_id.ensures.grows c.calls_on.ensures.grows c.app.ensures.grows shell c.requires.shell c.args.name c.requires.name c.in_ok-variable.variable c.in_ok-whole.whole c.in_ok-calls.calls c.in_ok-variable.ensures.term
    (c.in_ok-calls.ensures.calls ∙ ap (λ (ps : List Part). accessed (term_at one.bank c.in_ok-variable.variable) (parts_at one.bank ps)) c.as_slice.ensures.value) c.in_ok-calls.ensures.stand
    (subst (λ (ids : List TermId). IsIdOf three.bank c.in_ok-whole.whole (call (text_at two.bank shell.constructor) (terms_at two.bank ids))) c.as_slice-2.ensures.value c.in_ok-whole.ensures.call)

pub returns-clause-grows : goal.returns-clause-grows
returns-clause-grows c =
    let h = c.args.history.now in
    let old = c.args.work.now in
    let two = c.calls_on.new.work in
    WorkGrows-trans h old two c.app.new.self (WorkGrows-trans h old c.variable_id.new.work two c.variable_id.ensures.grows c.calls_on.ensures.grows) c.app.ensures.grows
