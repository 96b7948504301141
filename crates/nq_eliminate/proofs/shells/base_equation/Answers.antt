use Rattle.std.proofs.Common.{◌∙◌, ap, arith}
use Rattle.nq_logic.specs.Terms.{Function}
use Rattle.nq_logic.specs.Words.{equal_term}
use Rattle.nq_bank.specs.Content.{term_at, text_at}
use Rattle.nq_bank.specs.Shells.{text_if}
use Rattle.nq_kernel.proofs.GrowingLemmas.{WorkGrows-refl, WorkGrows-trans}
use Rattle.nq_lines.proofs.TermLemmas.{same_term_grown, term_grown}
use Rattle.nq_eliminate.proofs.ShellSteps.{base_made, base_named, base_none, id_over}
use Rattle.nq_eliminate.proofs.shells.base_equation.Goals as goal

pub app-requires-clause-function : goal.app-requires-clause-function
app-requires-clause-function c = base_named c.args.work.now.bank c.args.shell.now.base c.in-Some.name c.requires.shell.base c.in-Some.is

pub app-requires-clause-arguments : goal.app-requires-clause-arguments
app-requires-clause-arguments c = λ k d below. absurd (omega (arith, below))

pub returns-in_err-base-in-Some-clause-grows : goal.returns-in_err-base-in-Some-clause-grows
returns-in_err-base-in-Some-clause-grows c = c.app.ensures.grows

pub equate-requires-clause-left : goal.equate-requires-clause-left
equate-requires-clause-left c = term_grown c.args.history.now c.args.work.now c.app.new.self c.args.t c.requires.stands c.app.ensures.grows c.requires.term

pub equate-requires-clause-right : goal.equate-requires-clause-right
equate-requires-clause-right c =
    let bank = c.args.work.now.bank in
    id_over c.args.history.now c.args.work.now c.app.new.self c.requires.stands c.app.ensures.grows c.in_ok-base-in-Some.base (Function (text_at bank c.in-Some.name)) c.in_ok-base-in-Some.ensures.call (c.requires.over.base (text_at bank c.in-Some.name) (ap (text_if bank) c.in-Some.is))

pub returns-in_err-equation-in-Some-clause-grows : goal.returns-in_err-equation-in-Some-clause-grows
returns-in_err-equation-in-Some-clause-grows c = WorkGrows-trans c.args.history.now c.args.work.now c.app.new.self c.equate.new.work c.app.ensures.grows c.equate.ensures.grows

pub returns-in_ok-equation-in-Some-clause-equation : goal.returns-in_ok-equation-in-Some-clause-equation
returns-in_ok-equation-in-Some-clause-equation c =
    let h = c.args.history.now in
    let old = c.args.work.now in
    let mid = c.app.new.self in
    base_made h c.equate.new.work old.bank (term_at old.bank c.args.t) c.args.shell.now.base c.in-Some.name c.in_ok-equation-in-Some.equation c.in-Some.is c.in_ok-equation-in-Some.ensures.over
    (c.in_ok-equation-in-Some.ensures.equation.denotes
    ∙ ap (λ t. equal_term t (term_at mid.bank c.in_ok-base-in-Some.base)) (same_term_grown h old mid c.args.t c.app.ensures.grows c.requires.term)
    ∙ ap (equal_term (term_at old.bank c.args.t)) c.in_ok-base-in-Some.ensures.call.denotes)

pub returns-in_ok-equation-in-Some-clause-grows : goal.returns-in_ok-equation-in-Some-clause-grows
returns-in_ok-equation-in-Some-clause-grows c = WorkGrows-trans c.args.history.now c.args.work.now c.app.new.self c.equate.new.work c.app.ensures.grows c.equate.ensures.grows

pub returns-in-None-clause-equation : goal.returns-in-None-clause-equation
returns-in-None-clause-equation c = base_none c.args.history.now c.args.work.now c.args.work.now.bank (term_at c.args.work.now.bank c.args.t) c.args.shell.now.base c.in-None.is

pub returns-in-None-clause-grows : goal.returns-in-None-clause-grows
returns-in-None-clause-grows c = WorkGrows-refl c.args.history.now c.args.work.now c.requires.stands
