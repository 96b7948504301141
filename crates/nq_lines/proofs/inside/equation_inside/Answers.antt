use Rattle.nq_bank.specs.Content.{term_at}
use Rattle.nq_rule.proofs.Made.{for_ok}
use Rattle.nq_proof.specs.Rules.{Forwards}
use Rattle.nq_kernel.specs.declared.work.Work.{Work}
use Rattle.nq_kernel.specs.Growing.{WorkGrows}
use Rattle.nq_kernel.proofs.GrowingLemmas.{WorkGrows-refl, WorkGrows-trans}
use Rattle.nq_lines.specs.Lines.{DischargesTo}
use Rattle.nq_lines.proofs.LineLemmas.{line_grown}
use Rattle.nq_lines.proofs.TermLemmas.{term_grown, same_term_grown}
use Rattle.nq_lines.specs.Inside.{CarriesInside}
use Rattle.nq_lines.proofs.InsideLemmas.{can_inside, carries, replaced_stands}
use Rattle.nq_lines.proofs.inside.equation_inside.Goals as goal

pub returns-in_err-whole-clause-grows : goal.returns-in_err-whole-clause-grows
returns-in_err-whole-clause-grows c = WorkGrows-refl c.args.history.now c.args.work.now c.requires.stands

pub replace_first-requires-clause-term : goal.replace_first-requires-clause-term
replace_first-requires-clause-term c = term_grown c.args.history.now c.args.work.now c.reflexive.new.work c.args.new c.requires.stands c.reflexive.ensures.grows c.requires.new

pub replace_first-requires-clause-can : goal.replace_first-requires-clause-can
replace_first-requires-clause-can c =
    let w0 : Work = c.args.work.now in
    let w1 : Work = c.reflexive.new.work in
    can_inside w1 c.in_ok-line.line c.args.path.now c.in_ok-whole.whole.items (term_at w0.bank c.args.t) (term_at w0.bank c.args.old) (term_at w0.bank c.args.new) (term_at w1.bank c.args.new) c.in_ok-whole.ensures.path
    (same_term_grown c.args.history.now w0 w1 c.args.new c.reflexive.ensures.grows c.requires.new) c.in_ok-line.ensures.line c.requires.part

pub returns-in_err-replaced-clause-grows : goal.returns-in_err-replaced-clause-grows
returns-in_err-replaced-clause-grows c = WorkGrows-trans c.args.history.now c.args.work.now c.reflexive.new.work c.replace_first.new.work c.reflexive.ensures.grows c.replace_first.ensures.grows

pub discharge-requires-clause-left : goal.discharge-requires-clause-left
discharge-requires-clause-left c = term_grown c.args.history.now c.args.work.now c.replace_first.new.work c.args.old c.requires.stands (WorkGrows-trans c.args.history.now c.args.work.now c.reflexive.new.work c.replace_first.new.work c.reflexive.ensures.grows c.replace_first.ensures.grows) c.requires.old

pub discharge-requires-clause-right : goal.discharge-requires-clause-right
discharge-requires-clause-right c = term_grown c.args.history.now c.args.work.now c.replace_first.new.work c.args.new c.requires.stands (WorkGrows-trans c.args.history.now c.args.work.now c.reflexive.new.work c.replace_first.new.work c.reflexive.ensures.grows c.replace_first.ensures.grows) c.requires.new

pub discharge-requires-clause-line : goal.discharge-requires-clause-line
discharge-requires-clause-line c =
    let w0 : Work = c.args.work.now in
    let w1 : Work = c.reflexive.new.work in
    replaced_stands w1 c.replace_first.new.work c.in_ok-line.line c.args.path.now c.in_ok-whole.whole.items (term_at w0.bank c.args.t) (term_at w0.bank c.args.old) (term_at w0.bank c.args.new) (term_at w1.bank c.args.new) c.in_ok-replaced.replaced c.in_ok-whole.ensures.path
    (same_term_grown c.args.history.now w0 w1 c.args.new c.reflexive.ensures.grows c.requires.new) c.in_ok-line.ensures.line c.requires.part c.in_ok-replaced.ensures.line

pub discharge-requires-clause-equation : goal.discharge-requires-clause-equation
discharge-requires-clause-equation c = line_grown c.args.history.now c.args.work.now c.replace_first.new.work c.args.equation c.requires.stands (WorkGrows-trans c.args.history.now c.args.work.now c.reflexive.new.work c.replace_first.new.work c.reflexive.ensures.grows c.replace_first.ensures.grows) c.requires.equation

pub returns-clause-grows : goal.returns-clause-grows
returns-clause-grows c =
    WorkGrows-trans c.args.history.now c.args.work.now c.replace_first.new.work c.discharge.new.work
    (WorkGrows-trans c.args.history.now c.args.work.now c.reflexive.new.work c.replace_first.new.work c.reflexive.ensures.grows c.replace_first.ensures.grows) c.discharge.ensures.grows

pub returns-clause-line : goal.returns-clause-line
returns-clause-line c =
    let h = c.args.history.now in
    let w0 : Work = c.args.work.now in
    let w1 : Work = c.reflexive.new.work in
    let w2 : Work = c.replace_first.new.work in
    let w3 : Work = c.discharge.new.work in
    let g02 : WorkGrows h w0 w2 = WorkGrows-trans h w0 w1 w2 c.reflexive.ensures.grows c.replace_first.ensures.grows in
    for_ok c.discharge.result (DischargesTo w2 w3 Forwards (term_at w2.bank c.args.old) (term_at w2.bank c.args.new) c.in_ok-replaced.replaced c.args.equation)
    (CarriesInside w0 w3 c.args.path.now (term_at w0.bank c.args.t) (term_at w0.bank c.args.old) (term_at w0.bank c.args.new) c.args.equation)
    (λ n f. carries h w0 w1 w2 w3 c.args.path.now c.in_ok-whole.whole.items (term_at w0.bank c.args.t) (term_at w0.bank c.args.old) (term_at w0.bank c.args.new) (term_at w1.bank c.args.new) (term_at w2.bank c.args.old) (term_at w2.bank c.args.new) c.in_ok-line.line c.in_ok-replaced.replaced c.args.equation n
    c.requires.stands g02 c.in_ok-whole.ensures.path (same_term_grown h w0 w1 c.args.new c.reflexive.ensures.grows c.requires.new) (same_term_grown h w0 w2 c.args.old g02 c.requires.old) (same_term_grown h w0 w2 c.args.new g02 c.requires.new)
    c.in_ok-line.ensures.line c.in_ok-replaced.ensures.line f) c.discharge.ensures.line
