use Rattle.std.proofs.Common.{[], ◌∙◌, ap}
use Rattle.nq_logic.specs.Terms.{Term}
use Rattle.nq_bank.specs.Content.{term_at, text_at}
use Rattle.nq_bank.specs.Parts.{parts_of}
use Rattle.nq_rule.proofs.Made.{for_ok}
use Rattle.nq_kernel.specs.declared.work.Work.{Work}
use Rattle.nq_kernel.specs.Growing.{WorkGrows}
use Rattle.nq_kernel.proofs.GrowingLemmas.{WorkGrows-trans}
use Rattle.nq_lines.proofs.TermLemmas.{term_grown}
use Rattle.nq_lines.specs.declared.calls.Equated.{Equated}
use Rattle.nq_lines.specs.Arguments.{MakesOn, CarriesOn, IsChangedCall, CarriesAll}
use Rattle.nq_lines.proofs.ManyLemmas.{changes_grown, count_now, leads_now, call_first, call_whole, line_whole, call_plain, line_plain, variable_parts}
use Rattle.nq_lines.proofs.TermLemmas.{both_ok}
use Rattle.nq_bank.proofs.Numerals.{parts_of-number, number_of-numeral}
use Rattle.nq_logic.specs.Words.{numeral}
use Rattle.nq_lines.proofs.arguments.congruent_all.Goals as goal

pub changed_from-requires-clause-call : goal.changed_from-requires-clause-call
changed_from-requires-clause-call c = (term_grown c.args.history.now c.args.work.now c.reflexive.new.work c.args.t c.requires.stands c.reflexive.ensures.grows c.requires.call)

pub changed_from-requires-clause-place : goal.changed_from-requires-clause-place
changed_from-requires-clause-place c =
    let h = c.args.history.now in
    let w0 : Work = c.args.work.now in
    let w1 : Work = c.reflexive.new.work in
    let g01 : WorkGrows h w0 w1 = c.reflexive.ensures.grows in
    let t : Term = term_at w1.bank c.args.t in
    let f = text_at w1.bank c.in-App.field-0 in
    record { function = f; done = []; others = parts_of t; is = call_first f c.args.changes.now t c.in-App.ensures.head.1 c.in-App.ensures.head.3 (count_now h w0 w1 c.args.t c.args.changes.now c.requires.stands g01 c.requires.call c.requires.count) }

pub changed_from-requires-clause-line : goal.changed_from-requires-clause-line
changed_from-requires-clause-line c =
    let h = c.args.history.now in
    let w0 : Work = c.args.work.now in
    let w1 : Work = c.reflexive.new.work in
    let g01 : WorkGrows h w0 w1 = c.reflexive.ensures.grows in
    record { left = term_at w0.bank c.args.t; these = []; leads = leads_now h w0 w1 c.args.t c.args.changes.now c.requires.stands g01 c.requires.call c.in_ok-line.line c.in_ok-line.ensures.line }

pub changed_from-requires-clause-changes : goal.changed_from-requires-clause-changes
changed_from-requires-clause-changes c = changes_grown c.args.history.now c.args.work.now c.reflexive.new.work c.requires.stands c.reflexive.ensures.grows c.args.changes.now c.requires.changes

pub returns-in-App-clause-grows : goal.returns-in-App-clause-grows
returns-in-App-clause-grows c = (WorkGrows-trans c.args.history.now c.args.work.now c.reflexive.new.work c.changed_from.new.work c.reflexive.ensures.grows c.changed_from.ensures.grows)

pub returns-in-App-clause-call : goal.returns-in-App-clause-call
returns-in-App-clause-call c =
    let h = c.args.history.now in
    let w0 : Work = c.args.work.now in
    let w1 : Work = c.reflexive.new.work in
    let g01 : WorkGrows h w0 w1 = c.reflexive.ensures.grows in
    let w2 : Work = c.changed_from.new.work in
    let line = c.in_ok-line.line in
    let now : Term = term_at w1.bank c.args.t in
    let changes = c.args.changes.now in
    let P : Equated → Type 0 = MakesOn w1 w2 1 changes now in
    for_ok c.changed_from.result P (IsChangedCall w0 w2 (term_at w0.bank c.args.t) changes) (λ e makes. call_whole h w0 w1 c.args.t c.args.changes.now c.requires.stands g01 c.requires.call w2 line e c.in-App.ensures.head.3 c.requires.count c.requires.changes makes) c.changed_from.ensures.call

pub returns-in-App-clause-line : goal.returns-in-App-clause-line
returns-in-App-clause-line c =
    let h = c.args.history.now in
    let w0 : Work = c.args.work.now in
    let w1 : Work = c.reflexive.new.work in
    let g01 : WorkGrows h w0 w1 = c.reflexive.ensures.grows in
    let w2 : Work = c.changed_from.new.work in
    let line = c.in_ok-line.line in
    let now : Term = term_at w1.bank c.args.t in
    let changes = c.args.changes.now in
    let P : Equated → Type 0 = MakesOn w1 w2 1 changes now in
    both_ok c.changed_from.result P (CarriesOn w1 w2 1 changes now line) (CarriesAll w0 w2 (term_at w0.bank c.args.t) changes)
    (λ e makes carries. line_whole h w0 w1 c.args.t c.args.changes.now c.requires.stands g01 c.requires.call w2 line e c.in-App.ensures.head.3 c.requires.count c.requires.changes (text_at w1.bank c.in-App.field-0) c.in-App.ensures.head.1 c.in_ok-line.ensures.line makes carries) c.changed_from.ensures.call c.changed_from.ensures.line

pub returns-in-Num-clause-call : goal.returns-in-Num-clause-call
returns-in-Num-clause-call c =
    let h = c.args.history.now in
    let w0 : Work = c.args.work.now in
    let w1 : Work = c.reflexive.new.work in
    let g01 : WorkGrows h w0 w1 = c.reflexive.ensures.grows in
    call_plain h w0 w1 c.args.t c.args.changes.now c.requires.stands g01 c.requires.call c.in_ok-line.line (ap parts_of c.in-Num.ensures.head.1 ∙ parts_of-number (numeral c.in-Num.field-0) c.in-Num.field-0 (number_of-numeral c.in-Num.field-0 c.in-Num.ensures.head.0))

pub returns-in-Num-clause-line : goal.returns-in-Num-clause-line
returns-in-Num-clause-line c =
    let h = c.args.history.now in
    let w0 : Work = c.args.work.now in
    let w1 : Work = c.reflexive.new.work in
    let g01 : WorkGrows h w0 w1 = c.reflexive.ensures.grows in
    line_plain h w0 w1 c.args.t c.args.changes.now c.requires.stands g01 c.requires.call c.in_ok-line.line c.in_ok-line.ensures.line

pub returns-in-Num-clause-over : goal.returns-in-Num-clause-over
returns-in-Num-clause-over c = (term_grown c.args.history.now c.args.work.now c.reflexive.new.work c.args.t c.requires.stands c.reflexive.ensures.grows c.requires.call)

pub returns-in-Var-clause-call : goal.returns-in-Var-clause-call
returns-in-Var-clause-call c =
    let h = c.args.history.now in
    let w0 : Work = c.args.work.now in
    let w1 : Work = c.reflexive.new.work in
    let g01 : WorkGrows h w0 w1 = c.reflexive.ensures.grows in
    call_plain h w0 w1 c.args.t c.args.changes.now c.requires.stands g01 c.requires.call c.in_ok-line.line (ap parts_of c.in-Var.ensures.head.1 ∙ variable_parts _)

pub returns-in-Var-clause-line : goal.returns-in-Var-clause-line
returns-in-Var-clause-line c =
    let h = c.args.history.now in
    let w0 : Work = c.args.work.now in
    let w1 : Work = c.reflexive.new.work in
    let g01 : WorkGrows h w0 w1 = c.reflexive.ensures.grows in
    line_plain h w0 w1 c.args.t c.args.changes.now c.requires.stands g01 c.requires.call c.in_ok-line.line c.in_ok-line.ensures.line

pub returns-in-Var-clause-over : goal.returns-in-Var-clause-over
returns-in-Var-clause-over c = (term_grown c.args.history.now c.args.work.now c.reflexive.new.work c.args.t c.requires.stands c.reflexive.ensures.grows c.requires.call)
