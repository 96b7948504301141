use Rattle.std.proofs.Common.{sym, subst}
use Rattle.nq_bank.specs.Content.{term_at}
use Rattle.nq_kernel.specs.declared.work.Work.{Work}
use Rattle.nq_kernel.specs.Growing.{WorkGrows}
use Rattle.nq_kernel.proofs.GrowingLemmas.{WorkGrows-trans}
use Rattle.nq_lines.proofs.LineLemmas.{line_grown}
use Rattle.nq_lines.proofs.TermLemmas.{term_grown, same_term_grown}
use Rattle.nq_bank.specs.Parts.{parts_of}
use Rattle.nq_proof.specs.Clauses.{literal_at}
use Rattle.std.specs.Prelude.{IsSome}
use Rattle.nq_lines.proofs.EqualityLemmas.{carries_by}
use Rattle.nq_lines.proofs.calls.congruent.Goals as goal

pub congruent_line-requires-clause-call : goal.congruent_line-requires-clause-call
congruent_line-requires-clause-call c = term_grown c.args.history.now c.args.work.now c.changed_call.new.work c.args.t c.requires.stands c.changed_call.ensures.grows c.requires.call

pub congruent_line-requires-clause-argument : goal.congruent_line-requires-clause-argument
congruent_line-requires-clause-argument c = term_grown c.args.history.now c.args.work.now c.changed_call.new.work c.args.u c.requires.stands c.changed_call.ensures.grows c.requires.argument

pub congruent_line-requires-clause-equation : goal.congruent_line-requires-clause-equation
congruent_line-requires-clause-equation c = line_grown c.args.history.now c.args.work.now c.changed_call.new.work c.args.equation c.requires.stands c.changed_call.ensures.grows c.requires.equation

pub congruent_line-requires-clause-place : goal.congruent_line-requires-clause-place
congruent_line-requires-clause-place c = subst (λ x. IsSome (literal_at c.args.place (parts_of x))) (sym (same_term_grown c.args.history.now c.args.work.now c.changed_call.new.work c.args.t c.changed_call.ensures.grows c.requires.call)) c.requires.place

pub returns-clause-over : goal.returns-clause-over
returns-clause-over c = term_grown c.args.history.now c.changed_call.new.work c.congruent_line.new.work c.in_ok-term.term c.changed_call.ensures.grows.stands c.congruent_line.ensures.grows c.in_ok-term.ensures.over

pub returns-in_err-line-clause-grows : goal.returns-in_err-line-clause-grows
returns-in_err-line-clause-grows c = (WorkGrows-trans c.args.history.now c.args.work.now c.changed_call.new.work c.congruent_line.new.work c.changed_call.ensures.grows c.congruent_line.ensures.grows)

pub returns-clause-grows : goal.returns-clause-grows
returns-clause-grows c = (WorkGrows-trans c.args.history.now c.args.work.now c.changed_call.new.work c.congruent_line.new.work c.changed_call.ensures.grows c.congruent_line.ensures.grows)

pub returns-clause-line : goal.returns-clause-line
returns-clause-line c =
    let h = c.args.history.now in
    let w0 : Work = c.args.work.now in
    let w1 : Work = c.changed_call.new.work in
    let w2 : Work = c.congruent_line.new.work in
    let g01 : WorkGrows h w0 w1 = c.changed_call.ensures.grows in
    let g02 : WorkGrows h w0 w2 = (WorkGrows-trans c.args.history.now c.args.work.now c.changed_call.new.work c.congruent_line.new.work c.changed_call.ensures.grows c.congruent_line.ensures.grows) in
    let g12 : WorkGrows h w1 w2 = c.congruent_line.ensures.grows in
    let t1 = same_term_grown h w0 w1 c.args.t g01 c.requires.call in
    let u1 = same_term_grown h w0 w1 c.args.u g01 c.requires.argument in
    carries_by h w0 w1 w2 c.args.place (term_at w1.bank c.args.t) (term_at w1.bank c.args.u) (term_at w0.bank c.args.t) (term_at w0.bank c.args.u) c.args.equation c.in_ok-line.line c.requires.stands g01 t1 u1 c.in_ok-line.ensures.line
