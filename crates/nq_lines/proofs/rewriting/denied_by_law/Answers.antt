use Rattle.std.proofs.Common.{◌≡◌}
use Rattle.nq_bank.specs.Content.{term_at}
use Rattle.nq_rule.proofs.Made.{for_ok}
use Rattle.nq_rule.specs.Sides.{side_of}
use Rattle.nq_kernel.specs.declared.work.Work.{Work}
use Rattle.nq_kernel.specs.Growing.{WorkGrows}
use Rattle.nq_kernel.proofs.GrowingLemmas.{WorkGrows-trans}
use Rattle.nq_lines.specs.Lines.{DischargesTo, RewritesDenial}
use Rattle.nq_lines.proofs.LineLemmas.{line_grown}
use Rattle.nq_lines.proofs.TermLemmas.{term_grown, same_term_grown}
use Rattle.nq_lines.proofs.Chains.{cuts_by}
use Rattle.nq_lines.proofs.Chains.{denial_rewritten, discharges_by}
use Rattle.nq_lines.proofs.rewriting.denied_by_law.Goals as goal

pub cut-requires-clause-term : goal.cut-requires-clause-term
cut-requires-clause-term c = term_grown c.args.history.now c.args.work.now c.transfer.new.work c.args.t c.requires.stands c.transfer.ensures.grows c.requires.left

pub discharge-requires-clause-left : goal.discharge-requires-clause-left
discharge-requires-clause-left c = term_grown c.args.history.now c.args.work.now c.cut.new.work c.args.u c.requires.stands (WorkGrows-trans c.args.history.now c.args.work.now c.transfer.new.work c.cut.new.work c.transfer.ensures.grows c.cut.ensures.grows) c.requires.right

pub discharge-requires-clause-right : goal.discharge-requires-clause-right
discharge-requires-clause-right c = term_grown c.args.history.now c.args.work.now c.cut.new.work c.args.t c.requires.stands (WorkGrows-trans c.args.history.now c.args.work.now c.transfer.new.work c.cut.new.work c.transfer.ensures.grows c.cut.ensures.grows) c.requires.left

pub discharge-requires-clause-equation : goal.discharge-requires-clause-equation
discharge-requires-clause-equation c = line_grown c.args.history.now c.args.work.now c.cut.new.work c.args.equation c.requires.stands (WorkGrows-trans c.args.history.now c.args.work.now c.transfer.new.work c.cut.new.work c.transfer.ensures.grows c.cut.ensures.grows) c.requires.equation

pub returns-in_err-rest-clause-grows : goal.returns-in_err-rest-clause-grows
returns-in_err-rest-clause-grows c = (WorkGrows-trans c.args.history.now c.args.work.now c.transfer.new.work c.cut.new.work c.transfer.ensures.grows c.cut.ensures.grows)

pub returns-clause-grows : goal.returns-clause-grows
returns-clause-grows c = (WorkGrows-trans c.args.history.now c.args.work.now c.transfer.new.work c.discharge.new.work c.transfer.ensures.grows (WorkGrows-trans c.args.history.now c.transfer.new.work c.cut.new.work c.discharge.new.work c.cut.ensures.grows c.discharge.ensures.grows))

pub returns-clause-line : goal.returns-clause-line
returns-clause-line c =
    let h = c.args.history.now in
    let w0 : Work = c.args.work.now in
    let w1 : Work = c.transfer.new.work in
    let w2 : Work = c.cut.new.work in
    let w3 : Work = c.discharge.new.work in
    let g01 : WorkGrows h w0 w1 = c.transfer.ensures.grows in
    let g02 : WorkGrows h w0 w2 = (WorkGrows-trans c.args.history.now c.args.work.now c.transfer.new.work c.cut.new.work c.transfer.ensures.grows c.cut.ensures.grows) in
    let g03 : WorkGrows h w0 w3 = (WorkGrows-trans c.args.history.now c.args.work.now c.transfer.new.work c.discharge.new.work c.transfer.ensures.grows (WorkGrows-trans c.args.history.now c.transfer.new.work c.cut.new.work c.discharge.new.work c.cut.ensures.grows c.discharge.ensures.grows)) in
    let g12 : WorkGrows h w1 w2 = c.cut.ensures.grows in
    let g13 : WorkGrows h w1 w3 = (WorkGrows-trans c.args.history.now c.transfer.new.work c.cut.new.work c.discharge.new.work c.cut.ensures.grows c.discharge.ensures.grows) in
    let g23 : WorkGrows h w2 w3 = c.discharge.ensures.grows in
    let t = term_at w0.bank c.args.t in
    let u = term_at w0.bank c.args.u in
    let t1 : term_at w1.bank c.args.t ≡ t = same_term_grown h w0 w1 c.args.t g01 c.requires.left in
    let t2 : term_at w2.bank c.args.t ≡ t = same_term_grown h w0 w2 c.args.t g02 c.requires.left in
    let u2 : term_at w2.bank c.args.u ≡ u = same_term_grown h w0 w2 c.args.u g02 c.requires.right in
    let side = side_of c.args.side in
    let other = side_of c.turned-other.result in
    for_ok c.discharge.result (DischargesTo w2 w3 other (term_at w2.bank c.args.u) (term_at w2.bank c.args.t) c.in_ok-rest.rest c.args.equation) (RewritesDenial w0 w3 side t u c.args.line c.args.equation) (λ n f.
    denial_rewritten h w0 w1 w2 w3 side t u c.args.line c.args.equation c.in_ok-law.law c.in_ok-rest.rest n c.requires.stands g01 g12 other (c.turned-other.ensures.equation t u) c.in_ok-law.ensures.line
    (cuts_by w1 w2 (term_at w1.bank c.args.t) t c.in_ok-law.law c.args.line c.in_ok-rest.rest t1 c.in_ok-rest.ensures.line)
    (discharges_by w2 w3 other (term_at w2.bank c.args.u) (term_at w2.bank c.args.t) u t c.in_ok-rest.rest c.args.equation n u2 t2 f)) c.discharge.ensures.line
