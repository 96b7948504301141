use Rattle.std.proofs.Common.{◌≡◌}
use Rattle.nq_bank.specs.Content.{term_at}
use Rattle.nq_rule.proofs.Made.{for_ok}
use Rattle.nq_proof.specs.Rules.{Forwards}
use Rattle.nq_kernel.specs.declared.work.Work.{Work}
use Rattle.nq_kernel.specs.Growing.{WorkGrows}
use Rattle.nq_kernel.proofs.GrowingLemmas.{WorkGrows-trans}
use Rattle.nq_lines.specs.Lines.{DischargesTo}
use Rattle.nq_lines.proofs.LineLemmas.{line_grown, only_stands}
use Rattle.nq_lines.proofs.TermLemmas.{term_grown, same_term_grown}
use Rattle.nq_lines.specs.Lines.{JoinsTo}
use Rattle.nq_lines.proofs.EqualityLemmas.{joined_line}
use Rattle.nq_lines.proofs.Chains.{discharges_by}
use Rattle.nq_lines.proofs.equality.joined_by_law.Goals as goal

pub discharge-requires-clause-left : goal.discharge-requires-clause-left
discharge-requires-clause-left c = term_grown c.args.history.now c.args.work.now c.joining.new.work c.args.t c.requires.stands c.joining.ensures.grows c.requires.left

pub discharge-requires-clause-right : goal.discharge-requires-clause-right
discharge-requires-clause-right c = term_grown c.args.history.now c.args.work.now c.joining.new.work c.args.u c.requires.stands c.joining.ensures.grows c.requires.middle

pub discharge-requires-clause-line : goal.discharge-requires-clause-line
discharge-requires-clause-line c = only_stands c.joining.new.work c.in_ok-law.law _ c.in_ok-law.ensures.line

pub discharge-requires-2-clause-left : goal.discharge-requires-2-clause-left
discharge-requires-2-clause-left c = term_grown c.args.history.now c.args.work.now c.discharge.new.work c.args.u c.requires.stands (WorkGrows-trans c.args.history.now c.args.work.now c.joining.new.work c.discharge.new.work c.joining.ensures.grows c.discharge.ensures.grows) c.requires.middle

pub discharge-requires-2-clause-right : goal.discharge-requires-2-clause-right
discharge-requires-2-clause-right c = term_grown c.args.history.now c.args.work.now c.discharge.new.work c.args.v c.requires.stands (WorkGrows-trans c.args.history.now c.args.work.now c.joining.new.work c.discharge.new.work c.joining.ensures.grows c.discharge.ensures.grows) c.requires.right

pub discharge-requires-2-clause-equation : goal.discharge-requires-2-clause-equation
discharge-requires-2-clause-equation c = line_grown c.args.history.now c.args.work.now c.discharge.new.work c.args.second c.requires.stands (WorkGrows-trans c.args.history.now c.args.work.now c.joining.new.work c.discharge.new.work c.joining.ensures.grows c.discharge.ensures.grows) c.requires.second

pub returns-in_err-rest-clause-grows : goal.returns-in_err-rest-clause-grows
returns-in_err-rest-clause-grows c = (WorkGrows-trans c.args.history.now c.args.work.now c.joining.new.work c.discharge.new.work c.joining.ensures.grows c.discharge.ensures.grows)

pub returns-clause-grows : goal.returns-clause-grows
returns-clause-grows c = (WorkGrows-trans c.args.history.now c.args.work.now c.joining.new.work c.discharge-2.new.work c.joining.ensures.grows (WorkGrows-trans c.args.history.now c.joining.new.work c.discharge.new.work c.discharge-2.new.work c.discharge.ensures.grows c.discharge-2.ensures.grows))

pub returns-clause-line : goal.returns-clause-line
returns-clause-line c =
    let h = c.args.history.now in
    let w0 : Work = c.args.work.now in
    let w1 : Work = c.joining.new.work in
    let w2 : Work = c.discharge.new.work in
    let w3 : Work = c.discharge-2.new.work in
    let g01 : WorkGrows h w0 w1 = c.joining.ensures.grows in
    let g02 : WorkGrows h w0 w2 = (WorkGrows-trans c.args.history.now c.args.work.now c.joining.new.work c.discharge.new.work c.joining.ensures.grows c.discharge.ensures.grows) in
    let g03 : WorkGrows h w0 w3 = (WorkGrows-trans c.args.history.now c.args.work.now c.joining.new.work c.discharge-2.new.work c.joining.ensures.grows (WorkGrows-trans c.args.history.now c.joining.new.work c.discharge.new.work c.discharge-2.new.work c.discharge.ensures.grows c.discharge-2.ensures.grows)) in
    let g12 : WorkGrows h w1 w2 = c.discharge.ensures.grows in
    let g13 : WorkGrows h w1 w3 = (WorkGrows-trans c.args.history.now c.joining.new.work c.discharge.new.work c.discharge-2.new.work c.discharge.ensures.grows c.discharge-2.ensures.grows) in
    let g23 : WorkGrows h w2 w3 = c.discharge-2.ensures.grows in
    let t = term_at w0.bank c.args.t in
    let u = term_at w0.bank c.args.u in
    let v = term_at w0.bank c.args.v in
    let t1 : term_at w1.bank c.args.t ≡ t = same_term_grown h w0 w1 c.args.t g01 c.requires.left in
    let u1 : term_at w1.bank c.args.u ≡ u = same_term_grown h w0 w1 c.args.u g01 c.requires.middle in
    let u2 : term_at w2.bank c.args.u ≡ u = same_term_grown h w0 w2 c.args.u g02 c.requires.middle in
    let v2 : term_at w2.bank c.args.v ≡ v = same_term_grown h w0 w2 c.args.v g02 c.requires.right in
    for_ok c.discharge-2.result (DischargesTo w2 w3 Forwards (term_at w2.bank c.args.u) (term_at w2.bank c.args.v) c.in_ok-rest.rest c.args.second) (JoinsTo w0 w3 t u v c.args.first c.args.second) (λ n f.
    joined_line h w0 w1 w2 w3 t u v c.args.first c.args.second c.in_ok-law.law c.in_ok-rest.rest n c.requires.stands g01 g12 c.in_ok-law.ensures.line
    (discharges_by w1 w2 Forwards (term_at w1.bank c.args.t) (term_at w1.bank c.args.u) t u c.in_ok-law.law c.args.first c.in_ok-rest.rest t1 u1 c.in_ok-rest.ensures.line)
    (discharges_by w2 w3 Forwards (term_at w2.bank c.args.u) (term_at w2.bank c.args.v) u v c.in_ok-rest.rest c.args.second n u2 v2 f)) c.discharge-2.ensures.line
