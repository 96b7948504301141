use Rattle.std.proofs.Common.{◌∷◌, [], ◌∙◌, ap}
use Rattle.nq_logic.specs.Words.{not_term, equal_term}
use Rattle.nq_bank.specs.Content.{term_at}
use Rattle.nq_proof.specs.Paths.{replaced_at}
use Rattle.nq_kernel.specs.declared.work.Work.{Work}
use Rattle.nq_kernel.specs.Growing.{WorkGrows}
use Rattle.nq_kernel.proofs.GrowingLemmas.{WorkGrows-refl, WorkGrows-trans}
use Rattle.nq_lines.specs.Lines.{LineHasOnly}
use Rattle.nq_lines.proofs.LineLemmas.{line_grown, only_grown, only_stands}
use Rattle.nq_lines.proofs.TermLemmas.{term_grown}
use Rattle.nq_simplify.proofs.SplittingLemmas.{part_later, carried_later, lines_show}
use Rattle.nq_simplify.proofs.splitting.add_sides.Goals as goal

pub equation_inside-requires-clause-part : goal.equation_inside-requires-clause-part
equation_inside-requires-clause-part c =
    record { whole = term_at c.args.work.now.bank c.args.choice.now.first; changed = ap (λ p. replaced_at p (term_at c.args.work.now.bank c.args.choice.now.first_branch) (term_at c.args.work.now.bank c.args.t)) c.as_slice.ensures.value ∙ c.requires.choice.at_first }

pub equation_inside-requires-2-clause-term : goal.equation_inside-requires-2-clause-term
equation_inside-requires-2-clause-term c = term_grown c.args.history.now c.args.work.now c.equation_inside.new.work c.args.t c.requires.stands c.equation_inside.ensures.grows c.requires.term

pub equation_inside-requires-2-clause-old : goal.equation_inside-requires-2-clause-old
equation_inside-requires-2-clause-old c = term_grown c.args.history.now c.args.work.now c.equation_inside.new.work c.args.choice.now.whole c.requires.stands c.equation_inside.ensures.grows c.requires.choice.whole

pub equation_inside-requires-2-clause-new : goal.equation_inside-requires-2-clause-new
equation_inside-requires-2-clause-new c = term_grown c.args.history.now c.args.work.now c.equation_inside.new.work c.args.choice.now.second_branch c.requires.stands c.equation_inside.ensures.grows c.requires.choice.second_branch

pub equation_inside-requires-2-clause-part : goal.equation_inside-requires-2-clause-part
equation_inside-requires-2-clause-part c =
    part_later c.args.history.now c.args.work.now c.equation_inside.new.work c.requires.stands c.equation_inside.ensures.grows c.args.t c.args.choice.now.whole c.args.choice.now.second_branch c.requires.term c.requires.choice.whole c.requires.choice.second_branch
    c.as_slice-2.result.now c.args.choice.now.path.items (term_at c.args.work.now.bank c.args.choice.now.second) c.as_slice-2.ensures.value c.requires.choice.at_second

pub equation_inside-requires-2-clause-equation : goal.equation_inside-requires-2-clause-equation
equation_inside-requires-2-clause-equation c =
    line_grown c.args.history.now c.args.work.now c.equation_inside.new.work c.args.rows.second c.requires.stands c.equation_inside.ensures.grows (only_stands c.args.work.now c.args.rows.second _ c.requires.rows.at_second)

pub returns-in_err-second-clause-grows : goal.returns-in_err-second-clause-grows
returns-in_err-second-clause-grows c = WorkGrows-trans c.args.history.now c.args.work.now c.equation_inside.new.work c.equation_inside-2.new.work c.equation_inside.ensures.grows c.equation_inside-2.ensures.grows

pub returns-clause-sides : goal.returns-clause-sides
returns-clause-sides c =
    let h = c.args.history.now in
    let w0 : Work = c.args.work.now in
    let w1 : Work = c.equation_inside.new.work in
    let w2 : Work = c.equation_inside-2.new.work in
    let t = c.args.t in
    let d = c.args.choice.now in
    let n = c.in_ok-first.first in
    let m = c.in_ok-second.second in
    let g02 : WorkGrows h w0 w2 = WorkGrows-trans h w0 w1 w2 c.equation_inside.ensures.grows c.equation_inside-2.ensures.grows in
    let one : LineHasOnly w1 n (equal_term (term_at w0.bank t) (term_at w0.bank d.first) ∷ not_term (term_at w0.bank d.test) ∷ []) =
    carried_later h w0 w0 c.requires.stands (WorkGrows-refl h w0 c.requires.stands) t d.whole d.first_branch c.requires.term c.requires.choice.whole c.requires.choice.first_branch w1 c.as_slice.result.now d.path.items (term_at w0.bank d.first) (not_term (term_at w0.bank d.test)) c.args.rows.first n
    c.as_slice.ensures.value c.requires.choice.at_first c.requires.rows.at_first c.in_ok-first.ensures.line in
    let one_later : LineHasOnly w2 n (equal_term (term_at w0.bank t) (term_at w0.bank d.first) ∷ not_term (term_at w0.bank d.test) ∷ []) = only_grown h w1 w2 n _ c.equation_inside.ensures.grows.stands c.equation_inside-2.ensures.grows one in
    let two : LineHasOnly w2 m (equal_term (term_at w0.bank t) (term_at w0.bank d.second) ∷ term_at w0.bank d.test ∷ []) =
    carried_later h w0 w1 c.requires.stands c.equation_inside.ensures.grows t d.whole d.second_branch c.requires.term c.requires.choice.whole c.requires.choice.second_branch w2 c.as_slice-2.result.now d.path.items (term_at w0.bank d.second) (term_at w0.bank d.test) c.args.rows.second m
    c.as_slice-2.ensures.value c.requires.choice.at_second c.requires.rows.at_second c.in_ok-second.ensures.line in
    lines_show h w0 w2 t d n m g02 c.requires.term c.requires.choice one_later two

pub returns-clause-grows : goal.returns-clause-grows
returns-clause-grows c = WorkGrows-trans c.args.history.now c.args.work.now c.equation_inside.new.work c.equation_inside-2.new.work c.equation_inside.ensures.grows c.equation_inside-2.ensures.grows
