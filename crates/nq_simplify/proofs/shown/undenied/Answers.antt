use Rattle.std.proofs.Common.{◌≡◌, ◌∷◌, ◌∙◌, sym, subst, ap}
use Rattle.nq_logic.specs.Terms.{Term}
use Rattle.nq_logic.specs.Words.{equal_term, true_term, not_term}
use Rattle.nq_bank.specs.Content.{term_at, terms_at}
use Rattle.nq_rule.proofs.Made.{for_ok}
use Rattle.nq_kernel.specs.declared.work.Work.{Work}
use Rattle.nq_kernel.proofs.GrowingLemmas.{WorkGrows-trans}
use Rattle.nq_lines.specs.Lines.{LineHasOnly, MakesOf}
use Rattle.nq_lines.proofs.LineLemmas.{only_stands}
use Rattle.nq_lines.proofs.TermLemmas.{term_grown, same_term_grown}
use Rattle.nq_simplify.proofs.shown.undenied.Goals as goal

pub from_equal_true-requires-clause-line : goal.from_equal_true-requires-clause-line
from_equal_true-requires-clause-line c = only_stands c.args.work.now c.args.found.line _ c.requires.found.line

pub undeny-requires-clause-term : goal.undeny-requires-clause-term
undeny-requires-clause-term c = term_grown c.args.history.now c.args.work.now c.from_equal_true.new.work c.args.t c.requires.stands c.from_equal_true.ensures.grows c.requires.term

pub undeny-requires-clause-line : goal.undeny-requires-clause-line
undeny-requires-clause-line c = c.in_ok-line.ensures.stands

pub returns-clause-grows : goal.returns-clause-grows
returns-clause-grows c = WorkGrows-trans c.args.history.now c.args.work.now c.from_equal_true.new.work c.undeny.new.work c.from_equal_true.ensures.grows c.undeny.ensures.grows

pub returns-clause-line : goal.returns-clause-line
returns-clause-line c =
    let h = c.args.history.now in
    let w0 : Work = c.args.work.now in
    let w1 : Work = c.from_equal_true.new.work in
    let w2 : Work = c.undeny.new.work in
    let t : Term = term_at w0.bank c.args.t in
    let others = terms_at w0.bank c.args.others.now in
    let now : term_at w1.bank c.args.t ≡ t = same_term_grown h w0 w1 c.args.t c.from_equal_true.ensures.grows c.requires.term in
    let line : LineHasOnly w0 c.args.found.line (equal_term (term_at w0.bank c.args.twice) true_term ∷ others) =
    subst (λ u. LineHasOnly w0 c.args.found.line (equal_term (term_at w0.bank c.args.twice) u ∷ others)) c.requires.truth c.requires.found.line in
    let one : LineHasOnly w1 c.in_ok-line.line (term_at w0.bank c.args.twice ∷ others) = c.in_ok-line.ensures.line others line in
    let two : LineHasOnly w1 c.in_ok-line.line (not_term (not_term (term_at w1.bank c.args.t)) ∷ others) =
    subst (λ u. LineHasOnly w1 c.in_ok-line.line (u ∷ others)) (c.requires.is ∙ ap (λ u. not_term (not_term u)) (sym now)) one in
    for_ok c.undeny.result (MakesOf w1 w2 (not_term (not_term (term_at w1.bank c.args.t))) (term_at w1.bank c.args.t) c.in_ok-line.line) (λ n. LineHasOnly w2 n (t ∷ others))
    (λ n makes. subst (λ u. LineHasOnly w2 n (u ∷ others)) now (makes others two)) c.undeny.ensures.line
