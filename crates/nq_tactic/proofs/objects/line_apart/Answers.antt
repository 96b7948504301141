use Rattle.std.proofs.Common.{◌≡◌, ◌∷◌, [], ◌∙◌, inl, inr, refl, sym, ap, subst}
use Rattle.nq_logic.specs.Terms.{Term}
use Rattle.nq_logic.specs.Words.{equal_term, false_term, not_term}
use Rattle.nq_bank.specs.Content.{term_at}
use Rattle.nq_rule.proofs.Made.{for_ok}
use Rattle.nq_kernel.specs.declared.work.Work.{Work}
use Rattle.nq_kernel.specs.Growing.{WorkGrows}
use Rattle.nq_kernel.proofs.GrowingLemmas.{WorkGrows-trans}
use Rattle.nq_lines.specs.Lines.{LineHasOnly, CutsTo}
use Rattle.nq_lines.proofs.Among.{none_among, and_among, beside}
use Rattle.nq_lines.proofs.LineLemmas.{only_grown, only_more, only_stands}
use Rattle.nq_lines.proofs.TermLemmas.{term_grown, same_term_grown}
use Rattle.nq_tactic.proofs.objects.line_apart.Goals as goal

pub from_equal_false-requires-clause-line : goal.from_equal_false-requires-clause-line
from_equal_false-requires-clause-line c = only_stands c.args.work.now c.args.line _ c.requires.line

pub true_or_false-requires-clause-term : goal.true_or_false-requires-clause-term
true_or_false-requires-clause-term c = term_grown c.args.history.now c.args.work.now c.from_equal_false.new.work c.args.t c.requires.stands c.from_equal_false.ensures.grows c.requires.term

pub returns-in_err-law-clause-grows : goal.returns-in_err-law-clause-grows
returns-in_err-law-clause-grows c = WorkGrows-trans c.args.history.now c.args.work.now c.from_equal_false.new.work c.true_or_false.new.work c.from_equal_false.ensures.grows c.true_or_false.ensures.grows

pub cut-requires-clause-first : goal.cut-requires-clause-first
cut-requires-clause-first c = only_stands c.true_or_false.new.work c.in_ok-law.law _ c.in_ok-law.ensures.line

pub cut-requires-clause-second : goal.cut-requires-clause-second
cut-requires-clause-second c =
    let h = c.args.history.now in
    let w1 : Work = c.from_equal_false.new.work in
    let w2 : Work = c.true_or_false.new.work in
    only_stands w2 c.in_ok-apart.apart _ (only_grown h w1 w2 c.in_ok-apart.apart _ c.from_equal_false.ensures.grows.stands c.true_or_false.ensures.grows (c.in_ok-apart.ensures.line [] c.requires.line))

pub cut-requires-clause-term : goal.cut-requires-clause-term
cut-requires-clause-term c =
    let h = c.args.history.now in
    let w0 : Work = c.args.work.now in
    let w1 : Work = c.from_equal_false.new.work in
    let w2 : Work = c.true_or_false.new.work in
    term_grown h w0 w2 c.args.equation c.requires.stands (WorkGrows-trans h w0 w1 w2 c.from_equal_false.ensures.grows c.true_or_false.ensures.grows) c.requires.equation

pub returns-clause-grows : goal.returns-clause-grows
returns-clause-grows c =
    let h = c.args.history.now in
    let w0 : Work = c.args.work.now in
    let w1 : Work = c.from_equal_false.new.work in
    let w2 : Work = c.true_or_false.new.work in
    WorkGrows-trans h w0 w2 c.cut.new.work (WorkGrows-trans h w0 w1 w2 c.from_equal_false.ensures.grows c.true_or_false.ensures.grows) c.cut.ensures.grows

pub returns-clause-line : goal.returns-clause-line
returns-clause-line c =
    let h = c.args.history.now in
    let w0 : Work = c.args.work.now in
    let w1 : Work = c.from_equal_false.new.work in
    let w2 : Work = c.true_or_false.new.work in
    let w3 : Work = c.cut.new.work in
    let g01 : WorkGrows h w0 w1 = c.from_equal_false.ensures.grows in
    let g02 : WorkGrows h w0 w2 = WorkGrows-trans h w0 w1 w2 g01 c.true_or_false.ensures.grows in
    let t : Term = term_at w0.bank c.args.t in
    let e : Term = term_at w0.bank c.args.equation in
    let e2 : Term = term_at w2.bank c.args.equation in
    let same : e2 ≡ e = same_term_grown h w0 w2 c.args.equation g02 c.requires.equation in
    let now : term_at w1.bank c.args.t ≡ t = same_term_grown h w0 w1 c.args.t g01 c.requires.term in
    let one : LineHasOnly w1 c.in_ok-apart.apart (not_term e ∷ []) = c.in_ok-apart.ensures.line [] c.requires.line in
    let two : LineHasOnly w2 c.in_ok-apart.apart (not_term e ∷ []) = only_grown h w1 w2 c.in_ok-apart.apart (not_term e ∷ []) g01.stands c.true_or_false.ensures.grows one in
    let second : LineHasOnly w2 c.in_ok-apart.apart (not_term e2 ∷ t ∷ []) =
    subst (λ u. LineHasOnly w2 c.in_ok-apart.apart (not_term u ∷ t ∷ [])) (sym same) (only_more w2 c.in_ok-apart.apart (not_term e ∷ []) (not_term e ∷ t ∷ []) (beside (not_term e) [] (t ∷ []) (none_among (t ∷ []))) two) in
    let law : LineHasOnly w2 c.in_ok-law.law (t ∷ equal_term t false_term ∷ []) = subst (λ u. LineHasOnly w2 c.in_ok-law.law (u ∷ equal_term u false_term ∷ [])) now c.in_ok-law.ensures.line in
    let told : LineHasOnly w2 c.in_ok-law.law (t ∷ e2 ∷ []) = subst (λ u. LineHasOnly w2 c.in_ok-law.law (t ∷ u ∷ [])) (sym c.requires.is ∙ sym same) law in
    let first : LineHasOnly w2 c.in_ok-law.law (e2 ∷ t ∷ []) =
    only_more w2 c.in_ok-law.law (t ∷ e2 ∷ []) (e2 ∷ t ∷ []) (and_among t (e2 ∷ []) (e2 ∷ t ∷ []) (inr (inl refl)) (and_among e2 [] (e2 ∷ t ∷ []) (inl refl) (none_among (e2 ∷ t ∷ [])))) told in
    for_ok c.cut.result (CutsTo w2 w3 e2 c.in_ok-law.law c.in_ok-apart.apart) (λ n. LineHasOnly w3 n (t ∷ [])) (λ n cuts. cuts (t ∷ []) first second) c.cut.ensures.line
