use Rattle.std.proofs.Common.{◌≡◌, ◌∙◌, [], get_or, ap, sym, subst}
use Rattle.std.proofs.lemmas.Bool.{eqb-true}
use Rattle.nq_logic.specs.Words.{true_term}
use Rattle.nq_bank.specs.declared.node.TermId.{TermId}
use Rattle.nq_bank.specs.Content.{term_at, terms_at}
use Rattle.nq_kernel.specs.declared.work.Work.{Work}
use Rattle.nq_kernel.proofs.GrowingLemmas.{WorkGrows-refl, WorkGrows-trans}
use Rattle.nq_lines.proofs.LineLemmas.{only_stands}
use Rattle.nq_lines.proofs.TermLemmas.{term_grown, same_term_grown}
use Rattle.nq_simplify.specs.Simplified.{AreTermsIn, IsNewLiteral}
use Rattle.nq_simplify.proofs.SplittingLemmas.{put_stands}
use Rattle.nq_simplify.proofs.OutcomeLemmas.{if_some, none_in, closed_by_truth, turned_by}
use Rattle.nq_simplify.proofs.turning.rewrite_at.Goals as goal

pub returns-in_err-others-clause-grows : goal.returns-in_err-others-clause-grows
returns-in_err-others-clause-grows g c = WorkGrows-refl c.args.history.now c.args.work.now c.requires.stands

pub rewrite-requires-clause-others : goal.rewrite-requires-clause-others
rewrite-requires-clause-others g c =
    subst (AreTermsIn c.args.history.now c.args.work.now) (sym (c.as_slice.ensures.value ∙ c.in_ok-others.ensures.clause)) (put_stands c.args.history.now c.args.work.now c.args.goal.now [] c.args.at c.requires.goal (none_in c.args.history.now c.args.work.now))

pub rewrite-requires-clause-literal : goal.rewrite-requires-clause-literal
rewrite-requires-clause-literal g c = let d : TermId = record { 0 = 0 } in c.requires.goal c.args.at d c.requires.at

pub from_equal_true-requires-clause-term : goal.from_equal_true-requires-clause-term
from_equal_true-requires-clause-term g c = let d : TermId = record { 0 = 0 } in term_grown c.args.history.now c.args.work.now c.rewrite.new.work _ c.requires.stands c.rewrite.ensures.grows (c.requires.goal c.args.at d c.requires.at)

pub from_equal_true-requires-clause-line : goal.from_equal_true-requires-clause-line
from_equal_true-requires-clause-line g c =
    let w0 : Work = c.args.work.now in
    let w1 : Work = c.rewrite.new.work in
    let found = if_some c.in_ok-rewritten.rewritten (IsNewLiteral c.args.history.now w1 (terms_at w0.bank c.as_slice.result.now) (term_at w0.bank _)) c.in-Some.found c.in_ok-rewritten.ensures.new c.in-Some.is in
    only_stands w1 c.in-Some.found.line _ found.line

pub returns-in_err-line-in-Some-clause-grows : goal.returns-in_err-line-in-Some-clause-grows
returns-in_err-line-in-Some-clause-grows g c = WorkGrows-trans c.args.history.now c.args.work.now c.rewrite.new.work c.from_equal_true.new.work c.rewrite.ensures.grows c.from_equal_true.ensures.grows

pub returns-then-eq-clause-grows : goal.returns-then-eq-clause-grows
returns-then-eq-clause-grows g c = WorkGrows-trans c.args.history.now c.args.work.now c.rewrite.new.work c.from_equal_true.new.work c.rewrite.ensures.grows c.from_equal_true.ensures.grows

pub returns-then-eq-clause-outcome : goal.returns-then-eq-clause-outcome
returns-then-eq-clause-outcome g c =
    let h = c.args.history.now in
    let w0 : Work = c.args.work.now in
    let w1 : Work = c.rewrite.new.work in
    let d : TermId = record { 0 = 0 } in
    let basis = c.args.basis.now in
    let others = c.as_slice.result.now in
    let found : IsNewLiteral h w1 (terms_at w0.bank others) (term_at w0.bank (get_or c.args.goal.now c.args.at d)) c.in-Some.found =
    if_some c.in_ok-rewritten.rewritten (IsNewLiteral h w1 (terms_at w0.bank others) (term_at w0.bank (get_or c.args.goal.now c.args.at d))) c.in-Some.found c.in_ok-rewritten.ensures.new c.in-Some.is in
    let same : c.in-Some.found.term ≡ basis.truth = ap (λ k. record { 0 = k }) (eqb-true _ _ (sym c.eq.ensures ∙ c.if-eq.true)) in
    let truth : term_at w1.bank c.in-Some.found.term ≡ true_term = ap (term_at w1.bank) same ∙ same_term_grown h w0 w1 basis.truth c.rewrite.ensures.grows c.requires.basis.truth ∙ c.requires.basis.truth_is in
    closed_by_truth h w0 w1 c.requires.stands c.rewrite.ensures.grows c.args.goal.now others c.args.at d c.requires.at c.requires.goal (c.as_slice.ensures.value ∙ c.in_ok-others.ensures.clause) c.in-Some.found found c.from_equal_true.new.work c.in_ok-line-in-Some.line truth
    c.in_ok-line-in-Some.ensures.line

pub returns-in-Some-clause-outcome : goal.returns-in-Some-clause-outcome
returns-in-Some-clause-outcome g c =
    let h = c.args.history.now in
    let w0 : Work = c.args.work.now in
    let w1 : Work = c.rewrite.new.work in
    let d : TermId = record { 0 = 0 } in
    let others = c.as_slice.result.now in
    let found : IsNewLiteral h w1 (terms_at w0.bank others) (term_at w0.bank (get_or c.args.goal.now c.args.at d)) c.in-Some.found =
    if_some c.in_ok-rewritten.rewritten (IsNewLiteral h w1 (terms_at w0.bank others) (term_at w0.bank (get_or c.args.goal.now c.args.at d))) c.in-Some.found c.in_ok-rewritten.ensures.new c.in-Some.is in
    turned_by h w0 w1 c.requires.stands c.rewrite.ensures.grows c.args.goal.now others c.args.at d c.requires.at c.requires.goal (c.as_slice.ensures.value ∙ c.in_ok-others.ensures.clause) c.in-Some.found found c.in_ok-next-in-Some.next c.in_ok-next-in-Some.ensures.clause
