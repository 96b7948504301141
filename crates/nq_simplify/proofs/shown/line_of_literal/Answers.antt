use Rattle.std.proofs.Common.{List, ◌∷◌, ◌∙◌, [], get_or, sym, subst}
use Rattle.std.specs.Prelude.{IfSome}
use Rattle.nq_bank.specs.declared.node.TermId.{TermId}
use Rattle.nq_bank.specs.Content.{term_at, terms_at}
use Rattle.nq_rule.proofs.Made.{for_ok}
use Rattle.nq_kernel.specs.declared.work.Work.{Work}
use Rattle.nq_kernel.proofs.GrowingLemmas.{WorkGrows-refl}
use Rattle.nq_lines.specs.Lines.{LineHasOnly}
use Rattle.nq_simplify.specs.Simplified.{AreTermsIn}
use Rattle.nq_simplify.proofs.SplittingLemmas.{put_stands}
use Rattle.nq_simplify.proofs.OutcomeLemmas.{none_in, beside_others, found_more}
use Rattle.nq_simplify.proofs.shown.line_of_literal.Goals as goal

pub returns-in_err-others-clause-grows : goal.returns-in_err-others-clause-grows
returns-in_err-others-clause-grows g c = WorkGrows-refl c.args.history.now c.args.work.now c.requires.stands

pub shown_beside-requires-clause-others : goal.shown_beside-requires-clause-others
shown_beside-requires-clause-others g c =
    subst (AreTermsIn c.args.history.now c.args.work.now) (sym (c.as_slice.ensures.value ∙ c.in_ok-others.ensures.clause)) (put_stands c.args.history.now c.args.work.now c.args.goal.now [] c.args.at c.requires.goal (none_in c.args.history.now c.args.work.now))

pub returns-clause-line : goal.returns-clause-line
returns-clause-line g c =
    let h = c.args.history.now in
    let w0 : Work = c.args.work.now in
    let w1 : Work = c.shown_beside.new.work in
    let d : TermId = record { 0 = 0 } in
    let goal : List TermId = c.args.goal.now in
    let others : List TermId = c.as_slice.result.now in
    let t : TermId = get_or goal c.args.at d in
    for_ok c.shown_beside.result (λ o. IfSome o (λ n. LineHasOnly w1 n (term_at w0.bank t ∷ terms_at w0.bank others))) (λ o. IfSome o (λ n. LineHasOnly w1 n (terms_at w0.bank goal)))
    (λ o there. found_more w1 o (term_at w0.bank t ∷ terms_at w0.bank others) (terms_at w0.bank goal) (beside_others h w0 goal others c.args.at d c.requires.at (c.as_slice.ensures.value ∙ c.in_ok-others.ensures.clause)) there) c.shown_beside.ensures.line
