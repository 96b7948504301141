use Rattle.std.proofs.Common.{◌≡◌, ◌∷◌, ◌++◌, ◌∙◌, List, sym, ap, ap₂, subst}
use Rattle.std.specs.Prelude.{All, Vec}
use Rattle.std.specs.declared.alloc.Global.{Global}
use Rattle.nq_logic.specs.Terms.{Term, Substitution}
use Rattle.nq_logic.specs.Words.{not_term}
use Rattle.nq_logic.specs.Laws.{denied}
use Rattle.nq_bank.specs.declared.node.TermId.{TermId}
use Rattle.nq_bank.specs.Content.{term_at, terms_at}
use Rattle.nq_rule.specs.Inductions.{substitutions_at}
use Rattle.nq_rule.specs.declared.induction.InductionStep.{InductionStep}
use Rattle.nq_rule.proofs.Made.{for_ok}
use Rattle.nq_kernel.specs.declared.work.Work.{Work}
use Rattle.nq_kernel.specs.Growing.{WorkGrows}
use Rattle.nq_kernel.proofs.GrowingLemmas.{WorkGrows-trans}
use Rattle.nq_lines.specs.Instances.{ArePairsIn}
use Rattle.nq_lines.proofs.TermLemmas.{term_grown, same_term_grown}
use Rattle.nq_induct.specs.Claims.{any_of}
use Rattle.nq_induct.specs.Goals.{AreTermsIn, step_goal}
use Rattle.nq_induct.proofs.GrownLemmas.{terms_in_grown, same_terms, same_substitutions, all_pairs_grown}
use Rattle.nq_induct.proofs.GoalLemmas.{whole_told, whole_over}
use Rattle.nq_induct.proofs.goals.step_of.Goals as goal

pub hypotheses_of-requires-clause-claim : goal.hypotheses_of-requires-clause-claim
hypotheses_of-requires-clause-claim c = term_grown c.args.history.now c.args.work.now c.deny.new.work c.args.claim c.requires.stands c.deny.ensures.grows c.requires.claim

pub hypotheses_of-requires-clause-steps : goal.hypotheses_of-requires-clause-steps
hypotheses_of-requires-clause-steps c =
    subst (All (λ (s : InductionStep). ArePairsIn c.args.history.now c.deny.new.work s.pairs.items)) (sym c.as_slice.ensures.value)
    (all_pairs_grown c.args.history.now c.args.work.now c.deny.new.work c.requires.stands c.deny.ensures.grows c.args.case.now.steps.items c.requires.steps)

pub returns-in_err-hypotheses-clause-grows : goal.returns-in_err-hypotheses-clause-grows
returns-in_err-hypotheses-clause-grows c = WorkGrows-trans c.args.history.now c.args.work.now c.deny.new.work c.hypotheses_of.new.work c.deny.ensures.grows c.hypotheses_of.ensures.grows

pub returns-clause-grows : goal.returns-clause-grows
returns-clause-grows c = WorkGrows-trans c.args.history.now c.args.work.now c.deny.new.work c.hypotheses_of.new.work c.deny.ensures.grows c.hypotheses_of.ensures.grows

pub returns-clause-literals : goal.returns-clause-literals
returns-clause-literals c =
    let h = c.args.history.now in
    let w0 : Work = c.args.work.now in
    let w1 : Work = c.deny.new.work in
    let w2 : Work = c.hypotheses_of.new.work in
    let g01 : WorkGrows h w0 w1 = c.deny.ensures.grows in
    let g12 : WorkGrows h w1 w2 = c.hypotheses_of.ensures.grows in
    let g02 : WorkGrows h w0 w2 = WorkGrows-trans h w0 w1 w2 g01 g12 in
    let steps : List InductionStep = c.args.case.now.steps.items in
    let hyps : terms_at w2.bank c.in_ok-hypotheses.hypotheses.items ≡ denied (any_of (terms_at w0.bank c.args.goal.now)) (substitutions_at w0.bank steps) =
    c.in_ok-hypotheses.ensures.hypotheses ∙
    ap₂ (λ (p : Term) (ss : List Substitution). denied p ss) (same_term_grown h w0 w1 c.args.claim g01 c.requires.claim ∙ c.requires.is)
    (ap (substitutions_at w1.bank) c.as_slice.ensures.value ∙ same_substitutions h w0 w1 c.requires.stands g01 steps c.requires.steps) in
    let test : term_at w2.bank c.in_ok-denied.denied ≡ not_term (term_at w0.bank c.args.case.now.test) = same_term_grown h w1 w2 c.in_ok-denied.denied g12 c.in_ok-denied.ensures.over ∙ c.in_ok-denied.ensures.denied.denotes in
    for_ok c.whole_of.result (λ (v : Vec TermId Global). v.items ≡ c.in_ok-denied.denied ∷ (c.args.goal.now ++ c.as_slice-2.result.now)) (λ (v : Vec TermId Global). terms_at w2.bank v.items ≡ step_goal w0.bank (terms_at w0.bank c.args.goal.now) c.args.case.now) (λ v e.
    whole_told w2.bank v.items c.in_ok-denied.denied c.as_slice-2.result.now c.in_ok-hypotheses.hypotheses.items c.args.goal.now _ _ _ e c.as_slice-2.ensures.value test hyps (same_terms h w0 w2 c.requires.stands g02 c.args.goal.now c.requires.goal)) c.whole_of.ensures.literals

pub returns-clause-over : goal.returns-clause-over
returns-clause-over c =
    let h = c.args.history.now in
    let w0 : Work = c.args.work.now in
    let w1 : Work = c.deny.new.work in
    let w2 : Work = c.hypotheses_of.new.work in
    let g01 : WorkGrows h w0 w1 = c.deny.ensures.grows in
    let g12 : WorkGrows h w1 w2 = c.hypotheses_of.ensures.grows in
    let g02 : WorkGrows h w0 w2 = WorkGrows-trans h w0 w1 w2 g01 g12 in
    for_ok c.whole_of.result (λ (v : Vec TermId Global). v.items ≡ c.in_ok-denied.denied ∷ (c.args.goal.now ++ c.as_slice-2.result.now)) (λ (v : Vec TermId Global). AreTermsIn h w2 v.items) (λ v e.
    whole_over h w2 v.items c.in_ok-denied.denied c.as_slice-2.result.now c.in_ok-hypotheses.hypotheses.items c.args.goal.now e c.as_slice-2.ensures.value (term_grown h w1 w2 c.in_ok-denied.denied g01.stands g12 c.in_ok-denied.ensures.over) c.in_ok-hypotheses.ensures.over (terms_in_grown h w0 w2 c.requires.stands g02 c.args.goal.now c.requires.goal)) c.whole_of.ensures.literals
