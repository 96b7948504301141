use Rattle.std.proofs.Common.{◌≡◌, ◌∷◌, [], ◌++◌, ◌∙◌, List, map, sym, ap, ap₂, subst}
use Rattle.std.specs.Prelude.{All, Vec}
use Rattle.std.specs.declared.alloc.Global.{Global}
use Rattle.nq_logic.specs.Terms.{Term}
use Rattle.nq_bank.specs.declared.node.TermId.{TermId}
use Rattle.nq_bank.specs.Content.{terms_at}
use Rattle.nq_bank.proofs.Standing.{All-push}
use Rattle.nq_kernel.specs.declared.work.Work.{Work}
use Rattle.nq_kernel.specs.Growing.{WorkGrows}
use Rattle.nq_kernel.proofs.GrowingLemmas.{WorkGrows-trans, WorkGrows-refl}
use Rattle.nq_lines.specs.Lines.{IsTermIn}
use Rattle.nq_lines.proofs.TermLemmas.{term_grown, same_term_grown}
use Rattle.nq_induct.specs.declared.scheme.Case.{Case}
use Rattle.nq_induct.specs.Claims.{any_of}
use Rattle.nq_induct.specs.Schemes.{IsCaseIn}
use Rattle.nq_induct.specs.Goals.{AreTermsIn, base_goal, clauses_at, step_goal}
use Rattle.nq_induct.proofs.GrownLemmas.{terms_in_grown, same_terms, same_tests, case_grown, pairs_of_case, all_pairs_grown, same_step_goal}
use Rattle.nq_induct.proofs.GoalLemmas.{terms_both, tests_told, all_both, clauses_over, same_clauses, clauses_both}
use Rattle.nq_induct.proofs.CaseLemmas.{case_at, steps_more, tests_in, one_all}
use Rattle.nq_induct.proofs.goals.goals_of.Goals as goal

pub claim_of-requires-clause-goal : goal.claim_of-requires-clause-goal
claim_of-requires-clause-goal c = terms_in_grown c.args.history.now c.args.work.now c.truth.new.work c.requires.stands c.truth.ensures.grows c.args.goal.now c.requires.goal

pub returns-in_err-claim-clause-grows : goal.returns-in_err-claim-clause-grows
returns-in_err-claim-clause-grows c = (WorkGrows-trans c.args.history.now c.args.work.now c.truth.new.work c.claim_of.new.work c.truth.ensures.grows c.claim_of.ensures.grows)

pub returns-in_err-base-clause-grows : goal.returns-in_err-base-clause-grows
returns-in_err-base-clause-grows c = (WorkGrows-trans c.args.history.now c.args.work.now c.truth.new.work c.claim_of.new.work c.truth.ensures.grows c.claim_of.ensures.grows)

pub returns-in_err-add_goal-clause-grows : goal.returns-in_err-add_goal-clause-grows
returns-in_err-add_goal-clause-grows c = (WorkGrows-trans c.args.history.now c.args.work.now c.truth.new.work c.claim_of.new.work c.truth.ensures.grows c.claim_of.ensures.grows)

pub loop-case-init : goal.loop-case-init
loop-case-init c =
    let h = c.args.history.now in
    let w0 : Work = c.args.work.now in
    let w2 : Work = c.claim_of.new.work in
    let g02 : WorkGrows h w0 w2 = (WorkGrows-trans c.args.history.now c.args.work.now c.truth.new.work c.claim_of.new.work c.truth.ensures.grows c.claim_of.ensures.grows) in
    let cases : List Case = c.args.scheme.now.cases.items in
    let base : Vec TermId Global = c.in_ok-base.base in
    let items : c.add_goal.new.goals.items ≡ base ∷ [] = c.in_ok-add_goal.ensures.more ∙ ap (λ (gs : List (Vec TermId Global)). gs ++ base ∷ []) c.new-goals.ensures.items in
    let ids : base.items ≡ map (λ c. c.test) cases ++ c.args.goal.now = c.in_ok-base.ensures.literals ∙ ap (λ (cs : List Case). map (λ c. c.test) cs ++ c.args.goal.now) c.as_slice.ensures.value in
    let over : AreTermsIn h w2 base.items = subst (AreTermsIn h w2) (sym ids) (terms_in_grown h w0 w2 c.requires.stands g02 (map (λ c. c.test) cases ++ c.args.goal.now) (all_both (IsTermIn h w0) (map (λ c. c.test) cases) c.args.goal.now (tests_in h w0 c.args.scheme.now.measure cases c.requires.scheme.cases) c.requires.goal)) in
    let terms : terms_at w2.bank base.items ≡ base_goal w0.bank cases (terms_at w0.bank c.args.goal.now) =
    ap (terms_at w2.bank) ids ∙ terms_both w2.bank (map (λ c. c.test) cases) c.args.goal.now ∙
    ap₂ (λ (us vs : List Term). us ++ vs) (tests_told w2.bank cases ∙ same_tests h w0 w2 c.requires.stands g02 c.args.scheme.now.measure cases c.requires.scheme.cases) (same_terms h w0 w2 c.requires.stands g02 c.args.goal.now c.requires.goal) in
    record {
      grows = g02;
      later = WorkGrows-refl h w2 g02.stands;
      over = one_all (λ (v : Vec TermId Global). AreTermsIn h w2 v.items) c.add_goal.new.goals.items base items over;
      terms = ap (clauses_at w2.bank) items ∙ ap (λ (b : List Term). b ∷ []) terms;
    }

pub step_of-requires-clause-claim : goal.step_of-requires-clause-claim
step_of-requires-clause-claim c = term_grown c.args.history.now c.claim_of.new.work c.loop-case.work c.in_ok-claim.claim c.claim_of.ensures.grows.stands c.loop-case.invariant.later c.in_ok-claim.ensures.over

pub step_of-requires-clause-is : goal.step_of-requires-clause-is
step_of-requires-clause-is c = same_term_grown c.args.history.now c.claim_of.new.work c.loop-case.work c.in_ok-claim.claim c.loop-case.invariant.later c.in_ok-claim.ensures.over ∙ c.in_ok-claim.ensures.claim.denotes ∙ ap any_of (same_terms c.args.history.now c.args.work.now c.truth.new.work c.requires.stands c.truth.ensures.grows c.args.goal.now c.requires.goal) ∙ sym (ap any_of (same_terms c.args.history.now c.args.work.now c.loop-case.work c.requires.stands c.loop-case.invariant.grows c.args.goal.now c.requires.goal))

pub step_of-requires-clause-test : goal.step_of-requires-clause-test
step_of-requires-clause-test c = (case_grown c.args.history.now c.args.work.now c.loop-case.work c.requires.stands c.loop-case.invariant.grows c.args.scheme.now.measure c.case-item.result c.requires.scheme.measure (case_at c.args.history.now c.args.work.now c.args.scheme.now.measure c.as_slice-case-items.result.now c.args.scheme.now.cases.items c.loop-case.case-index c.case-item.result c.as_slice-case-items.ensures.value c.loop-case-test.true c.case-item.is c.requires.scheme.cases)).test

pub step_of-requires-clause-steps : goal.step_of-requires-clause-steps
step_of-requires-clause-steps c = all_pairs_grown c.args.history.now c.args.work.now c.loop-case.work c.requires.stands c.loop-case.invariant.grows c.case-item.result.steps.items (pairs_of_case c.args.history.now c.args.work.now c.loop-case.work c.requires.stands c.loop-case.invariant.grows c.args.scheme.now.measure c.case-item.result (case_at c.args.history.now c.args.work.now c.args.scheme.now.measure c.as_slice-case-items.result.now c.args.scheme.now.cases.items c.loop-case.case-index c.case-item.result c.as_slice-case-items.ensures.value c.loop-case-test.true c.case-item.is c.requires.scheme.cases))

pub step_of-requires-clause-goal : goal.step_of-requires-clause-goal
step_of-requires-clause-goal c = terms_in_grown c.args.history.now c.args.work.now c.loop-case.work c.requires.stands c.loop-case.invariant.grows c.args.goal.now c.requires.goal

pub returns-in_err-step-clause-grows : goal.returns-in_err-step-clause-grows
returns-in_err-step-clause-grows c = (WorkGrows-trans c.args.history.now c.args.work.now c.loop-case.work c.step_of.new.work c.loop-case.invariant.grows c.step_of.ensures.grows)

pub returns-in_err-add_goal-2-clause-grows : goal.returns-in_err-add_goal-2-clause-grows
returns-in_err-add_goal-2-clause-grows c = (WorkGrows-trans c.args.history.now c.args.work.now c.loop-case.work c.step_of.new.work c.loop-case.invariant.grows c.step_of.ensures.grows)

pub loop-case-preserved : goal.loop-case-preserved
loop-case-preserved c =
    let h = c.args.history.now in
    let w0 : Work = c.args.work.now in
    let w3 : Work = c.loop-case.work in
    let w4 : Work = c.step_of.new.work in
    let inv = c.loop-case.invariant in
    let g34 : WorkGrows h w3 w4 = c.step_of.ensures.grows in
    let cases : List Case = c.args.scheme.now.cases.items in
    let case : Case = c.case-item.result in
    let there : IsCaseIn h w0 c.args.scheme.now.measure case = (case_at c.args.history.now c.args.work.now c.args.scheme.now.measure c.as_slice-case-items.result.now c.args.scheme.now.cases.items c.loop-case.case-index c.case-item.result c.as_slice-case-items.ensures.value c.loop-case-test.true c.case-item.is c.requires.scheme.cases) in
    let literals : List Term = terms_at w0.bank c.args.goal.now in
    let step : Vec TermId Global = c.in_ok-step.step in
    let told : terms_at w4.bank step.items ≡ step_goal w0.bank literals case =
    c.in_ok-step.ensures.literals ∙ ap (λ (ts : List Term). step_goal w3.bank ts case) (same_terms h w0 w3 c.requires.stands inv.grows c.args.goal.now c.requires.goal) ∙ same_step_goal h w0 w3 c.requires.stands inv.grows c.args.scheme.now.measure literals case there in
    record {
      grows = (WorkGrows-trans c.args.history.now c.args.work.now c.loop-case.work c.step_of.new.work c.loop-case.invariant.grows c.step_of.ensures.grows);
      later = WorkGrows-trans h c.claim_of.new.work w3 w4 inv.later g34;
      over =
          subst (All (λ (v : Vec TermId Global). AreTermsIn h w4 v.items)) (sym c.in_ok-add_goal-2.ensures.more)
          (All-push (λ (v : Vec TermId Global). AreTermsIn h w4 v.items) c.loop-case.goals.items step (clauses_over h w3 w4 inv.grows.stands g34 c.loop-case.goals.items inv.over) c.in_ok-step.ensures.over);
      terms =
          ap (clauses_at w4.bank) c.in_ok-add_goal-2.ensures.more ∙ clauses_both w4.bank c.loop-case.goals.items step ∙
          ap₂ (λ (cs : List (List Term)) (t : List Term). cs ++ t ∷ []) (same_clauses h w3 w4 inv.grows.stands g34 c.loop-case.goals.items inv.over ∙ inv.terms) told ∙
          ap (λ (ts : List (List Term)). base_goal w0.bank cases literals ∷ ts) (steps_more (step_goal w0.bank literals) c.as_slice-case-items.result.now cases c.loop-case.case-index case c.as_slice-case-items.ensures.value c.loop-case-test.true c.case-item.is);
    }
