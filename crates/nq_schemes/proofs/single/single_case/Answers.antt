use Rattle.std.proofs.Common.{◌≡◌, ◌∷◌, ◌∙◌, [], List, sym, ap, subst}
use Rattle.std.proofs.lemmas.Result.{IfOk-weaker}
use Rattle.nq_logic.specs.Terms.{Term}
use Rattle.nq_logic.specs.Words.{not_term}
use Rattle.nq_bank.specs.Content.{term_at}
use Rattle.nq_clause.specs.declared.substitution.Pair.{Pair}
use Rattle.nq_kernel.specs.declared.work.Work.{Work}
use Rattle.nq_kernel.specs.Growing.{WorkGrows}
use Rattle.nq_kernel.proofs.GrowingLemmas.{WorkGrows-trans}
use Rattle.nq_lines.specs.Lines.{LineHasOnly}
use Rattle.nq_lines.specs.Instances.{ArePairsIn}
use Rattle.nq_lines.proofs.InstanceLemmas.{pairs_in_grown}
use Rattle.nq_lines.proofs.TermLemmas.{both_ok}
use Rattle.nq_schemes.specs.Single.{fall_of}
use Rattle.nq_schemes.proofs.GrownLemmas.{basis_grown, terms_grown}
use Rattle.nq_schemes.proofs.SingleLemmas.{case_single, same_fall, some_one}
use Rattle.nq_schemes.proofs.single.single_case.Goals as goal

pub fall_at-requires-clause-pairs : goal.fall_at-requires-clause-pairs
fall_at-requires-clause-pairs c = subst (ArePairsIn c.args.history.now c.args.work.now) (sym c.as_slice.ensures.value) c.requires.pairs

pub fall_test-requires-clause-truth : goal.fall_test-requires-clause-truth
fall_test-requires-clause-truth c = (basis_grown c.args.history.now c.args.work.now c.fall_at.new.work c.requires.stands c.fall_at.ensures.grows c.args.basis.now c.requires.basis).shown

pub fall_test-requires-clause-tests : goal.fall_test-requires-clause-tests
fall_test-requires-clause-tests c = terms_grown c.args.history.now c.args.work.now c.fall_at.new.work c.requires.stands c.fall_at.ensures.grows c.args.tests.now c.requires.tests

pub returns-in_err-test-clause-grows : goal.returns-in_err-test-clause-grows
returns-in_err-test-clause-grows c = WorkGrows-trans c.args.history.now c.args.work.now c.fall_at.new.work c.fall_test.new.work c.fall_at.ensures.grows c.fall_test.ensures.grows

pub returns-clause-grows : goal.returns-clause-grows
returns-clause-grows c = WorkGrows-trans c.args.history.now c.args.work.now c.fall_at.new.work c.fall_test.new.work c.fall_at.ensures.grows c.fall_test.ensures.grows

pub returns-clause-steps : goal.returns-clause-steps
returns-clause-steps c = IfOk-weaker c.case_with_step.result _ _ (λ k is. some_one k.steps.items _ is) c.case_with_step.ensures.steps

pub returns-clause-case : goal.returns-clause-case
returns-clause-case c =
    let h = c.args.history.now in
    let w0 : Work = c.args.work.now in
    let w2 : Work = c.fall_test.new.work in
    let m = c.args.basis.now.measure in
    let g02 : WorkGrows h w0 w2 = WorkGrows-trans h w0 c.fall_at.new.work w2 c.fall_at.ensures.grows c.fall_test.ensures.grows in
    let is : term_at c.fall_at.new.work.bank c.in_ok-falls.falls ≡ fall_of w2.bank m c.args.pairs.items =
    c.in_ok-falls.ensures.falls.denotes ∙ ap (λ (ps : List Pair). fall_of w0.bank m ps) c.as_slice.ensures.value ∙ sym (same_fall h w0 w2 c.requires.stands g02 m c.args.pairs.items c.requires.basis.measure c.requires.pairs) in
    let falls : LineHasOnly w2 c.in_ok-test.test.line (not_term (term_at w2.bank c.in_ok-test.test.term) ∷ fall_of w2.bank m c.args.pairs.items ∷ []) =
    subst (λ (t : Term). LineHasOnly w2 c.in_ok-test.test.line (not_term (term_at w2.bank c.in_ok-test.test.term) ∷ t ∷ [])) is c.in_ok-test.ensures.line in
    let pairs : ArePairsIn h w2 c.args.pairs.items = pairs_in_grown h w0 w2 c.args.pairs.items c.requires.stands g02 c.requires.pairs in
    both_ok c.case_with_step.result _ _ _ (λ k same steps. case_single h w2 m k c.in_ok-test.test c.args.pairs same steps c.in_ok-test.ensures.over pairs falls) c.case_with_step.ensures.test c.case_with_step.ensures.steps
