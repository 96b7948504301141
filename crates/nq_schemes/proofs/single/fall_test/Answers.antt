use Rattle.std.proofs.Common.{◌≡◌, ◌∷◌, [], List, sym, subst}
use Rattle.std.proofs.lemmas.Result.{IfOk-weaker}
use Rattle.nq_logic.specs.Terms.{Term, IsAmong}
use Rattle.nq_logic.specs.Words.{not_term}
use Rattle.nq_bank.specs.declared.node.TermId.{TermId}
use Rattle.nq_bank.specs.Content.{term_at, terms_at}
use Rattle.nq_kernel.specs.declared.work.Work.{Work}
use Rattle.nq_kernel.specs.Growing.{WorkGrows}
use Rattle.nq_kernel.proofs.GrowingLemmas.{WorkGrows-trans}
use Rattle.nq_lines.specs.Lines.{LineHasOnly}
use Rattle.nq_lines.proofs.LineLemmas.{only_stands}
use Rattle.nq_lines.proofs.TermLemmas.{term_grown, same_term_grown}
use Rattle.nq_induct.proofs.GrownLemmas.{shown_truth_grown}
use Rattle.nq_schemes.proofs.single.fall_test.Goals as goal

pub fall_claim-requires-clause-truth : goal.fall_claim-requires-clause-truth
fall_claim-requires-clause-truth c = shown_truth_grown c.args.history.now c.args.work.now c.denied_with.new.work c.requires.stands c.denied_with.ensures.grows c.args.shown c.requires.truth

pub fall_claim-requires-clause-falls : goal.fall_claim-requires-clause-falls
fall_claim-requires-clause-falls c = term_grown c.args.history.now c.args.work.now c.denied_with.new.work c.args.falls c.requires.stands c.denied_with.ensures.grows c.requires.falls

pub fall_claim-requires-clause-last : goal.fall_claim-requires-clause-last
fall_claim-requires-clause-last c =
    let w0 : Work = c.args.work.now in
    let w1 : Work = c.denied_with.new.work in
    let same : term_at w1.bank c.args.falls ≡ term_at w0.bank c.args.falls = same_term_grown c.args.history.now w0 w1 c.args.falls c.denied_with.ensures.grows c.requires.falls in
    subst (λ (ids : List TermId). IsAmong (not_term (term_at w1.bank c.args.falls)) (terms_at w1.bank ids)) (sym c.as_slice.ensures.value)
    (subst (λ (t : Term). IsAmong (not_term t) (terms_at w1.bank c.in_ok-literals.literals.items)) (sym same) c.in_ok-literals.ensures.last)

pub test_of-requires-clause-line : goal.test_of-requires-clause-line
test_of-requires-clause-line c = only_stands c.fall_claim.new.work c.in_ok-claim.claim.line _ c.in_ok-claim.ensures.line

pub returns-in_err-claim-clause-grows : goal.returns-in_err-claim-clause-grows
returns-in_err-claim-clause-grows c = WorkGrows-trans c.args.history.now c.args.work.now c.denied_with.new.work c.fall_claim.new.work c.denied_with.ensures.grows c.fall_claim.ensures.grows

pub returns-clause-grows : goal.returns-clause-grows
returns-clause-grows c =
    let h = c.args.history.now in
    let w0 : Work = c.args.work.now in
    let w2 : Work = c.fall_claim.new.work in
    let g02 : WorkGrows h w0 w2 = WorkGrows-trans h w0 c.denied_with.new.work w2 c.denied_with.ensures.grows c.fall_claim.ensures.grows in
    WorkGrows-trans h w0 w2 c.test_of.new.work g02 c.test_of.ensures.grows

pub returns-clause-line : goal.returns-clause-line
returns-clause-line c =
    let w0 : Work = c.args.work.now in
    let w1 : Work = c.denied_with.new.work in
    let w2 : Work = c.fall_claim.new.work in
    let same : term_at w1.bank c.args.falls ≡ term_at w0.bank c.args.falls = same_term_grown c.args.history.now w0 w1 c.args.falls c.denied_with.ensures.grows c.requires.falls in
    let t : Term = term_at w0.bank c.args.falls in
    let had : LineHasOnly w2 c.in_ok-claim.claim.line (term_at w2.bank c.in_ok-claim.claim.term ∷ t ∷ []) =
    subst (λ (u : Term). LineHasOnly w2 c.in_ok-claim.claim.line (term_at w2.bank c.in_ok-claim.claim.term ∷ u ∷ [])) same c.in_ok-claim.ensures.line in
    IfOk-weaker c.test_of.result _ _ (λ f makes. makes (t ∷ []) had) c.test_of.ensures.line
