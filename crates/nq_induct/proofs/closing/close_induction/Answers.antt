use Rattle.std.proofs.Common.{◌≡◌, ◌∷◌, [], ◌++◌, ◌∙◌, List, sym, ap, subst}
use Rattle.std.specs.Prelude.{All}
use Rattle.nq_logic.specs.Terms.{Term}
use Rattle.nq_bank.specs.Content.{term_at, terms_at}
use Rattle.nq_proof.specs.Rules.{case_tests}
use Rattle.nq_rule.specs.Inductions.{cases_at}
use Rattle.nq_rule.proofs.Made.{for_ok}
use Rattle.nq_kernel.proofs.GrowingLemmas.{WorkGrows-trans}
use Rattle.nq_lines.specs.Lines.{LineHasOnly}
use Rattle.nq_lines.proofs.LineLemmas.{only_stands, only_grown}
use Rattle.nq_lines.proofs.TermLemmas.{term_grown, same_term_grown}
use Rattle.nq_induct.specs.Claims.{any_of, OpensTo}
use Rattle.nq_induct.specs.Goals.{AreShown, IsShownCase, tests_at}
use Rattle.nq_induct.proofs.GrownLemmas.{terms_in_grown, same_terms, same_tests, shown_truth_grown, truth_grown, scheme_grown, same_goals, shown_grown}
use Rattle.nq_induct.proofs.ClosedLemmas.{base_shown, tests_as, base_gathered, opened_alone}
use Rattle.nq_induct.proofs.closing.close_induction.Goals as goal

pub gather-requires-clause-goal : goal.gather-requires-clause-goal
gather-requires-clause-goal c = (terms_in_grown c.args.history.now c.args.work.now c.known_truth.new.work c.requires.stands c.known_truth.ensures.grows c.args.goal.now c.requires.goal)

pub gather-requires-clause-line : goal.gather-requires-clause-line
gather-requires-clause-line c = only_stands c.known_truth.new.work _ _ (base_shown c.known_truth.new.work c.args.scheme.now c.args.goal.now c.args.lines.now (subst (λ (cs : List (List Term)). AreShown c.known_truth.new.work cs c.args.lines.now) (sym (same_goals c.args.history.now c.args.work.now c.known_truth.new.work c.requires.stands c.known_truth.ensures.grows c.args.scheme.now c.args.goal.now c.requires.scheme c.requires.goal)) (shown_grown c.args.history.now c.args.work.now c.known_truth.new.work c.requires.stands c.known_truth.ensures.grows _ c.args.lines.now c.requires.lines)))

pub shown_cases-requires-clause-truth : goal.shown_cases-requires-clause-truth
shown_cases-requires-clause-truth c = shown_truth_grown c.args.history.now c.known_truth.new.work c.gather.new.work c.known_truth.ensures.grows.stands c.gather.ensures.grows c.in_ok-shown.shown c.in_ok-shown.ensures.truth

pub shown_cases-requires-clause-scheme : goal.shown_cases-requires-clause-scheme
shown_cases-requires-clause-scheme c = (scheme_grown c.args.history.now c.args.work.now c.gather.new.work c.requires.stands (WorkGrows-trans c.args.history.now c.args.work.now c.known_truth.new.work c.gather.new.work c.known_truth.ensures.grows c.gather.ensures.grows) c.args.scheme.now c.requires.scheme)

pub shown_cases-requires-clause-goal : goal.shown_cases-requires-clause-goal
shown_cases-requires-clause-goal c = (terms_in_grown c.args.history.now c.args.work.now c.gather.new.work c.requires.stands (WorkGrows-trans c.args.history.now c.args.work.now c.known_truth.new.work c.gather.new.work c.known_truth.ensures.grows c.gather.ensures.grows) c.args.goal.now c.requires.goal)

pub shown_cases-requires-clause-lines : goal.shown_cases-requires-clause-lines
shown_cases-requires-clause-lines c = (subst (λ (cs : List (List Term)). AreShown c.gather.new.work cs c.args.lines.now) (sym (same_goals c.args.history.now c.args.work.now c.gather.new.work c.requires.stands (WorkGrows-trans c.args.history.now c.args.work.now c.known_truth.new.work c.gather.new.work c.known_truth.ensures.grows c.gather.ensures.grows) c.args.scheme.now c.args.goal.now c.requires.scheme c.requires.goal)) (shown_grown c.args.history.now c.args.work.now c.gather.new.work c.requires.stands (WorkGrows-trans c.args.history.now c.args.work.now c.known_truth.new.work c.gather.new.work c.known_truth.ensures.grows c.gather.ensures.grows) _ c.args.lines.now c.requires.lines))

pub add_induction-requires-clause-scheme : goal.add_induction-requires-clause-scheme
add_induction-requires-clause-scheme c = (scheme_grown c.args.history.now c.args.work.now c.shown_cases.new.work c.requires.stands (WorkGrows-trans c.args.history.now c.args.work.now c.gather.new.work c.shown_cases.new.work (WorkGrows-trans c.args.history.now c.args.work.now c.known_truth.new.work c.gather.new.work c.known_truth.ensures.grows c.gather.ensures.grows) c.shown_cases.ensures.grows) c.args.scheme.now c.requires.scheme)

pub add_induction-requires-clause-claim : goal.add_induction-requires-clause-claim
add_induction-requires-clause-claim c = term_grown c.args.history.now c.gather.new.work c.shown_cases.new.work c.in_ok-base.base.term c.gather.ensures.grows.stands c.shown_cases.ensures.grows c.in_ok-base.ensures.over

pub add_induction-requires-clause-cases : goal.add_induction-requires-clause-cases
add_induction-requires-clause-cases c =
    subst (λ (p : Term). All (IsShownCase c.args.history.now c.shown_cases.new.work c.args.scheme.now.measure p) c.in_ok-cases.cases.items) (ap any_of (same_terms c.args.history.now c.args.work.now c.gather.new.work c.requires.stands (WorkGrows-trans c.args.history.now c.args.work.now c.known_truth.new.work c.gather.new.work c.known_truth.ensures.grows c.gather.ensures.grows) c.args.goal.now c.requires.goal) ∙ sym (same_term_grown c.args.history.now c.gather.new.work c.shown_cases.new.work c.in_ok-base.base.term c.shown_cases.ensures.grows c.in_ok-base.ensures.over ∙ c.in_ok-base.ensures.claim.denotes ∙ ap any_of (same_terms c.args.history.now c.args.work.now c.known_truth.new.work c.requires.stands c.known_truth.ensures.grows c.args.goal.now c.requires.goal))) c.in_ok-cases.ensures.cases

pub add_induction-requires-clause-base : goal.add_induction-requires-clause-base
add_induction-requires-clause-base c =
    let tests3 : case_tests (cases_at c.shown_cases.new.work.bank c.in_ok-cases.cases.items) ≡ tests_at c.args.work.now.bank c.args.scheme.now.cases.items = tests_as c.shown_cases.new.work.bank c.in_ok-cases.cases.items c.args.scheme.now.cases.items c.in_ok-cases.ensures.tests ∙ same_tests c.args.history.now c.args.work.now c.shown_cases.new.work c.requires.stands (WorkGrows-trans c.args.history.now c.args.work.now c.gather.new.work c.shown_cases.new.work (WorkGrows-trans c.args.history.now c.args.work.now c.known_truth.new.work c.gather.new.work c.known_truth.ensures.grows c.gather.ensures.grows) c.shown_cases.ensures.grows) c.args.scheme.now.measure c.args.scheme.now.cases.items c.requires.scheme.cases in
    let tests1 : tests_at c.known_truth.new.work.bank c.args.scheme.now.cases.items ≡ tests_at c.args.work.now.bank c.args.scheme.now.cases.items = same_tests c.args.history.now c.args.work.now c.known_truth.new.work c.requires.stands c.known_truth.ensures.grows c.args.scheme.now.measure c.args.scheme.now.cases.items c.requires.scheme.cases in
    let told : LineHasOnly c.gather.new.work c.in_ok-base.base.line (tests_at c.known_truth.new.work.bank c.args.scheme.now.cases.items ++ (any_of (terms_at c.known_truth.new.work.bank c.args.goal.now) ∷ [])) = base_gathered c.known_truth.new.work c.gather.new.work (tests_at c.known_truth.new.work.bank c.args.scheme.now.cases.items) (terms_at c.known_truth.new.work.bank c.args.goal.now) _ c.in_ok-base.base.line (base_shown c.known_truth.new.work c.args.scheme.now c.args.goal.now c.args.lines.now (subst (λ (cs : List (List Term)). AreShown c.known_truth.new.work cs c.args.lines.now) (sym (same_goals c.args.history.now c.args.work.now c.known_truth.new.work c.requires.stands c.known_truth.ensures.grows c.args.scheme.now c.args.goal.now c.requires.scheme c.requires.goal)) (shown_grown c.args.history.now c.args.work.now c.known_truth.new.work c.requires.stands c.known_truth.ensures.grows _ c.args.lines.now c.requires.lines))) c.in_ok-base.ensures.line in
    subst (λ (qs : List Term). LineHasOnly c.shown_cases.new.work c.in_ok-base.base.line (qs ++ (term_at c.shown_cases.new.work.bank c.in_ok-base.base.term ∷ []))) (tests1 ∙ sym tests3)
    (subst (λ (p : Term). LineHasOnly c.shown_cases.new.work c.in_ok-base.base.line (tests_at c.known_truth.new.work.bank c.args.scheme.now.cases.items ++ (p ∷ []))) (ap any_of (same_terms c.args.history.now c.args.work.now c.known_truth.new.work c.requires.stands c.known_truth.ensures.grows c.args.goal.now c.requires.goal) ∙ sym (same_term_grown c.args.history.now c.gather.new.work c.shown_cases.new.work c.in_ok-base.base.term c.shown_cases.ensures.grows c.in_ok-base.ensures.over ∙ c.in_ok-base.ensures.claim.denotes ∙ ap any_of (same_terms c.args.history.now c.args.work.now c.known_truth.new.work c.requires.stands c.known_truth.ensures.grows c.args.goal.now c.requires.goal)))
    (only_grown c.args.history.now c.gather.new.work c.shown_cases.new.work c.in_ok-base.base.line _ c.gather.ensures.grows.stands c.shown_cases.ensures.grows told))

pub open_claim-requires-clause-truth : goal.open_claim-requires-clause-truth
open_claim-requires-clause-truth c = truth_grown c.args.history.now c.known_truth.new.work c.add_induction.new.work c.known_truth.ensures.grows.stands (WorkGrows-trans c.args.history.now c.known_truth.new.work c.shown_cases.new.work c.add_induction.new.work (WorkGrows-trans c.args.history.now c.known_truth.new.work c.gather.new.work c.shown_cases.new.work c.gather.ensures.grows c.shown_cases.ensures.grows) c.add_induction.ensures.grows) c.in_ok-shown.shown.term c.in_ok-shown.ensures.truth.truth

pub open_claim-requires-clause-goal : goal.open_claim-requires-clause-goal
open_claim-requires-clause-goal c = (terms_in_grown c.args.history.now c.args.work.now c.add_induction.new.work c.requires.stands (WorkGrows-trans c.args.history.now c.args.work.now c.shown_cases.new.work c.add_induction.new.work (WorkGrows-trans c.args.history.now c.args.work.now c.gather.new.work c.shown_cases.new.work (WorkGrows-trans c.args.history.now c.args.work.now c.known_truth.new.work c.gather.new.work c.known_truth.ensures.grows c.gather.ensures.grows) c.shown_cases.ensures.grows) c.add_induction.ensures.grows) c.args.goal.now c.requires.goal)

pub open_claim-requires-clause-claim : goal.open_claim-requires-clause-claim
open_claim-requires-clause-claim c = record { stands = (term_grown c.args.history.now c.gather.new.work c.add_induction.new.work c.in_ok-base.base.term c.gather.ensures.grows.stands (WorkGrows-trans c.args.history.now c.gather.new.work c.shown_cases.new.work c.add_induction.new.work c.shown_cases.ensures.grows c.add_induction.ensures.grows) c.in_ok-base.ensures.over).stands; denotes = (same_term_grown c.args.history.now c.gather.new.work c.add_induction.new.work c.in_ok-base.base.term (WorkGrows-trans c.args.history.now c.gather.new.work c.shown_cases.new.work c.add_induction.new.work c.shown_cases.ensures.grows c.add_induction.ensures.grows) c.in_ok-base.ensures.over ∙ c.in_ok-base.ensures.claim.denotes ∙ ap any_of (same_terms c.args.history.now c.args.work.now c.known_truth.new.work c.requires.stands c.known_truth.ensures.grows c.args.goal.now c.requires.goal)) ∙ sym (ap any_of (same_terms c.args.history.now c.args.work.now c.add_induction.new.work c.requires.stands (WorkGrows-trans c.args.history.now c.args.work.now c.shown_cases.new.work c.add_induction.new.work (WorkGrows-trans c.args.history.now c.args.work.now c.gather.new.work c.shown_cases.new.work (WorkGrows-trans c.args.history.now c.args.work.now c.known_truth.new.work c.gather.new.work c.known_truth.ensures.grows c.gather.ensures.grows) c.shown_cases.ensures.grows) c.add_induction.ensures.grows) c.args.goal.now c.requires.goal)) }

pub open_claim-requires-clause-over : goal.open_claim-requires-clause-over
open_claim-requires-clause-over c = (term_grown c.args.history.now c.gather.new.work c.add_induction.new.work c.in_ok-base.base.term c.gather.ensures.grows.stands (WorkGrows-trans c.args.history.now c.gather.new.work c.shown_cases.new.work c.add_induction.new.work c.shown_cases.ensures.grows c.add_induction.ensures.grows) c.in_ok-base.ensures.over)

pub returns-in_err-base-clause-grows : goal.returns-in_err-base-clause-grows
returns-in_err-base-clause-grows c = (WorkGrows-trans c.args.history.now c.args.work.now c.known_truth.new.work c.gather.new.work c.known_truth.ensures.grows c.gather.ensures.grows)

pub returns-in_err-cases-clause-grows : goal.returns-in_err-cases-clause-grows
returns-in_err-cases-clause-grows c = (WorkGrows-trans c.args.history.now c.args.work.now c.gather.new.work c.shown_cases.new.work (WorkGrows-trans c.args.history.now c.args.work.now c.known_truth.new.work c.gather.new.work c.known_truth.ensures.grows c.gather.ensures.grows) c.shown_cases.ensures.grows)

pub returns-in_err-line-clause-grows : goal.returns-in_err-line-clause-grows
returns-in_err-line-clause-grows c = (WorkGrows-trans c.args.history.now c.args.work.now c.shown_cases.new.work c.add_induction.new.work (WorkGrows-trans c.args.history.now c.args.work.now c.gather.new.work c.shown_cases.new.work (WorkGrows-trans c.args.history.now c.args.work.now c.known_truth.new.work c.gather.new.work c.known_truth.ensures.grows c.gather.ensures.grows) c.shown_cases.ensures.grows) c.add_induction.ensures.grows)

pub returns-clause-grows : goal.returns-clause-grows
returns-clause-grows c = (WorkGrows-trans c.args.history.now c.args.work.now c.add_induction.new.work c.open_claim.new.work (WorkGrows-trans c.args.history.now c.args.work.now c.shown_cases.new.work c.add_induction.new.work (WorkGrows-trans c.args.history.now c.args.work.now c.gather.new.work c.shown_cases.new.work (WorkGrows-trans c.args.history.now c.args.work.now c.known_truth.new.work c.gather.new.work c.known_truth.ensures.grows c.gather.ensures.grows) c.shown_cases.ensures.grows) c.add_induction.ensures.grows) c.open_claim.ensures.grows)

pub returns-clause-line : goal.returns-clause-line
returns-clause-line c =
    let told : LineHasOnly c.add_induction.new.work c.in_ok-line.line (any_of (terms_at c.add_induction.new.work.bank c.args.goal.now) ∷ []) = subst (λ (p : Term). LineHasOnly c.add_induction.new.work c.in_ok-line.line (p ∷ [])) ((same_term_grown c.args.history.now c.gather.new.work c.shown_cases.new.work c.in_ok-base.base.term c.shown_cases.ensures.grows c.in_ok-base.ensures.over ∙ c.in_ok-base.ensures.claim.denotes ∙ ap any_of (same_terms c.args.history.now c.args.work.now c.known_truth.new.work c.requires.stands c.known_truth.ensures.grows c.args.goal.now c.requires.goal)) ∙ sym (ap any_of (same_terms c.args.history.now c.args.work.now c.add_induction.new.work c.requires.stands (WorkGrows-trans c.args.history.now c.args.work.now c.shown_cases.new.work c.add_induction.new.work (WorkGrows-trans c.args.history.now c.args.work.now c.gather.new.work c.shown_cases.new.work (WorkGrows-trans c.args.history.now c.args.work.now c.known_truth.new.work c.gather.new.work c.known_truth.ensures.grows c.gather.ensures.grows) c.shown_cases.ensures.grows) c.add_induction.ensures.grows) c.args.goal.now c.requires.goal))) c.in_ok-line.ensures.line in
    for_ok c.open_claim.result (OpensTo c.add_induction.new.work c.open_claim.new.work (any_of (terms_at c.add_induction.new.work.bank c.args.goal.now)) (terms_at c.add_induction.new.work.bank c.args.goal.now) c.in_ok-line.line) (λ n. LineHasOnly c.open_claim.new.work n (terms_at c.args.work.now.bank c.args.goal.now)) (λ n f.
    opened_alone c.add_induction.new.work c.open_claim.new.work (terms_at c.add_induction.new.work.bank c.args.goal.now) (terms_at c.args.work.now.bank c.args.goal.now) c.in_ok-line.line n (same_terms c.args.history.now c.args.work.now c.add_induction.new.work c.requires.stands (WorkGrows-trans c.args.history.now c.args.work.now c.shown_cases.new.work c.add_induction.new.work (WorkGrows-trans c.args.history.now c.args.work.now c.gather.new.work c.shown_cases.new.work (WorkGrows-trans c.args.history.now c.args.work.now c.known_truth.new.work c.gather.new.work c.known_truth.ensures.grows c.gather.ensures.grows) c.shown_cases.ensures.grows) c.add_induction.ensures.grows) c.args.goal.now c.requires.goal) told f) c.open_claim.ensures.line
