use Rattle.std.proofs.Common.{◌∙◌, List, map, sym, ap, subst, arith}
use Rattle.std.specs.Prelude.{All}
use Rattle.nq_logic.specs.Terms.{Term}
use Rattle.nq_bank.specs.Content.{terms_at}
use Rattle.nq_kernel.proofs.GrowingLemmas.{WorkGrows-trans, WorkGrows-refl}
use Rattle.nq_rule.specs.declared.induction.CaseOfInduction.{CaseOfInduction}
use Rattle.nq_induct.specs.Claims.{any_of}
use Rattle.nq_induct.specs.Goals.{AreShown, IsShownCase}
use Rattle.nq_induct.proofs.GrownLemmas.{terms_in_grown, same_terms, shown_truth_grown, scheme_grown, same_goals, shown_grown}
use Rattle.nq_induct.proofs.ClosedLemmas.{step_shown}
use Rattle.nq_induct.proofs.CaseLemmas.{shown_push, tests_push, none_all}
use Rattle.nq_induct.proofs.closing.shown_cases.Goals as goal

pub shown_case-requires-clause-truth : goal.shown_case-requires-clause-truth
shown_case-requires-clause-truth c = shown_truth_grown c.args.history.now c.args.work.now c.loop-place.work c.requires.stands c.loop-place.invariant.grows c.args.shown c.requires.truth

pub shown_case-requires-clause-scheme : goal.shown_case-requires-clause-scheme
shown_case-requires-clause-scheme c = (scheme_grown c.args.history.now c.args.work.now c.loop-place.work c.requires.stands c.loop-place.invariant.grows c.args.scheme.now c.requires.scheme)

pub shown_case-requires-clause-goal : goal.shown_case-requires-clause-goal
shown_case-requires-clause-goal c = (terms_in_grown c.args.history.now c.args.work.now c.loop-place.work c.requires.stands c.loop-place.invariant.grows c.args.goal.now c.requires.goal)

pub shown_case-requires-clause-line : goal.shown_case-requires-clause-line
shown_case-requires-clause-line c = λ d. step_shown c.loop-place.work c.args.scheme.now c.args.goal.now c.args.lines.now c.loop-place.place d (subst (λ (cs : List (List Term)). AreShown c.loop-place.work cs c.args.lines.now) (sym (same_goals c.args.history.now c.args.work.now c.loop-place.work c.requires.stands c.loop-place.invariant.grows c.args.scheme.now c.args.goal.now c.requires.scheme c.requires.goal)) (shown_grown c.args.history.now c.args.work.now c.loop-place.work c.requires.stands c.loop-place.invariant.grows _ c.args.lines.now c.requires.lines)) (omega (arith, c.loop-place-test.true, c.len-place-end.ensures))

pub returns-in_err-case-clause-grows : goal.returns-in_err-case-clause-grows
returns-in_err-case-clause-grows c = (WorkGrows-trans c.args.history.now c.args.work.now c.loop-place.work c.shown_case.new.work c.loop-place.invariant.grows c.shown_case.ensures.grows)

pub returns-in_err-add_case-clause-grows : goal.returns-in_err-add_case-clause-grows
returns-in_err-add_case-clause-grows c = (WorkGrows-trans c.args.history.now c.args.work.now c.loop-place.work c.shown_case.new.work c.loop-place.invariant.grows c.shown_case.ensures.grows)

pub loop-place-init : goal.loop-place-init
loop-place-init c = record { grows = WorkGrows-refl c.args.history.now c.args.work.now c.requires.stands; cases = none_all (IsShownCase c.args.history.now c.args.work.now c.args.scheme.now.measure (any_of (terms_at c.args.work.now.bank c.args.goal.now))) c.new-cases.result.items c.new-cases.ensures.items; tests = ap (λ (cs : List CaseOfInduction). map (λ c. c.test) cs) c.new-cases.ensures.items }

pub loop-place-preserved : goal.loop-place-preserved
loop-place-preserved c =
    record {
      grows = (WorkGrows-trans c.args.history.now c.args.work.now c.loop-place.work c.shown_case.new.work c.loop-place.invariant.grows c.shown_case.ensures.grows);
      cases =
          subst (All (IsShownCase c.args.history.now c.shown_case.new.work c.args.scheme.now.measure (any_of (terms_at c.args.work.now.bank c.args.goal.now)))) (sym c.in_ok-add_case.ensures.more)
          (shown_push c.args.history.now c.loop-place.work c.shown_case.new.work c.loop-place.invariant.grows.stands c.shown_case.ensures.grows c.args.scheme.now.measure (any_of (terms_at c.args.work.now.bank c.args.goal.now)) c.loop-place.cases.items c.in_ok-case.case (scheme_grown c.args.history.now c.args.work.now c.loop-place.work c.requires.stands c.loop-place.invariant.grows c.args.scheme.now c.requires.scheme).measure c.loop-place.invariant.cases
          (subst (λ (p : Term). IsShownCase c.args.history.now c.shown_case.new.work c.args.scheme.now.measure p c.in_ok-case.case) (ap any_of (same_terms c.args.history.now c.args.work.now c.loop-place.work c.requires.stands c.loop-place.invariant.grows c.args.goal.now c.requires.goal)) c.in_ok-case.ensures.case));
      tests =
          ap (λ (cs : List CaseOfInduction). map (λ c. c.test) cs) c.in_ok-add_case.ensures.more ∙
          tests_push c.loop-place.cases.items c.in_ok-case.case c.args.scheme.now.cases.items c.loop-place.place (omega (arith, c.loop-place-test.true, c.len-place-end.ensures)) c.in_ok-case.ensures.test c.loop-place.invariant.tests;
    }
