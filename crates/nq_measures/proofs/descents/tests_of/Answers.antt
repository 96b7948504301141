use Rattle.std.proofs.Common.{◌≤◌, false, arith, List, get_or, sym, ap, subst}
use Rattle.std.specs.Prelude.{All}
use Rattle.nq_logic.specs.Terms.{Term}
use Rattle.nq_logic.specs.Sizes.{depth_of}
use Rattle.nq_bank.specs.declared.node.TermId.{TermId}
use Rattle.nq_bank.specs.Content.{Stands, terms_at}
use Rattle.nq_calls.specs.declared.calls.Guard.{Guard}
use Rattle.nq_calls.specs.Calls.{guard_at}
use Rattle.nq_calls.proofs.FallLemmas.{guard_at-grown}
use Rattle.nq_kernel.specs.Ready.{body_depth}
use Rattle.nq_replay.proofs.UncountedLemmas.{grown_refl, grown_trans}
use Rattle.nq_measures.specs.Trials.{IsShallowTerm}
use Rattle.nq_measures.proofs.SearchLemmas.{each_get}
use Rattle.nq_measures.proofs.DescentLemmas.{tests_next, tests_stand_next}
use Rattle.nq_measures.proofs.descents.tests_of.Goals as goal

pub loop-guard-init : goal.loop-guard-init
loop-guard-init c =
    let w = c.args.work.now in
    record {
      grows = grown_refl c.args.history.now w c.requires.stands;
      tests = ap (terms_at w.bank) c.new-tests.ensures.items;
      stand = subst (λ (ids : List TermId). All (Stands w.bank) ids) (sym c.new-tests.ensures.items) (λ k d below. absurd (omega arith));
    }

pub test_of-requires-clause-shallow : goal.test_of-requires-clause-shallow
test_of-requires-clause-shallow c =
    let d : Guard = record { test = record { 0 = 0 }; holds = false } in
    let g : Guard = get_or c.args.guards.now c.loop-guard.guard-index d in
    subst (λ (t : Term). depth_of t ≤ body_depth) (sym (guard_at-grown c.args.work.now.bank c.loop-guard.work.bank g c.loop-guard.invariant.grows.grows.bank (c.requires.guards c.loop-guard.guard-index d c.loop-guard-test.true)))
    (each_get (IsShallowTerm _) (guard_at c.args.work.now.bank) c.args.guards.now c.loop-guard.guard-index d c.loop-guard-test.true c.requires.shallow).shallow

pub returns-in_err-test-clause-grows : goal.returns-in_err-test-clause-grows
returns-in_err-test-clause-grows c = grown_trans c.args.history.now c.args.work.now c.loop-guard.work c.test_of.new.work c.loop-guard.invariant.grows c.test_of.ensures.grows

pub returns-in_err-push-clause-grows : goal.returns-in_err-push-clause-grows
returns-in_err-push-clause-grows c = grown_trans c.args.history.now c.args.work.now c.loop-guard.work c.test_of.new.work c.loop-guard.invariant.grows c.test_of.ensures.grows

pub loop-guard-preserved : goal.loop-guard-preserved
loop-guard-preserved c =
    let d : Guard = record { test = record { 0 = 0 }; holds = false } in
    let old = c.args.work.now.bank in
    let mid = c.loop-guard.work.bank in
    let new = c.test_of.new.work.bank in
    record {
      grows = grown_trans c.args.history.now c.args.work.now c.loop-guard.work c.test_of.new.work c.loop-guard.invariant.grows c.test_of.ensures.grows;
      tests = tests_next old mid new c.args.guards.now c.loop-guard.guard-index d c.loop-guard.tests.items c.push.new.self.items c.in_ok-test.test c.loop-guard.invariant.grows.grows.bank c.test_of.ensures.grows.grows.bank c.loop-guard-test.true c.requires.guards c.loop-guard.invariant.stand c.in_ok-push.ensures.items c.in_ok-test.ensures.test c.loop-guard.invariant.tests;
      stand = tests_stand_next old mid new c.args.guards.now c.loop-guard.guard-index d c.loop-guard.tests.items c.push.new.self.items c.in_ok-test.test c.loop-guard.invariant.grows.grows.bank c.test_of.ensures.grows.grows.bank c.loop-guard-test.true c.requires.guards c.loop-guard.invariant.stand c.in_ok-push.ensures.items c.in_ok-test.ensures.test;
    }
