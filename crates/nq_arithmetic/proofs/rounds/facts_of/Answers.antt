use Rattle.std.proofs.Common.{subst, sym, arith}
use Rattle.std.specs.Prelude.{All}
use Rattle.nq_kernel.proofs.GrowingLemmas.{WorkGrows-refl, WorkGrows-trans}
use Rattle.nq_lines.specs.Lines.{IsTermIn}
use Rattle.nq_arithmetic.proofs.Lemmas.{all_grown, instances_grown}
use Rattle.nq_arithmetic.specs.Claims.{IsAssumptionIn}
use Rattle.nq_arithmetic.proofs.rounds.facts_of.Goals as goal

pub returns-in_err-whole-clause-grows : goal.returns-in_err-whole-clause-grows
returns-in_err-whole-clause-grows c = WorkGrows-refl c.args.history.now c.args.work.now c.requires.stands

pub terms_in-requires-clause-goal : goal.terms_in-requires-clause-goal
terms_in-requires-clause-goal c = subst (All (IsTermIn c.args.history.now c.args.work.now)) (sym c.as_slice.ensures.value) c.in_ok-whole.ensures.terms

pub returns-in_err-terms-clause-grows : goal.returns-in_err-terms-clause-grows
returns-in_err-terms-clause-grows c = WorkGrows-refl c.args.history.now c.args.work.now c.requires.stands

pub loop-round-init : goal.loop-round-init
loop-round-init c = record { grows = WorkGrows-refl c.args.history.now c.args.work.now c.requires.stands; found = subst (All (IsAssumptionIn c.args.history.now c.args.work.now)) (sym c.new-found.ensures.items) (λ k d below. absurd (omega (arith, below))) }

pub add_round_after-requires-clause-stands : goal.add_round_after-requires-clause-stands
add_round_after-requires-clause-stands c = c.loop-round.invariant.grows.stands

pub add_round_after-requires-clause-goal : goal.add_round_after-requires-clause-goal
add_round_after-requires-clause-goal c = all_grown c.args.history.now c.args.work.now c.loop-round.work c.requires.stands c.loop-round.invariant.grows c.args.goal.now c.requires.goal

pub add_round_after-requires-clause-instances : goal.add_round_after-requires-clause-instances
add_round_after-requires-clause-instances c = instances_grown c.args.history.now c.args.work.now c.loop-round.work c.requires.stands c.loop-round.invariant.grows c.args.instances.now c.requires.instances

pub add_round_after-requires-clause-terms : goal.add_round_after-requires-clause-terms
add_round_after-requires-clause-terms c = all_grown c.args.history.now c.args.work.now c.loop-round.work c.requires.stands c.loop-round.invariant.grows c.as_slice-in-loop-round.result.now (subst (All (IsTermIn c.args.history.now c.args.work.now)) (sym c.as_slice-in-loop-round.ensures.value) c.in_ok-terms.ensures.terms)

pub add_round_after-requires-clause-found : goal.add_round_after-requires-clause-found
add_round_after-requires-clause-found c = c.loop-round.invariant.found

pub returns-in_err-added-clause-grows : goal.returns-in_err-added-clause-grows
returns-in_err-added-clause-grows c = WorkGrows-trans c.args.history.now c.args.work.now c.loop-round.work c.add_round_after.new.work c.loop-round.invariant.grows c.add_round_after.ensures.grows

pub loop-round-preserved : goal.loop-round-preserved
loop-round-preserved c = record { grows = WorkGrows-trans c.args.history.now c.args.work.now c.loop-round.work c.add_round_after.new.work c.loop-round.invariant.grows c.add_round_after.ensures.grows; found = c.in_ok-added.ensures.found }
