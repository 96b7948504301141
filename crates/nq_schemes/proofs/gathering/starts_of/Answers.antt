use Rattle.nq_kernel.proofs.GrowingLemmas.{WorkGrows-refl, WorkGrows-trans}
use Rattle.nq_schemes.specs.Steps.{IsStartIn}
use Rattle.nq_schemes.proofs.GrownLemmas.{all_with, none_all, basis_grown, starts_grown, terms_grown}
use Rattle.nq_schemes.proofs.gathering.starts_of.Goals as goal

pub start_of-requires-clause-basis : goal.start_of-requires-clause-basis
start_of-requires-clause-basis c = basis_grown c.args.history.now c.args.work.now c.loop-step.work c.requires.stands c.loop-step.invariant.grows c.args.basis.now c.requires.basis

pub start_of-requires-clause-tests : goal.start_of-requires-clause-tests
start_of-requires-clause-tests c = terms_grown c.args.history.now c.args.work.now c.loop-step.work c.requires.stands c.loop-step.invariant.grows c.args.tests.now c.requires.tests

pub loop-step-init : goal.loop-step-init
loop-step-init c = record { grows = WorkGrows-refl c.args.history.now c.args.work.now c.requires.stands; starts = none_all (IsStartIn c.args.history.now c.args.work.now) c.new-starts.result.items c.new-starts.ensures.items; literals = c.requires.literals }

pub loop-step-preserved : goal.loop-step-preserved
loop-step-preserved c = record { grows = WorkGrows-trans c.args.history.now c.args.work.now c.loop-step.work c.start_of.new.work c.loop-step.invariant.grows c.start_of.ensures.grows; starts = all_with (IsStartIn c.args.history.now c.start_of.new.work) c.loop-step.starts.items c.add_step.new.steps.items c.in_ok-found.found c.in_ok-add_step.ensures.more (starts_grown c.args.history.now c.loop-step.work c.start_of.new.work c.loop-step.invariant.grows.stands c.start_of.ensures.grows c.loop-step.starts.items c.loop-step.invariant.starts) c.in_ok-found.ensures.start; literals = c.in_ok-found.ensures.literals }

pub returns-in_err-found-clause-grows : goal.returns-in_err-found-clause-grows
returns-in_err-found-clause-grows c = WorkGrows-trans c.args.history.now c.args.work.now c.loop-step.work c.start_of.new.work c.loop-step.invariant.grows c.start_of.ensures.grows

pub returns-in_err-add_step-clause-grows : goal.returns-in_err-add_step-clause-grows
returns-in_err-add_step-clause-grows c = WorkGrows-trans c.args.history.now c.args.work.now c.loop-step.work c.start_of.new.work c.loop-step.invariant.grows c.start_of.ensures.grows
