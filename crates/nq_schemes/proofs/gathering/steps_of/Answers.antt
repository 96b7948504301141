use Rattle.nq_kernel.proofs.GrowingLemmas.{WorkGrows-refl, WorkGrows-trans}
use Rattle.nq_lines.proofs.TermLemmas.{term_grown}
use Rattle.nq_induct.specs.Schemes.{IsStepIn}
use Rattle.nq_schemes.specs.Steps.{IsStartIn}
use Rattle.nq_schemes.proofs.GrownLemmas.{all_with, none_all, item_all, basis_grown, starts_grown, steps_grown, terms_grown}
use Rattle.nq_schemes.proofs.gathering.steps_of.Goals as goal

pub step_of-requires-clause-basis : goal.step_of-requires-clause-basis
step_of-requires-clause-basis c = basis_grown c.args.history.now c.args.work.now c.loop-start.work c.requires.stands c.loop-start.invariant.grows c.args.basis.now c.requires.basis

pub step_of-requires-clause-test : goal.step_of-requires-clause-test
step_of-requires-clause-test c = term_grown c.args.history.now c.args.work.now c.loop-start.work c.args.test c.requires.stands c.loop-start.invariant.grows c.requires.test

pub step_of-requires-clause-literals : goal.step_of-requires-clause-literals
step_of-requires-clause-literals c = terms_grown c.args.history.now c.args.work.now c.loop-start.work c.requires.stands c.loop-start.invariant.grows c.args.literals.now c.requires.literals

pub step_of-requires-clause-start : goal.step_of-requires-clause-start
step_of-requires-clause-start c = item_all (IsStartIn c.args.history.now c.loop-start.work) c.args.starts.now c.loop-start.start-index c.start-item.result (starts_grown c.args.history.now c.args.work.now c.loop-start.work c.requires.stands c.loop-start.invariant.grows c.args.starts.now c.requires.starts) c.loop-start-test.true c.start-item.is

pub loop-start-init : goal.loop-start-init
loop-start-init c = record { grows = WorkGrows-refl c.args.history.now c.args.work.now c.requires.stands; steps = none_all (IsStepIn c.args.history.now c.args.work.now c.args.basis.now.measure c.args.test) c.new-steps.result.items c.new-steps.ensures.items }

pub loop-start-preserved : goal.loop-start-preserved
loop-start-preserved c = record { grows = WorkGrows-trans c.args.history.now c.args.work.now c.loop-start.work c.step_of.new.work c.loop-start.invariant.grows c.step_of.ensures.grows; steps = all_with (IsStepIn c.args.history.now c.step_of.new.work c.args.basis.now.measure c.args.test) c.loop-start.steps.items c.add_step.new.steps.items c.in_ok-found.found c.in_ok-add_step.ensures.more (steps_grown c.args.history.now c.loop-start.work c.step_of.new.work c.loop-start.invariant.grows.stands c.step_of.ensures.grows c.args.basis.now.measure c.args.test c.loop-start.steps.items (term_grown c.args.history.now c.args.work.now c.loop-start.work c.args.basis.now.measure c.requires.stands c.loop-start.invariant.grows c.requires.basis.measure) (term_grown c.args.history.now c.args.work.now c.loop-start.work c.args.test c.requires.stands c.loop-start.invariant.grows c.requires.test) c.loop-start.invariant.steps) c.in_ok-found.ensures.step }

pub returns-in_err-found-clause-grows : goal.returns-in_err-found-clause-grows
returns-in_err-found-clause-grows c = WorkGrows-trans c.args.history.now c.args.work.now c.loop-start.work c.step_of.new.work c.loop-start.invariant.grows c.step_of.ensures.grows

pub returns-in_err-add_step-clause-grows : goal.returns-in_err-add_step-clause-grows
returns-in_err-add_step-clause-grows c = WorkGrows-trans c.args.history.now c.args.work.now c.loop-start.work c.step_of.new.work c.loop-start.invariant.grows c.step_of.ensures.grows
