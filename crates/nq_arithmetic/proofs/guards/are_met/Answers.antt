use Rattle.nq_kernel.proofs.GrowingLemmas.{WorkGrows-refl, WorkGrows-trans}
use Rattle.nq_arithmetic.proofs.Lemmas.{all_grown, operands_grown}
use Rattle.nq_arithmetic.proofs.guards.are_met.Goals as goal

pub loop-guard-init : goal.loop-guard-init
loop-guard-init c = WorkGrows-refl c.args.history.now c.args.work.now c.requires.stands

pub is_met_too-requires-clause-stands : goal.is_met_too-requires-clause-stands
is_met_too-requires-clause-stands c = c.loop-guard.invariant.stands

pub is_met_too-requires-clause-literals : goal.is_met_too-requires-clause-literals
is_met_too-requires-clause-literals c = all_grown c.args.history.now c.args.work.now c.loop-guard.work c.requires.stands c.loop-guard.invariant c.args.literals.now c.requires.literals

pub is_met_too-requires-clause-at : goal.is_met_too-requires-clause-at
is_met_too-requires-clause-at c = operands_grown c.args.history.now c.args.work.now c.loop-guard.work c.requires.stands c.loop-guard.invariant c.args.at c.requires.at

pub returns-in_err-met-clause-grows : goal.returns-in_err-met-clause-grows
returns-in_err-met-clause-grows c = (WorkGrows-trans c.args.history.now c.args.work.now c.loop-guard.work c.is_met_too.new.work c.loop-guard.invariant c.is_met_too.ensures.grows)

pub loop-guard-preserved : goal.loop-guard-preserved
loop-guard-preserved c = (WorkGrows-trans c.args.history.now c.args.work.now c.loop-guard.work c.is_met_too.new.work c.loop-guard.invariant c.is_met_too.ensures.grows)
