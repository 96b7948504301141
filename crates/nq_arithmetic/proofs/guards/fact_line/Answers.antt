use Rattle.nq_kernel.proofs.GrowingLemmas.{WorkGrows-trans}
use Rattle.nq_arithmetic.proofs.Lemmas.{all_grown, operands_grown}
use Rattle.nq_arithmetic.proofs.guards.fact_line.Goals as goal

pub loop-guard-init : goal.loop-guard-init
loop-guard-init c = record { grows = c.law_at.ensures.grows; line = c.in_ok-shown.ensures.line }

pub without_guard-requires-clause-stands : goal.without_guard-requires-clause-stands
without_guard-requires-clause-stands c = c.loop-guard.invariant.grows.stands

pub without_guard-requires-clause-literals : goal.without_guard-requires-clause-literals
without_guard-requires-clause-literals c = all_grown c.args.history.now c.args.work.now c.loop-guard.work c.requires.stands c.loop-guard.invariant.grows c.args.literals.now c.requires.literals

pub without_guard-requires-clause-at : goal.without_guard-requires-clause-at
without_guard-requires-clause-at c = operands_grown c.args.history.now c.args.work.now c.loop-guard.work c.requires.stands c.loop-guard.invariant.grows c.args.at c.requires.at

pub without_guard-requires-clause-line : goal.without_guard-requires-clause-line
without_guard-requires-clause-line c = c.loop-guard.invariant.line

pub returns-in_err-line-clause-grows : goal.returns-in_err-line-clause-grows
returns-in_err-line-clause-grows c = (WorkGrows-trans c.args.history.now c.args.work.now c.loop-guard.work c.without_guard.new.work c.loop-guard.invariant.grows c.without_guard.ensures.grows)

pub loop-guard-preserved : goal.loop-guard-preserved
loop-guard-preserved c = record { grows = (WorkGrows-trans c.args.history.now c.args.work.now c.loop-guard.work c.without_guard.new.work c.loop-guard.invariant.grows c.without_guard.ensures.grows); line = c.in_ok-line.ensures.line }
