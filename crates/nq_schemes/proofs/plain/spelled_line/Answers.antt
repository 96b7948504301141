use Rattle.nq_kernel.proofs.GrowingLemmas.{WorkGrows-refl, WorkGrows-trans}
use Rattle.nq_schemes.proofs.GrownLemmas.{terms_grown}
use Rattle.nq_schemes.proofs.plain.spelled_line.Goals as goal

pub spelled-requires-clause-literal : goal.spelled-requires-clause-literal
spelled-requires-clause-literal c = terms_grown c.args.history.now c.args.work.now c.loop-literal.work c.requires.stands c.loop-literal.invariant.grows c.args.goal.now c.requires.goal c.loop-literal.literal-index (record { 0 = 0 }) c.loop-literal-test.true

pub loop-literal-init : goal.loop-literal-init
loop-literal-init c = record { grows = WorkGrows-refl c.args.history.now c.args.work.now c.requires.stands; line = c.requires.line }

pub loop-literal-preserved : goal.loop-literal-preserved
loop-literal-preserved c = record { grows = WorkGrows-trans c.args.history.now c.args.work.now c.loop-literal.work c.spelled.new.work c.loop-literal.invariant.grows c.spelled.ensures.grows; line = c.in_ok-last.ensures.line }

pub returns-in_err-last-clause-grows : goal.returns-in_err-last-clause-grows
returns-in_err-last-clause-grows c = WorkGrows-trans c.args.history.now c.args.work.now c.loop-literal.work c.spelled.new.work c.loop-literal.invariant.grows c.spelled.ensures.grows
