use Rattle.nq_kernel.proofs.GrowingLemmas.{WorkGrows-refl, WorkGrows-trans}
use Rattle.nq_lines.proofs.TermLemmas.{term_grown}
use Rattle.nq_schemes.proofs.learnt.known_fall.Goals as goal

pub fall_at-requires-clause-falls : goal.fall_at-requires-clause-falls
fall_at-requires-clause-falls c = term_grown c.args.history.now c.args.work.now c.loop-place.work c.args.falls c.requires.stands c.loop-place.invariant.grows c.requires.falls

pub loop-place-init : goal.loop-place-init
loop-place-init c = record { grows = WorkGrows-refl c.args.history.now c.args.work.now c.requires.stands }

pub loop-place-preserved : goal.loop-place-preserved
loop-place-preserved c = record { grows = WorkGrows-trans c.args.history.now c.args.work.now c.loop-place.work c.fall_at.new.work c.loop-place.invariant.grows c.fall_at.ensures.grows }

pub returns-in_err-found-clause-grows : goal.returns-in_err-found-clause-grows
returns-in_err-found-clause-grows c = WorkGrows-trans c.args.history.now c.args.work.now c.loop-place.work c.fall_at.new.work c.loop-place.invariant.grows c.fall_at.ensures.grows

pub returns-then-is_some-clause-grows : goal.returns-then-is_some-clause-grows
returns-then-is_some-clause-grows c = WorkGrows-trans c.args.history.now c.args.work.now c.loop-place.work c.fall_at.new.work c.loop-place.invariant.grows c.fall_at.ensures.grows
