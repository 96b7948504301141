use Rattle.nq_kernel.proofs.GrowingLemmas.{WorkGrows-refl, WorkGrows-trans}
use Rattle.nq_lines.proofs.TermLemmas.{term_grown}
use Rattle.nq_schemes.proofs.learnt.known_ordinal.Goals as goal

pub ordinal_at_place-requires-clause-measure : goal.ordinal_at_place-requires-clause-measure
ordinal_at_place-requires-clause-measure c = term_grown c.args.history.now c.args.work.now c.loop-place.work c.args.measure c.requires.stands c.loop-place.invariant.grows c.requires.measure

pub loop-place-init : goal.loop-place-init
loop-place-init c = record { grows = WorkGrows-refl c.args.history.now c.args.work.now c.requires.stands }

pub loop-place-preserved : goal.loop-place-preserved
loop-place-preserved c = record { grows = WorkGrows-trans c.args.history.now c.args.work.now c.loop-place.work c.ordinal_at_place.new.work c.loop-place.invariant.grows c.ordinal_at_place.ensures.grows }

pub returns-in_err-found-clause-grows : goal.returns-in_err-found-clause-grows
returns-in_err-found-clause-grows c = WorkGrows-trans c.args.history.now c.args.work.now c.loop-place.work c.ordinal_at_place.new.work c.loop-place.invariant.grows c.ordinal_at_place.ensures.grows

pub returns-then-is_some-clause-grows : goal.returns-then-is_some-clause-grows
returns-then-is_some-clause-grows c = WorkGrows-trans c.args.history.now c.args.work.now c.loop-place.work c.ordinal_at_place.new.work c.loop-place.invariant.grows c.ordinal_at_place.ensures.grows
