use Rattle.nq_kernel.proofs.GrowingLemmas.{WorkGrows-refl, WorkGrows-trans}
use Rattle.nq_lines.proofs.TermLemmas.{term_grown}
use Rattle.nq_types.proofs.TypeLemmas.{all_grown, ready_grown, room_grown}
use Rattle.nq_types.proofs.nesting.nest_of.Goals as goal

pub loop-done-init : goal.loop-done-init
loop-done-init c = record { nest = tt; grows = WorkGrows-refl c.args.history.now c.args.work.now c.requires.stands }

pub nested_at-requires-clause-ready : goal.nested_at-requires-clause-ready
nested_at-requires-clause-ready c = (ready_grown c.args.history.now c.args.work.now c.loop-done.work c.requires.stands c.loop-done.invariant.grows c.requires.ready)

pub nested_at-requires-clause-room : goal.nested_at-requires-clause-room
nested_at-requires-clause-room c = (room_grown c.args.history.now c.args.work.now c.loop-done.work c.requires.stands c.loop-done.invariant.grows c.requires.room)

pub nested_at-requires-clause-assumed : goal.nested_at-requires-clause-assumed
nested_at-requires-clause-assumed c = (all_grown c.args.history.now c.args.work.now c.loop-done.work c.requires.stands c.loop-done.invariant.grows c.args.assumed.now c.requires.assumed)

pub nested_at-requires-clause-term : goal.nested_at-requires-clause-term
nested_at-requires-clause-term c = (term_grown c.args.history.now c.args.work.now c.loop-done.work c.args.t c.requires.stands c.loop-done.invariant.grows c.requires.term)

pub returns-in_err-nest-clause-grows : goal.returns-in_err-nest-clause-grows
returns-in_err-nest-clause-grows c = (WorkGrows-trans c.args.history.now c.args.work.now c.loop-done.work c.nested_at.new.work c.loop-done.invariant.grows c.nested_at.ensures.grows)

pub loop-done-preserved : goal.loop-done-preserved
loop-done-preserved c = record { nest = c.in_ok-nest.ensures.fact; grows = (WorkGrows-trans c.args.history.now c.args.work.now c.loop-done.work c.nested_at.new.work c.loop-done.invariant.grows c.nested_at.ensures.grows) }
