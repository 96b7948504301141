use Rattle.nq_kernel.proofs.GrowingLemmas.{WorkGrows-refl, WorkGrows-trans}
use Rattle.nq_lines.proofs.TermLemmas.{term_grown}
use Rattle.nq_types.proofs.TypeLemmas.{room_grown}
use Rattle.nq_types.proofs.replacing.said_everywhere.Goals as goal

pub loop-done-init : goal.loop-done-init
loop-done-init c = record { line = c.requires.line; grows = WorkGrows-refl c.args.history.now c.args.work.now c.requires.stands }

pub said_there-requires-clause-room : goal.said_there-requires-clause-room
said_there-requires-clause-room c = (room_grown c.args.history.now c.args.work.now c.loop-done.work c.requires.stands c.loop-done.invariant.grows c.requires.room)

pub said_there-requires-clause-term : goal.said_there-requires-clause-term
said_there-requires-clause-term c = (term_grown c.args.history.now c.args.work.now c.loop-done.work c.args.t c.requires.stands c.loop-done.invariant.grows c.requires.term)

pub returns-in_err-said-clause-grows : goal.returns-in_err-said-clause-grows
returns-in_err-said-clause-grows c = (WorkGrows-trans c.args.history.now c.args.work.now c.loop-done.work c.said_there.new.work c.loop-done.invariant.grows c.said_there.ensures.grows)

pub loop-done-preserved : goal.loop-done-preserved
loop-done-preserved c = record { line = c.in_ok-said.ensures.line; grows = (WorkGrows-trans c.args.history.now c.args.work.now c.loop-done.work c.said_there.new.work c.loop-done.invariant.grows c.said_there.ensures.grows) }
