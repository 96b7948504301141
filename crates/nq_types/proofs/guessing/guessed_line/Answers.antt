use Rattle.nq_kernel.proofs.GrowingLemmas.{WorkGrows-trans}
use Rattle.nq_lines.proofs.TermLemmas.{term_grown}
use Rattle.nq_types.proofs.TypeLemmas.{all_grown, ready_grown, room_grown}
use Rattle.nq_types.proofs.guessing.guessed_line.Goals as goal

pub told_line-requires-clause-can : goal.told_line-requires-clause-can
told_line-requires-clause-can c = record { stands = c.requires.stands; ready = c.requires.ready; room = c.requires.room; assumed = c.requires.assumed }

pub nest_line-requires-clause-ready : goal.nest_line-requires-clause-ready
nest_line-requires-clause-ready c = (ready_grown c.args.history.now c.args.work.now c.told_line.new.work c.requires.stands c.told_line.ensures.grows c.requires.ready)

pub nest_line-requires-clause-room : goal.nest_line-requires-clause-room
nest_line-requires-clause-room c = (room_grown c.args.history.now c.args.work.now c.told_line.new.work c.requires.stands c.told_line.ensures.grows c.requires.room)

pub nest_line-requires-clause-assumed : goal.nest_line-requires-clause-assumed
nest_line-requires-clause-assumed c = (all_grown c.args.history.now c.args.work.now c.told_line.new.work c.requires.stands c.told_line.ensures.grows c.args.assumed.now c.requires.assumed)

pub nest_line-requires-clause-term : goal.nest_line-requires-clause-term
nest_line-requires-clause-term c = (term_grown c.args.history.now c.args.work.now c.told_line.new.work c.args.t c.requires.stands c.told_line.ensures.grows c.requires.term)

pub returns-in-None-clause-grows : goal.returns-in-None-clause-grows
returns-in-None-clause-grows c = (WorkGrows-trans c.args.history.now c.args.work.now c.told_line.new.work c.nest_line.new.work c.told_line.ensures.grows c.nest_line.ensures.grows)
