use Rattle.nq_kernel.proofs.GrowingLemmas.{WorkGrows-trans}
use Rattle.nq_types.proofs.TypeLemmas.{room_grown, shown_before}
use Rattle.nq_types.proofs.types.guessed_type.Goals as goal

pub told_type-requires-clause-room : goal.told_type-requires-clause-room
told_type-requires-clause-room c = room_grown c.args.history.now c.args.work.now c.guessed_line.new.work c.requires.stands c.guessed_line.ensures.grows c.requires.room

pub returns-clause-shown : goal.returns-clause-shown
returns-clause-shown c = shown_before c.args.history.now c.args.work.now c.guessed_line.new.work c.requires.stands c.guessed_line.ensures.grows c.told_type.new.work c.args.assumed.now c.args.t c.told_type.result c.requires.assumed c.requires.term c.told_type.ensures.shown

pub returns-clause-grows : goal.returns-clause-grows
returns-clause-grows c = (WorkGrows-trans c.args.history.now c.args.work.now c.guessed_line.new.work c.told_type.new.work c.guessed_line.ensures.grows c.told_type.ensures.grows)
