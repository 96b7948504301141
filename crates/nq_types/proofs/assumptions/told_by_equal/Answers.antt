use Rattle.nq_kernel.proofs.GrowingLemmas.{WorkGrows-trans}
use Rattle.nq_lines.proofs.TermLemmas.{term_grown}
use Rattle.nq_types.proofs.TypeLemmas.{room_grown}
use Rattle.nq_types.proofs.assumptions.told_by_equal.Goals as goal

pub told_by_line-requires-clause-room : goal.told_by_line-requires-clause-room
told_by_line-requires-clause-room c = (room_grown c.args.history.now c.args.work.now c.exact_line.new.work c.requires.stands c.exact_line.ensures.grows c.requires.room)

pub told_by_line-requires-clause-assumption : goal.told_by_line-requires-clause-assumption
told_by_line-requires-clause-assumption c = (term_grown c.args.history.now c.args.work.now c.exact_line.new.work c.args.a c.requires.stands c.exact_line.ensures.grows c.requires.assumption)

pub told_by_line-requires-clause-left : goal.told_by_line-requires-clause-left
told_by_line-requires-clause-left c = (term_grown c.args.history.now c.args.work.now c.exact_line.new.work c.args.t c.requires.stands c.exact_line.ensures.grows c.requires.left)

pub told_by_line-requires-clause-right : goal.told_by_line-requires-clause-right
told_by_line-requires-clause-right c = (term_grown c.args.history.now c.args.work.now c.exact_line.new.work c.args.v c.requires.stands c.exact_line.ensures.grows c.requires.right)

pub returns-in-Some-clause-grows : goal.returns-in-Some-clause-grows
returns-in-Some-clause-grows c = (WorkGrows-trans c.args.history.now c.args.work.now c.exact_line.new.work c.told_by_line.new.work c.exact_line.ensures.grows c.told_by_line.ensures.grows)
