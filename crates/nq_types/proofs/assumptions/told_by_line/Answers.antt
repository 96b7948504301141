use Rattle.nq_kernel.proofs.GrowingLemmas.{WorkGrows-trans}
use Rattle.nq_lines.proofs.LineLemmas.{line_grown}
use Rattle.nq_lines.proofs.TermLemmas.{term_grown}
use Rattle.nq_types.proofs.TypeLemmas.{room_grown}
use Rattle.nq_types.proofs.assumptions.told_by_line.Goals as goal

pub carried-requires-clause-room : goal.carried-requires-clause-room
carried-requires-clause-room c = (room_grown c.args.history.now c.args.work.now c.equation_assumed.new.work c.requires.stands c.equation_assumed.ensures.grows c.requires.room)

pub carried-requires-clause-left : goal.carried-requires-clause-left
carried-requires-clause-left c = (term_grown c.args.history.now c.args.work.now c.equation_assumed.new.work c.args.t c.requires.stands c.equation_assumed.ensures.grows c.requires.left)

pub carried-requires-clause-right : goal.carried-requires-clause-right
carried-requires-clause-right c = (term_grown c.args.history.now c.args.work.now c.equation_assumed.new.work c.args.v c.requires.stands c.equation_assumed.ensures.grows c.requires.right)

pub carried-requires-clause-line : goal.carried-requires-clause-line
carried-requires-clause-line c = (line_grown c.args.history.now c.args.work.now c.equation_assumed.new.work c.args.line c.requires.stands c.equation_assumed.ensures.grows c.requires.line)

pub returns-in_err-told-clause-grows : goal.returns-in_err-told-clause-grows
returns-in_err-told-clause-grows c = (WorkGrows-trans c.args.history.now c.args.work.now c.equation_assumed.new.work c.carried.new.work c.equation_assumed.ensures.grows c.carried.ensures.grows)

pub returns-clause-grows : goal.returns-clause-grows
returns-clause-grows c = (WorkGrows-trans c.args.history.now c.args.work.now c.equation_assumed.new.work c.carried.new.work c.equation_assumed.ensures.grows c.carried.ensures.grows)
