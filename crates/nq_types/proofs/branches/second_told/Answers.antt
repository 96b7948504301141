use Rattle.nq_kernel.proofs.GrowingLemmas.{WorkGrows-trans}
use Rattle.nq_lines.proofs.LineLemmas.{line_grown, only_stands}
use Rattle.nq_lines.proofs.TermLemmas.{term_grown}
use Rattle.nq_types.proofs.TypeLemmas.{room_grown}
use Rattle.nq_types.proofs.branches.second_told.Goals as goal

pub carried-requires-clause-room : goal.carried-requires-clause-room
carried-requires-clause-room c = (room_grown c.args.history.now c.args.work.now c.second_chosen.new.work c.requires.stands c.second_chosen.ensures.grows c.requires.room)

pub carried-requires-clause-left : goal.carried-requires-clause-left
carried-requires-clause-left c = (term_grown c.args.history.now c.args.work.now c.second_chosen.new.work c.args.t c.requires.stands c.second_chosen.ensures.grows c.requires.term)

pub carried-requires-clause-right : goal.carried-requires-clause-right
carried-requires-clause-right c = (term_grown c.args.history.now c.args.work.now c.second_chosen.new.work c.args.parts.second c.requires.stands c.second_chosen.ensures.grows c.requires.parts.second)

pub carried-requires-clause-equation : goal.carried-requires-clause-equation
carried-requires-clause-equation c = (only_stands c.second_chosen.new.work c.in_ok-law.law _ c.in_ok-law.ensures.line)

pub carried-requires-clause-line : goal.carried-requires-clause-line
carried-requires-clause-line c = (line_grown c.args.history.now c.args.work.now c.second_chosen.new.work c.args.line c.requires.stands c.second_chosen.ensures.grows c.requires.line)

pub returns-in_err-told-clause-grows : goal.returns-in_err-told-clause-grows
returns-in_err-told-clause-grows c = (WorkGrows-trans c.args.history.now c.args.work.now c.second_chosen.new.work c.carried.new.work c.second_chosen.ensures.grows c.carried.ensures.grows)

pub undeny-requires-clause-term : goal.undeny-requires-clause-term
undeny-requires-clause-term c = (term_grown c.args.history.now c.args.work.now c.carried.new.work c.args.parts.test c.requires.stands (WorkGrows-trans c.args.history.now c.args.work.now c.second_chosen.new.work c.carried.new.work c.second_chosen.ensures.grows c.carried.ensures.grows) c.requires.parts.test)

pub returns-clause-grows : goal.returns-clause-grows
returns-clause-grows c = (WorkGrows-trans c.args.history.now c.args.work.now c.second_chosen.new.work c.undeny.new.work c.second_chosen.ensures.grows (WorkGrows-trans c.args.history.now c.second_chosen.new.work c.carried.new.work c.undeny.new.work c.carried.ensures.grows c.undeny.ensures.grows))
