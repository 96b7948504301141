use Rattle.nq_kernel.proofs.GrowingLemmas.{WorkGrows-trans}
use Rattle.nq_lines.proofs.LineLemmas.{line_grown}
use Rattle.nq_lines.proofs.TermLemmas.{term_grown}
use Rattle.nq_types.proofs.GuessLemmas.{parts_grown}
use Rattle.nq_types.proofs.nesting.joined_fact.Goals as goal

pub join-requires-clause-first : goal.join-requires-clause-first
join-requires-clause-first c = (line_grown c.args.history.now c.args.work.now c.condition.new.work c.args.first c.requires.stands c.condition.ensures.grows c.requires.first)

pub join-requires-clause-second : goal.join-requires-clause-second
join-requires-clause-second c = (line_grown c.args.history.now c.args.work.now c.condition.new.work c.args.second c.requires.stands c.condition.ensures.grows c.requires.second)

pub join-requires-clause-parts : goal.join-requires-clause-parts
join-requires-clause-parts c = (parts_grown c.args.history.now c.args.work.now c.condition.new.work c.requires.stands c.condition.ensures.grows c.args.parts c.requires.parts)

pub returns-in_err-line-clause-grows : goal.returns-in_err-line-clause-grows
returns-in_err-line-clause-grows c = (WorkGrows-trans c.args.history.now c.args.work.now c.condition.new.work c.join.new.work c.condition.ensures.grows c.join.ensures.grows)

pub returns-clause-grows : goal.returns-clause-grows
returns-clause-grows c = (WorkGrows-trans c.args.history.now c.args.work.now c.condition.new.work c.join.new.work c.condition.ensures.grows c.join.ensures.grows)

pub returns-clause-fact : goal.returns-clause-fact
returns-clause-fact c = record { term = (term_grown c.args.history.now c.condition.new.work c.join.new.work c.in_ok-term.term c.condition.ensures.grows.stands c.join.ensures.grows c.in_ok-term.ensures.over); line = c.in_ok-line.ensures.stands }
