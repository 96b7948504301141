use Rattle.nq_kernel.proofs.GrowingLemmas.{WorkGrows-trans}
use Rattle.nq_lines.proofs.LineLemmas.{line_grown}
use Rattle.nq_lines.proofs.TermLemmas.{term_grown}
use Rattle.nq_types.proofs.nesting.both_hold.Goals as goal

pub joined_fact-requires-clause-parts : goal.joined_fact-requires-clause-parts
joined_fact-requires-clause-parts c = record { test = (term_grown c.args.history.now c.args.work.now c.falsity.new.work c.args.fact.term c.requires.stands c.falsity.ensures.grows c.requires.fact.term); first = (term_grown c.args.history.now c.args.work.now c.falsity.new.work c.args.rest.term c.requires.stands c.falsity.ensures.grows c.requires.rest.term); second = c.in_ok-second.ensures.over }

pub joined_fact-requires-clause-first : goal.joined_fact-requires-clause-first
joined_fact-requires-clause-first c = (line_grown c.args.history.now c.args.work.now c.falsity.new.work c.args.rest.line c.requires.stands c.falsity.ensures.grows c.requires.rest.line)

pub joined_fact-requires-clause-second : goal.joined_fact-requires-clause-second
joined_fact-requires-clause-second c = (line_grown c.args.history.now c.args.work.now c.falsity.new.work c.args.fact.line c.requires.stands c.falsity.ensures.grows c.requires.fact.line)

pub returns-clause-grows : goal.returns-clause-grows
returns-clause-grows c = (WorkGrows-trans c.args.history.now c.args.work.now c.falsity.new.work c.joined_fact.new.work c.falsity.ensures.grows c.joined_fact.ensures.grows)
