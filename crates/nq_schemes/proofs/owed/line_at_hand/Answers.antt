use Rattle.nq_kernel.proofs.GrowingLemmas.{WorkGrows-trans}
use Rattle.nq_lines.proofs.FactLemmas.{own_terms_grown}
use Rattle.nq_schemes.proofs.GrownLemmas.{terms_grown}
use Rattle.nq_schemes.proofs.owed.line_at_hand.Goals as goal

pub shown_line-requires-clause-own : goal.shown_line-requires-clause-own
shown_line-requires-clause-own c = own_terms_grown c.args.history.now c.args.work.now c.known_fall.new.work c.known_fall.ensures.grows c.requires.stands c.requires.own

pub shown_line-requires-clause-goal : goal.shown_line-requires-clause-goal
shown_line-requires-clause-goal c = terms_grown c.args.history.now c.args.work.now c.known_fall.new.work c.requires.stands c.known_fall.ensures.grows c.args.goal.now c.requires.goal

pub returns-in-None-clause-grows : goal.returns-in-None-clause-grows
returns-in-None-clause-grows c = WorkGrows-trans c.args.history.now c.args.work.now c.known_fall.new.work c.shown_line.new.work c.known_fall.ensures.grows c.shown_line.ensures.grows
