use Rattle.nq_kernel.proofs.GrowingLemmas.{WorkGrows-trans}
use Rattle.nq_lines.proofs.TermLemmas.{term_grown}
use Rattle.nq_schemes.proofs.MadeLemmas.{leads_stands}
use Rattle.nq_schemes.proofs.starting.denial_of.Goals as goal

pub opposites-requires-clause-term : goal.opposites-requires-clause-term
opposites-requires-clause-term c = term_grown c.args.history.now c.args.work.now c.deny.new.work c.args.t c.requires.stands c.deny.ensures.grows c.requires.term

pub returns-in_err-line-clause-grows : goal.returns-in_err-line-clause-grows
returns-in_err-line-clause-grows c = WorkGrows-trans c.args.history.now c.args.work.now c.deny.new.work c.opposites.new.work c.deny.ensures.grows c.opposites.ensures.grows

pub returns-clause-grows : goal.returns-clause-grows
returns-clause-grows c = WorkGrows-trans c.args.history.now c.args.work.now c.deny.new.work c.opposites.new.work c.deny.ensures.grows c.opposites.ensures.grows

pub returns-clause-denied : goal.returns-clause-denied
returns-clause-denied c = record { term = term_grown c.args.history.now c.deny.new.work c.opposites.new.work c.in_ok-term.term c.deny.ensures.grows.stands c.opposites.ensures.grows c.in_ok-term.ensures.over; line = leads_stands c.opposites.new.work c.in_ok-line.line _ _ c.in_ok-line.ensures.line }
