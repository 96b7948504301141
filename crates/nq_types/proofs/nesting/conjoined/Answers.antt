use Rattle.nq_kernel.proofs.GrowingLemmas.{WorkGrows-trans}
use Rattle.nq_lines.proofs.TermLemmas.{term_grown}
use Rattle.nq_types.proofs.GuessLemmas.{guessed_grown}
use Rattle.nq_types.proofs.TypeLemmas.{ready_grown}
use Rattle.nq_types.proofs.nesting.conjoined.Goals as goal

pub truth_of-requires-clause-fact : goal.truth_of-requires-clause-fact
truth_of-requires-clause-fact c = (guessed_grown c.args.history.now c.args.work.now c.conjunction.new.work c.requires.stands c.conjunction.ensures.grows c.args.rest c.requires.rest)

pub returns-in_err-held-clause-grows : goal.returns-in_err-held-clause-grows
returns-in_err-held-clause-grows c = (WorkGrows-trans c.args.history.now c.args.work.now c.conjunction.new.work c.truth_of.new.work c.conjunction.ensures.grows c.truth_of.ensures.grows)

pub both_hold-requires-clause-fact : goal.both_hold-requires-clause-fact
both_hold-requires-clause-fact c = (guessed_grown c.args.history.now c.args.work.now c.truth_of.new.work c.requires.stands (WorkGrows-trans c.args.history.now c.args.work.now c.conjunction.new.work c.truth_of.new.work c.conjunction.ensures.grows c.truth_of.ensures.grows) c.args.fact c.requires.fact)

pub returns-in_err-body-clause-grows : goal.returns-in_err-body-clause-grows
returns-in_err-body-clause-grows c = (WorkGrows-trans c.args.history.now c.args.work.now c.conjunction.new.work c.both_hold.new.work c.conjunction.ensures.grows (WorkGrows-trans c.args.history.now c.conjunction.new.work c.truth_of.new.work c.both_hold.new.work c.truth_of.ensures.grows c.both_hold.ensures.grows))

pub closed-requires-clause-ready : goal.closed-requires-clause-ready
closed-requires-clause-ready c = (ready_grown c.args.history.now c.args.work.now c.both_hold.new.work c.requires.stands (WorkGrows-trans c.args.history.now c.args.work.now c.conjunction.new.work c.both_hold.new.work c.conjunction.ensures.grows (WorkGrows-trans c.args.history.now c.conjunction.new.work c.truth_of.new.work c.both_hold.new.work c.truth_of.ensures.grows c.both_hold.ensures.grows)) c.requires.ready)

pub closed-requires-clause-term : goal.closed-requires-clause-term
closed-requires-clause-term c = (term_grown c.args.history.now c.conjunction.new.work c.both_hold.new.work c.in_ok-term.term c.conjunction.ensures.grows.stands (WorkGrows-trans c.args.history.now c.conjunction.new.work c.truth_of.new.work c.both_hold.new.work c.truth_of.ensures.grows c.both_hold.ensures.grows) c.in_ok-term.ensures.over)

pub returns-clause-grows : goal.returns-clause-grows
returns-clause-grows c = (WorkGrows-trans c.args.history.now c.args.work.now c.conjunction.new.work c.closed.new.work c.conjunction.ensures.grows (WorkGrows-trans c.args.history.now c.conjunction.new.work c.truth_of.new.work c.closed.new.work c.truth_of.ensures.grows (WorkGrows-trans c.args.history.now c.truth_of.new.work c.both_hold.new.work c.closed.new.work c.both_hold.ensures.grows c.closed.ensures.grows)))
