use Rattle.nq_eval.proofs.LineLemmas.{grown_trans}
use Rattle.nq_eval.proofs.ClosingLemmas.{usable_after}
use Rattle.nq_eval.proofs.openings.open_call.Goals as goal

pub add_opening-requires-clause-term : goal.add_opening-requires-clause-term
add_opening-requires-clause-term c = usable_after c.args.history.now c.args.work.now c.opening_for.new.work c.requires.stands c.opening_for.ensures.grows c.args.call.now.term c.requires.call.term

pub returns-in_err-add_opening-in-Some-clause-grows : goal.returns-in_err-add_opening-in-Some-clause-grows
returns-in_err-add_opening-in-Some-clause-grows c = grown_trans c.args.history.now c.args.work.now c.opening_for.new.work c.add_opening.new.work c.opening_for.ensures.grows c.add_opening.ensures.grows

pub returns-in_ok-add_opening-in-Some-clause-grows : goal.returns-in_ok-add_opening-in-Some-clause-grows
returns-in_ok-add_opening-in-Some-clause-grows c = grown_trans c.args.history.now c.args.work.now c.opening_for.new.work c.add_opening.new.work c.opening_for.ensures.grows c.add_opening.ensures.grows
