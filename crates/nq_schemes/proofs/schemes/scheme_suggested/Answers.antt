use Rattle.nq_kernel.proofs.GrowingLemmas.{WorkGrows-trans}
use Rattle.nq_schemes.proofs.GrownLemmas.{ready_grown, terms_grown}
use Rattle.nq_schemes.proofs.schemes.scheme_suggested.Goals as goal

pub found_or_plain-requires-clause-ready : goal.found_or_plain-requires-clause-ready
found_or_plain-requires-clause-ready c = ready_grown c.args.history.now c.args.work.now c.scheme_of_calls.new.work c.requires.stands c.scheme_of_calls.ensures.grows c.requires.ready

pub found_or_plain-requires-clause-goal : goal.found_or_plain-requires-clause-goal
found_or_plain-requires-clause-goal c = terms_grown c.args.history.now c.args.work.now c.scheme_of_calls.new.work c.requires.stands c.scheme_of_calls.ensures.grows c.args.goal.now c.requires.goal

pub returns-clause-grows : goal.returns-clause-grows
returns-clause-grows c = WorkGrows-trans c.args.history.now c.args.work.now c.scheme_of_calls.new.work c.found_or_plain.new.work c.scheme_of_calls.ensures.grows c.found_or_plain.ensures.grows
