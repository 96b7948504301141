use Rattle.nq_kernel.proofs.GrowingLemmas.{WorkGrows-trans}
use Rattle.nq_schemes.proofs.GrownLemmas.{ready_grown}
use Rattle.nq_schemes.proofs.schemes.scheme_of_calls.Goals as goal

pub scheme_of_place-requires-clause-ready : goal.scheme_of_place-requires-clause-ready
scheme_of_place-requires-clause-ready c = ready_grown c.args.history.now c.args.work.now c.all_opened.new.work c.requires.stands c.all_opened.ensures.grows c.requires.ready

pub returns-clause-grows : goal.returns-clause-grows
returns-clause-grows c = WorkGrows-trans c.args.history.now c.args.work.now c.all_opened.new.work c.scheme_of_place.new.work c.all_opened.ensures.grows c.scheme_of_place.ensures.grows
