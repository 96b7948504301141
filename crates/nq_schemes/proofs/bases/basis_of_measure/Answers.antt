use Rattle.nq_kernel.proofs.GrowingLemmas.{WorkGrows-trans}
use Rattle.nq_schemes.proofs.GrownLemmas.{opened_grown, ready_grown}
use Rattle.nq_schemes.proofs.bases.basis_of_measure.Goals as goal

pub basis_with-requires-clause-ready : goal.basis_with-requires-clause-ready
basis_with-requires-clause-ready c = ready_grown c.args.history.now c.args.work.now c.ordinal_of_measure.new.work c.requires.stands c.ordinal_of_measure.ensures.grows c.requires.ready

pub basis_with-requires-clause-opened : goal.basis_with-requires-clause-opened
basis_with-requires-clause-opened c = opened_grown c.args.history.now c.args.work.now c.ordinal_of_measure.new.work c.requires.stands c.ordinal_of_measure.ensures.grows c.args.opened.items c.requires.opened

pub returns-in_err-basis-in-Some-clause-grows : goal.returns-in_err-basis-in-Some-clause-grows
returns-in_err-basis-in-Some-clause-grows c = WorkGrows-trans c.args.history.now c.args.work.now c.ordinal_of_measure.new.work c.basis_with.new.work c.ordinal_of_measure.ensures.grows c.basis_with.ensures.grows

pub returns-in_ok-basis-in-Some-clause-grows : goal.returns-in_ok-basis-in-Some-clause-grows
returns-in_ok-basis-in-Some-clause-grows c = WorkGrows-trans c.args.history.now c.args.work.now c.ordinal_of_measure.new.work c.basis_with.new.work c.ordinal_of_measure.ensures.grows c.basis_with.ensures.grows
