use Rattle.nq_kernel.proofs.GrowingLemmas.{WorkGrows-trans}
use Rattle.nq_schemes.proofs.GrownLemmas.{opened_grown, ready_grown}
use Rattle.nq_schemes.proofs.certain.plain_basis.Goals as goal

pub basis_with-requires-clause-ready : goal.basis_with-requires-clause-ready
basis_with-requires-clause-ready c = ready_grown c.args.history.now c.args.work.now c.certain_ordinal.new.work c.requires.stands c.certain_ordinal.ensures.grows c.requires.ready

pub basis_with-requires-clause-opened : goal.basis_with-requires-clause-opened
basis_with-requires-clause-opened c = opened_grown c.args.history.now c.args.work.now c.certain_ordinal.new.work c.requires.stands c.certain_ordinal.ensures.grows c.args.opened.items c.requires.opened

pub returns-clause-grows : goal.returns-clause-grows
returns-clause-grows c = WorkGrows-trans c.args.history.now c.args.work.now c.certain_ordinal.new.work c.basis_with.new.work c.certain_ordinal.ensures.grows c.basis_with.ensures.grows
