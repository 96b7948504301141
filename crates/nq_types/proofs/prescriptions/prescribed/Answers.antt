use Rattle.nq_kernel.proofs.GrowingLemmas.{WorkGrows-refl}
use Rattle.nq_types.proofs.prescriptions.prescribed.Goals as goal

pub returns-in-None-clause-grows : goal.returns-in-None-clause-grows
returns-in-None-clause-grows c = WorkGrows-refl c.args.history.now c.args.work.now c.requires.stands

pub known_at-requires-clause-own : goal.known_at-requires-clause-own
known_at-requires-clause-own c = c.own_terms.ensures c.args.work.now.bank c.args.history.now c.requires.ready
