use Rattle.nq_kernel.proofs.GrowingLemmas.{WorkGrows-refl}
use Rattle.nq_elim.proofs.eliminating.eliminate.Goals as goal

pub returns-in_err-candidates-clause-grows : goal.returns-in_err-candidates-clause-grows
returns-in_err-candidates-clause-grows c = WorkGrows-refl c.args.history.now c.args.work.now c.requires.stands

pub from_rank-requires-clause-ready : goal.from_rank-requires-clause-ready
from_rank-requires-clause-ready c = c.own_terms.ensures c.args.work.now.bank c.args.history.now c.requires.ready
