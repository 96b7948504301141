use Rattle.nq_bank.specs.Content.{term_at, terms_at}
use Rattle.nq_kernel.proofs.GrowingLemmas.{WorkGrows-refl}
use Rattle.nq_reduce.proofs.RewritingLemmas.{unused}
use Rattle.nq_reduce.proofs.whole.close.Goals as goal

pub returns-in-None-clause-ok : goal.returns-in-None-clause-ok
returns-in-None-clause-ok c = unused c.args.history.now c.args.work.now (terms_at c.args.work.now.bank c.args.assumed.now) (term_at c.args.work.now.bank c.args.test) (term_at c.args.work.now.bank c.args.t) c.args.one c.in-None.is c.requires.first

pub returns-in-None-clause-grows : goal.returns-in-None-clause-grows
returns-in-None-clause-grows c = WorkGrows-refl c.args.history.now c.args.work.now c.requires.can.stands
