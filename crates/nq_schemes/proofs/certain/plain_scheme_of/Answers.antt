use Rattle.nq_kernel.proofs.GrowingLemmas.{WorkGrows-refl}
use Rattle.nq_schemes.proofs.certain.plain_scheme_of.Goals as goal

pub returns-in_err-call-clause-grows : goal.returns-in_err-call-clause-grows
returns-in_err-call-clause-grows c = WorkGrows-refl c.args.history.now c.args.work.now c.requires.stands
