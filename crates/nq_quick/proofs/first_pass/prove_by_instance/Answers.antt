use Rattle.nq_quick.proofs.LineLemmas.{grown_refl}
use Rattle.nq_quick.proofs.first_pass.prove_by_instance.Goals as goal

pub returns-in_err-found-clause-grows : goal.returns-in_err-found-clause-grows
returns-in_err-found-clause-grows c = grown_refl c.args.history.now c.args.work.now c.requires.stands

pub returns-in-None-clause-grows : goal.returns-in-None-clause-grows
returns-in-None-clause-grows c = grown_refl c.args.history.now c.args.work.now c.requires.stands
