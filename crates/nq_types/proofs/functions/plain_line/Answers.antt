use Rattle.nq_kernel.proofs.GrowingLemmas.{WorkGrows-refl}
use Rattle.nq_types.proofs.functions.plain_line.Goals as goal

pub returns-in-Num-clause-grows : goal.returns-in-Num-clause-grows
returns-in-Num-clause-grows c = WorkGrows-refl c.args.history.now c.args.work.now c.requires.stands

pub returns-in-Var-clause-grows : goal.returns-in-Var-clause-grows
returns-in-Var-clause-grows c = WorkGrows-refl c.args.history.now c.args.work.now c.requires.stands
