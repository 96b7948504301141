use Rattle.nq_kernel.proofs.GrowingLemmas.{WorkGrows-refl}
use Rattle.nq_linear.proofs.refuting.answered.Goals as goal

pub returns-in-Nothing-clause-grows : goal.returns-in-Nothing-clause-grows
returns-in-Nothing-clause-grows c = WorkGrows-refl c.args.history.now c.args.work.now c.requires.stands

pub returns-in-Passes-clause-grows : goal.returns-in-Passes-clause-grows
returns-in-Passes-clause-grows c = WorkGrows-refl c.args.history.now c.args.work.now c.requires.stands

pub returns-in-Wide-clause-grows : goal.returns-in-Wide-clause-grows
returns-in-Wide-clause-grows c = WorkGrows-refl c.args.history.now c.args.work.now c.requires.stands

pub returns-in-TooMany-clause-grows : goal.returns-in-TooMany-clause-grows
returns-in-TooMany-clause-grows c = WorkGrows-refl c.args.history.now c.args.work.now c.requires.stands
