use Rattle.nq_kernel.proofs.GrowingLemmas.{WorkGrows-refl}
use Rattle.nq_arithmetic.proofs.arithmetic.by_literal.Goals as goal

pub returns-in-None-clause-grows : goal.returns-in-None-clause-grows
returns-in-None-clause-grows c = WorkGrows-refl c.args.history.now c.args.work.now c.requires.stands

pub returns-then-not-is_call_of-clause-grows : goal.returns-then-not-is_call_of-clause-grows
returns-then-not-is_call_of-clause-grows c = WorkGrows-refl c.args.history.now c.args.work.now c.requires.stands
