use Rattle.nq_kernel.proofs.GrowingLemmas.{WorkGrows-refl}
use Rattle.nq_rewrite.proofs.arithmetic.known_by_arithmetic.Goals as goal

pub returns-then-not-is_askable-clause-grows : goal.returns-then-not-is_askable-clause-grows
returns-then-not-is_askable-clause-grows c = WorkGrows-refl c.args.history.now c.args.work.now c.requires.can.stands

pub returns-then-is_settled-clause-grows : goal.returns-then-is_settled-clause-grows
returns-then-is_settled-clause-grows c = WorkGrows-refl c.args.history.now c.args.work.now c.requires.can.stands

pub returns-in_err-settle-clause-grows : goal.returns-in_err-settle-clause-grows
returns-in_err-settle-clause-grows c = WorkGrows-refl c.args.history.now c.args.work.now c.requires.can.stands
