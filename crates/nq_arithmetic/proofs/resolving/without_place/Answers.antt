use Rattle.nq_kernel.proofs.GrowingLemmas.{WorkGrows-refl}
use Rattle.nq_arithmetic.proofs.resolving.without_place.Goals as goal

pub returns-then-place-assumptions-clause-grows : goal.returns-then-place-assumptions-clause-grows
returns-then-place-assumptions-clause-grows c = WorkGrows-refl c.args.history.now c.args.work.now c.requires.stands

pub returns-then-not-line_has-clause-grows : goal.returns-then-not-line_has-clause-grows
returns-then-not-line_has-clause-grows c = WorkGrows-refl c.args.history.now c.args.work.now c.requires.stands

pub returns-in_err-literals-clause-grows : goal.returns-in_err-literals-clause-grows
returns-in_err-literals-clause-grows c = WorkGrows-refl c.args.history.now c.args.work.now c.requires.stands
