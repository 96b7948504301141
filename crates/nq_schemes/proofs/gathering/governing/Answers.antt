use Rattle.nq_kernel.proofs.GrowingLemmas.{WorkGrows-refl}
use Rattle.nq_schemes.proofs.gathering.governing.Goals as goal

pub returns-then-not-is_known-clause-grows : goal.returns-then-not-is_known-clause-grows
returns-then-not-is_known-clause-grows c = WorkGrows-refl c.args.history.now c.args.work.now c.requires.stands

pub governed_by-requires-clause-test : goal.governed_by-requires-clause-test
governed_by-requires-clause-test c = c.is_known.ensures c.if-not-is_known.false
