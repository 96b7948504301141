use Rattle.nq_kernel.proofs.GrowingLemmas.{WorkGrows-refl}
use Rattle.nq_rewrite.proofs.kinds.kind_by_row.Goals as goal

pub matched_fact-requires-clause-pattern : goal.matched_fact-requires-clause-pattern
matched_fact-requires-clause-pattern c = c.in-Some.ensures.argument

pub returns-in-None-clause-grows : goal.returns-in-None-clause-grows
returns-in-None-clause-grows c = WorkGrows-refl c.args.history.now c.args.work.now c.requires.stands
