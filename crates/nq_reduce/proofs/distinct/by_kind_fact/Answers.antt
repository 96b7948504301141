use Rattle.std.proofs.Common.{◌∙◌}
use Rattle.nq_kernel.proofs.GrowingLemmas.{WorkGrows-refl}
use Rattle.nq_reduce.proofs.distinct.by_kind_fact.Goals as goal

pub returns-in_err-all-clause-grows : goal.returns-in_err-all-clause-grows
returns-in_err-all-clause-grows c = WorkGrows-refl c.args.history.now c.args.work.now c.requires.can.stands

pub lost_under-requires-clause-all : goal.lost_under-requires-clause-all
lost_under-requires-clause-all c = c.as_slice.ensures.value ∙ c.in_ok-all.ensures.ok
