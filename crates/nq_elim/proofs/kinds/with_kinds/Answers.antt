use Rattle.nq_elim.proofs.ReasonLemmas.{reason_grown}
use Rattle.nq_elim.proofs.kinds.with_kinds.Goals as goal

pub with_facts-requires-clause-reason : goal.with_facts-requires-clause-reason
with_facts-requires-clause-reason c = reason_grown c.args.history.now c.args.work.now c.kinds_of.new.work c.requires.stands c.kinds_of.ensures.grows c.args.goal.now c.requires.goal c.args.reason c.requires.reason
