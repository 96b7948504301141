use Rattle.nq_kernel.proofs.GrowingLemmas.{WorkGrows-trans}
use Rattle.nq_lines.proofs.FactLemmas.{fact_grown}
use Rattle.nq_lines.proofs.instantiated.matched_fact.Goals as goal

pub instance_fact-requires-clause-fact : goal.instance_fact-requires-clause-fact
instance_fact-requires-clause-fact c = fact_grown c.args.history.now c.args.work.now c.match_pairs.new.work c.match_pairs.ensures.grows c.args.fact c.requires.stands c.requires.fact

pub returns-in-Some-clause-grows : goal.returns-in-Some-clause-grows
returns-in-Some-clause-grows c = WorkGrows-trans c.args.history.now c.args.work.now c.match_pairs.new.work c.instance_fact.new.work c.match_pairs.ensures.grows c.instance_fact.ensures.grows
