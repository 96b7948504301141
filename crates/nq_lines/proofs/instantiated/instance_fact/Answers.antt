use Rattle.nq_lines.proofs.FactLemmas.{instance_made}
use Rattle.nq_lines.proofs.instantiated.instance_fact.Goals as goal

pub returns-in-Some-clause-fact : goal.returns-in-Some-clause-fact
returns-in-Some-clause-fact c = instance_made c.args.history.now c.args.work.now c.find_instance.new.self c.find_instance.ensures.grows c.args.fact c.args.pairs.items c.in-Some.t c.in_ok-line.line c.requires.stands c.requires.fact c.requires.pairs c.in_ok-line.ensures.line c.in-Some.ensures
