use Rattle.nq_reduce.proofs.ClauseLemmas.{instance_in, in_stands}
use Rattle.nq_reduce.proofs.clauses.instance_line.Goals as goal

pub find_instance-requires-clause-line : goal.find_instance-requires-clause-line
find_instance-requires-clause-line c = in_stands c.args.history.now c.args.work.now c.args.line c.requires.line

pub returns-clause-line : goal.returns-clause-line
returns-clause-line c = instance_in c.args.history.now c.args.work.now c.find_instance.new.self c.find_instance.ensures.grows c.args.line c.in_ok-made.made c.args.pairs.items c.requires.stands c.requires.line c.requires.pairs c.in_ok-made.ensures.line
