use Rattle.nq_lines.specs.declared.facts.Fact.{Fact}
use Rattle.nq_arithmetic.proofs.rounds.with_instances.Goals as goal

pub push_new-requires-clause-term : goal.push_new-requires-clause-term
push_new-requires-clause-term c = let d : Fact = record { term = record { 0 = 0 }; line = 0 } in (c.requires.instances c.loop-instance.instance-index d c.loop-instance-test.true).term
