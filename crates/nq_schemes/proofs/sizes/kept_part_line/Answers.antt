use Rattle.nq_schemes.proofs.MadeLemmas.{variable_spelled}
use Rattle.nq_schemes.proofs.sizes.kept_part_line.Goals as goal

pub decrease-requires-clause-variable : goal.decrease-requires-clause-variable
decrease-requires-clause-variable c = variable_spelled c.args.history.now c.args.work.now c.args.whole.variable c.args.whole.name c.requires.whole.term c.requires.whole.names

pub decrease-requires-clause-tests : goal.decrease-requires-clause-tests
decrease-requires-clause-tests c = λ k d below. (c.requires.tests k d below).stands
