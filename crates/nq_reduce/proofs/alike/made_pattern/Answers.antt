use Rattle.nq_reduce.proofs.ShellLemmas.{arguments_there}
use Rattle.nq_reduce.proofs.alike.made_pattern.Goals as goal

pub returns : goal.returns
returns c = arguments_there c.args.history.now c.args.work.now _ 1 c.argument_of.result c.argument_of.ensures
