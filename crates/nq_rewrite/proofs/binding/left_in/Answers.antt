use Rattle.nq_instances.proofs.LeftLemmas.{left_in}
use Rattle.nq_rewrite.proofs.binding.left_in.Goals as goal

pub returns : goal.returns
returns c = left_in c.args.history.now c.args.work.now c.args.conclusion c.left_side.result c.requires.conclusion c.left_side.ensures.stands c.left_side.ensures.is
