use Rattle.nq_instances.proofs.LeftLemmas.{left_in}
use Rattle.nq_rewrite.proofs.binding.left_of_part.Goals as goal

pub returns-then-branch-clause-left : goal.returns-then-branch-clause-left
returns-then-branch-clause-left c = left_in c.args.history.now c.args.work.now c.args.part c.left_side-left.result c.requires.part c.left_side-left.ensures.stands c.left_side-left.ensures.is
