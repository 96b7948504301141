use Rattle.nq_arithmetic.proofs.Lemmas.{all_stand}
use Rattle.nq_arithmetic.proofs.refuting.are_refuted.Goals as goal

pub eliminates-requires : goal.eliminates-requires
eliminates-requires c = all_stand c.args.history.now c.args.work.now c.args.literals.now c.requires.literals
