use Rattle.nq_arithmetic.proofs.Lemmas.{all_stand, all_over}
use Rattle.nq_arithmetic.proofs.refuting.refuted.Goals as goal

pub refute-requires-clause-literals : goal.refute-requires-clause-literals
refute-requires-clause-literals c = all_stand c.args.history.now c.args.work.now c.args.literals.now c.requires.literals

pub refute-requires-clause-over : goal.refute-requires-clause-over
refute-requires-clause-over c = all_over c.args.history.now c.args.work.now c.args.literals.now c.requires.literals
