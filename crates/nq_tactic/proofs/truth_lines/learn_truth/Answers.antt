use Rattle.nq_kernel.proofs.GrowingLemmas.{WorkGrows-refl}
use Rattle.nq_tactic.proofs.truth_lines.learn_truth.Goals as goal

pub returns-else-may_be_truth-clause-grows : goal.returns-else-may_be_truth-clause-grows
returns-else-may_be_truth-clause-grows c = WorkGrows-refl c.args.history.now c.args.work.now c.requires.can.stands
