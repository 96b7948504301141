use Rattle.nq_kernel.proofs.GrowingLemmas.{WorkGrows-trans}
use Rattle.nq_tactic.proofs.trivial.truth_line.Goals as goal

pub returns-in_err-line-clause-grows : goal.returns-in_err-line-clause-grows
returns-in_err-line-clause-grows c = WorkGrows-trans c.args.history.now c.args.work.now c.truth.new.work c.add_truth.new.work c.truth.ensures.grows c.add_truth.ensures.grows

pub returns-in_ok-line-clause-grows : goal.returns-in_ok-line-clause-grows
returns-in_ok-line-clause-grows c = WorkGrows-trans c.args.history.now c.args.work.now c.truth.new.work c.add_truth.new.work c.truth.ensures.grows c.add_truth.ensures.grows
