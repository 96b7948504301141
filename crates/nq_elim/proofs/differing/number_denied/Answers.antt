use Rattle.nq_kernel.proofs.GrowingLemmas.{WorkGrows-trans}
use Rattle.nq_elim.proofs.differing.number_denied.Goals as goal

pub returns-in_err-denied-in-Some-clause-grows : goal.returns-in_err-denied-in-Some-clause-grows
returns-in_err-denied-in-Some-clause-grows c = WorkGrows-trans c.args.history.now c.args.work.now c.one_call.new.work c.deny.new.work c.one_call.ensures.grows c.deny.ensures.grows

pub returns-in_ok-denied-in-Some-clause-grows : goal.returns-in_ok-denied-in-Some-clause-grows
returns-in_ok-denied-in-Some-clause-grows c = WorkGrows-trans c.args.history.now c.args.work.now c.one_call.new.work c.deny.new.work c.one_call.ensures.grows c.deny.ensures.grows
