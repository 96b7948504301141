use Rattle.nq_kernel.proofs.GrowingLemmas.{WorkGrows-trans}
use Rattle.nq_reduce.proofs.RewritingLemmas.{can_grown}
use Rattle.nq_reduce.proofs.HeldLemmas.{known_told}
use Rattle.nq_reduce.proofs.knowledge.known_truth.Goals as goal

pub known_by_assumption-requires : goal.known_by_assumption-requires
known_by_assumption-requires c = record { can = can_grown c.args.history.now c.args.work.now c.known_truth_value.new.work c.known_truth_value.ensures.grows c.args.assumed.now c.args.t c.requires.can }

pub returns-in-None-clause-known : goal.returns-in-None-clause-known
returns-in-None-clause-known c = known_told c.args.history.now c.args.work.now c.known_truth_value.new.work c.known_truth_value.ensures.grows c.args.assumed.now c.args.t c.requires.can c.known_by_assumption.new.work c.known_by_assumption.result c.known_by_assumption.ensures.known

pub returns-in-None-clause-grows : goal.returns-in-None-clause-grows
returns-in-None-clause-grows c = (WorkGrows-trans c.args.history.now c.args.work.now c.known_truth_value.new.work c.known_by_assumption.new.work c.known_truth_value.ensures.grows c.known_by_assumption.ensures.grows)
