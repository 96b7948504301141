use Rattle.nq_kernel.proofs.GrowingLemmas.{WorkGrows-trans}
use Rattle.nq_reduce.proofs.RewritingLemmas.{can_grown, can_term, rewritten_now, argument_grown}
use Rattle.nq_reduce.proofs.HeldLemmas.{known_told}
use Rattle.nq_reduce.proofs.restricted.told_by_fact.Goals as goal

pub rewritten_by-requires-clause-can : goal.rewritten_by-requires-clause-can
rewritten_by-requires-clause-can c = (can_term c.args.history.now c.args.work.now c.args.assumed.now c.args.t c.args.x c.requires.can c.requires.argument.argument)

pub told_after_part-requires-clause-can : goal.told_after_part-requires-clause-can
told_after_part-requires-clause-can c = can_grown c.args.history.now c.args.work.now c.rewritten_by.new.work c.rewritten_by.ensures.grows c.args.assumed.now c.args.t c.requires.can

pub told_after_part-requires-clause-argument : goal.told_after_part-requires-clause-argument
told_after_part-requires-clause-argument c = argument_grown c.args.history.now c.args.work.now c.rewritten_by.new.work c.rewritten_by.ensures.grows c.args.t 1 c.args.x c.requires.can.stands c.requires.can.term c.requires.argument

pub told_after_part-requires-clause-new : goal.told_after_part-requires-clause-new
told_after_part-requires-clause-new c = rewritten_now c.args.history.now c.args.assumed.now c.args.work.now c.rewritten_by.new.work c.args.x c.in_ok-new.new c.rewritten_by.ensures.grows (can_term c.args.history.now c.args.work.now c.args.assumed.now c.args.t c.args.x c.requires.can c.requires.argument.argument) c.in_ok-new.ensures.ok

pub returns-clause-known : goal.returns-clause-known
returns-clause-known c = known_told c.args.history.now c.args.work.now c.rewritten_by.new.work c.rewritten_by.ensures.grows c.args.assumed.now c.args.t c.requires.can c.told_after_part.new.work c.told_after_part.result c.told_after_part.ensures.known

pub returns-clause-grows : goal.returns-clause-grows
returns-clause-grows c = WorkGrows-trans c.args.history.now c.args.work.now c.rewritten_by.new.work c.told_after_part.new.work c.rewritten_by.ensures.grows c.told_after_part.ensures.grows
