use Rattle.nq_kernel.proofs.GrowingLemmas.{WorkGrows-trans}
use Rattle.nq_reduce.proofs.RewritingLemmas.{can_grown}
use Rattle.nq_reduce.proofs.HeldLemmas.{known_told}
use Rattle.nq_rewrite.proofs.arithmetic.told_by_arithmetic.Goals as goal

pub false_by_arithmetic-requires : goal.false_by_arithmetic-requires
false_by_arithmetic-requires c = record { can = can_grown c.args.history.now c.args.work.now c.line_by_arithmetic.new.work c.line_by_arithmetic.ensures.grows c.args.assumed.now c.args.t c.requires.can }

pub returns-in-None-clause-known : goal.returns-in-None-clause-known
returns-in-None-clause-known c = known_told c.args.history.now c.args.work.now c.line_by_arithmetic.new.work c.line_by_arithmetic.ensures.grows c.args.assumed.now c.args.t c.requires.can c.false_by_arithmetic.new.work c.false_by_arithmetic.result c.false_by_arithmetic.ensures.known

pub returns-in-None-clause-grows : goal.returns-in-None-clause-grows
returns-in-None-clause-grows c = WorkGrows-trans c.args.history.now c.args.work.now c.line_by_arithmetic.new.work c.false_by_arithmetic.new.work c.line_by_arithmetic.ensures.grows c.false_by_arithmetic.ensures.grows
