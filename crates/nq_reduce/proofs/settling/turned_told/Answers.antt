use Rattle.std.specs.Prelude.{codes}
use Rattle.nq_kernel.proofs.GrowingLemmas.{WorkGrows-trans}
use Rattle.nq_reduce.proofs.StepLemmas.{sides_grown, turned_made}
use Rattle.nq_reduce.proofs.RewritingLemmas.{can_grown}
use Rattle.nq_reduce.proofs.HeldLemmas.{known_told}
use Rattle.nq_reduce.proofs.settling.turned_told.Goals as goal

pub by_turned-requires-clause-can : goal.by_turned-requires-clause-can
by_turned-requires-clause-can c = can_grown c.args.history.now c.args.work.now c.equate.new.work c.equate.ensures.grows c.args.assumed.now c.args.t c.requires.can

pub by_turned-requires-clause-sides : goal.by_turned-requires-clause-sides
by_turned-requires-clause-sides c = sides_grown c.args.history.now c.args.work.now c.equate.new.work c.equate.ensures.grows (codes "EQUAL") c.args.t c.args.sides c.requires.can.stands c.requires.can.term c.requires.sides

pub by_turned-requires-clause-turned : goal.by_turned-requires-clause-turned
by_turned-requires-clause-turned c = turned_made c.args.history.now c.args.work.now c.equate.new.work c.equate.ensures.grows c.args.t c.args.sides c.in_ok-turned.turned c.requires.sides c.in_ok-turned.ensures.over c.in_ok-turned.ensures.equation

pub returns-clause-known : goal.returns-clause-known
returns-clause-known c = known_told c.args.history.now c.args.work.now c.equate.new.work c.equate.ensures.grows c.args.assumed.now c.args.t c.requires.can c.by_turned.new.work c.by_turned.result c.by_turned.ensures.known

pub returns-clause-grows : goal.returns-clause-grows
returns-clause-grows c = (WorkGrows-trans c.args.history.now c.args.work.now c.equate.new.work c.by_turned.new.work c.equate.ensures.grows c.by_turned.ensures.grows)
