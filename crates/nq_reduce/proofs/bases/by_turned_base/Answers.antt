use Rattle.nq_kernel.proofs.GrowingLemmas.{WorkGrows-trans}
use Rattle.std.specs.Prelude.{codes}
use Rattle.nq_reduce.proofs.RewritingLemmas.{can_grown, told_before}
use Rattle.nq_reduce.proofs.StepLemmas.{sides_grown, turned_made}
use Rattle.nq_reduce.proofs.bases.by_turned_base.Goals as goal

pub by_turned_trial-requires-clause-can : goal.by_turned_trial-requires-clause-can
by_turned_trial-requires-clause-can c = can_grown c.args.history.now c.args.work.now c.equate.new.work c.equate.ensures.grows c.args.assumed.now c.args.t c.requires.can

pub by_turned_trial-requires-clause-sides : goal.by_turned_trial-requires-clause-sides
by_turned_trial-requires-clause-sides c = sides_grown c.args.history.now c.args.work.now c.equate.new.work c.equate.ensures.grows (codes "EQUAL") c.args.t c.args.sides c.requires.can.stands c.requires.can.term c.requires.sides

pub by_turned_trial-requires-clause-turned : goal.by_turned_trial-requires-clause-turned
by_turned_trial-requires-clause-turned c = turned_made c.args.history.now c.args.work.now c.equate.new.work c.equate.ensures.grows c.args.t c.args.sides c.in_ok-turned.turned c.requires.sides c.in_ok-turned.ensures.over c.in_ok-turned.ensures.equation

pub returns-clause-ok : goal.returns-clause-ok
returns-clause-ok c = told_before c.args.history.now c.args.assumed.now c.args.work.now c.equate.new.work c.by_turned_trial.new.work c.args.t c.by_turned_trial.result c.equate.ensures.grows c.requires.can c.by_turned_trial.ensures.ok

pub returns-clause-grows : goal.returns-clause-grows
returns-clause-grows c = WorkGrows-trans c.args.history.now c.args.work.now c.equate.new.work c.by_turned_trial.new.work c.equate.ensures.grows c.by_turned_trial.ensures.grows
