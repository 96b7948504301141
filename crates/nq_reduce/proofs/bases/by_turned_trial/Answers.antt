use Rattle.nq_kernel.proofs.GrowingLemmas.{WorkGrows-trans}
use Rattle.std.specs.Prelude.{codes}
use Rattle.nq_reduce.proofs.RewritingLemmas.{can_grown, can_term, rewritten_now, told_before}
use Rattle.nq_reduce.proofs.StepLemmas.{sides_grown, turned_grown}
use Rattle.nq_reduce.proofs.bases.by_turned_trial.Goals as goal

pub by_trial-requires : goal.by_trial-requires
by_trial-requires c = record { can = (can_term c.args.history.now c.args.work.now c.args.assumed.now c.args.t c.args.turned c.requires.can c.requires.turned.there) }

pub by_turned_step-requires-clause-can : goal.by_turned_step-requires-clause-can
by_turned_step-requires-clause-can c = can_grown c.args.history.now c.args.work.now c.by_trial.new.work c.by_trial.ensures.grows c.args.assumed.now c.args.t c.requires.can

pub by_turned_step-requires-clause-sides : goal.by_turned_step-requires-clause-sides
by_turned_step-requires-clause-sides c = sides_grown c.args.history.now c.args.work.now c.by_trial.new.work c.by_trial.ensures.grows (codes "EQUAL") c.args.t c.args.sides c.requires.can.stands c.requires.can.term c.requires.sides

pub by_turned_step-requires-clause-turned : goal.by_turned_step-requires-clause-turned
by_turned_step-requires-clause-turned c = turned_grown c.args.history.now c.args.work.now c.by_trial.new.work c.by_trial.ensures.grows c.args.t c.args.sides c.args.turned c.requires.can.stands c.requires.sides c.requires.turned

pub by_turned_step-requires-clause-step : goal.by_turned_step-requires-clause-step
by_turned_step-requires-clause-step c = rewritten_now c.args.history.now c.args.assumed.now c.args.work.now c.by_trial.new.work c.args.turned c.in_ok-step.step c.by_trial.ensures.grows (can_term c.args.history.now c.args.work.now c.args.assumed.now c.args.t c.args.turned c.requires.can c.requires.turned.there) c.in_ok-step.ensures.ok

pub returns-clause-ok : goal.returns-clause-ok
returns-clause-ok c = told_before c.args.history.now c.args.assumed.now c.args.work.now c.by_trial.new.work c.by_turned_step.new.work c.args.t c.by_turned_step.result c.by_trial.ensures.grows c.requires.can c.by_turned_step.ensures.ok

pub returns-clause-grows : goal.returns-clause-grows
returns-clause-grows c = WorkGrows-trans c.args.history.now c.args.work.now c.by_trial.new.work c.by_turned_step.new.work c.by_trial.ensures.grows c.by_turned_step.ensures.grows
