use Rattle.std.proofs.Common.{subst}
use Rattle.nq_kernel.proofs.GrowingLemmas.{WorkGrows-refl}
use Rattle.nq_waterfall.proofs.SameLemmas.{goal_stands}
use Rattle.nq_legal.specs.Leaving.{IsLeft}
use Rattle.nq_legal.proofs.legal.lead_stuck.Goals as goal

pub left_over-requires-clause-goal : goal.left_over-requires-clause-goal
left_over-requires-clause-goal g c = goal_stands c.args.history.now c.args.work.now c.args.goal.now c.requires.goal

pub induct_on-requires-clause-normal : goal.induct_on-requires-clause-normal
induct_on-requires-clause-normal g c = c.requires.stuck.normal

pub induct_on-requires-clause-starts : goal.induct_on-requires-clause-starts
induct_on-requires-clause-starts g c =
    subst (IsLeft c.args.work.now.bank c.args.history.now c.args.hints.now c.args.path.now c.args.goal.now) c.in-Ok-ToInduction.field-0-is c.in-Ok-ToInduction.ensures

pub induct_hinted-requires-clause-normal : goal.induct_hinted-requires-clause-normal
induct_hinted-requires-clause-normal g c = c.requires.stuck.normal

pub induct_hinted-requires-clause-starts : goal.induct_hinted-requires-clause-starts
induct_hinted-requires-clause-starts g c =
    subst (IsLeft c.args.work.now.bank c.args.history.now c.args.hints.now c.args.path.now c.args.goal.now) c.in-Ok-ToHint.field-0-is c.in-Ok-ToHint.ensures

pub returns-in-Ok-Over-clause-turn : goal.returns-in-Ok-Over-clause-turn
returns-in-Ok-Over-clause-turn g c =
    subst (IsLeft c.args.work.now.bank c.args.history.now c.args.hints.now c.args.path.now c.args.goal.now) c.in-Ok-Over.field-0-is c.in-Ok-Over.ensures

pub returns-in-Ok-Over-clause-grows : goal.returns-in-Ok-Over-clause-grows
returns-in-Ok-Over-clause-grows g c = WorkGrows-refl c.args.history.now c.args.work.now c.requires.ready.stands

pub returns-in-Ok-Untold-clause-grows : goal.returns-in-Ok-Untold-clause-grows
returns-in-Ok-Untold-clause-grows g c = WorkGrows-refl c.args.history.now c.args.work.now c.requires.ready.stands

pub returns-in-Err-clause-grows : goal.returns-in-Err-clause-grows
returns-in-Err-clause-grows g c = WorkGrows-refl c.args.history.now c.args.work.now c.requires.ready.stands
