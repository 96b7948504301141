use Rattle.std.proofs.Common.{Some, subst}
use Rattle.std.specs.Prelude.{IfSome}
use Rattle.nq_kernel.proofs.GrowingLemmas.{WorkGrows-trans}
use Rattle.nq_waterfall.proofs.SameLemmas.{goal_grown, path_grown, path_in_grown, ready_grown}
use Rattle.nq_legal.specs.Legal.{IsLegal}
use Rattle.nq_legal.proofs.InductingLemmas.{form_grown}
use Rattle.nq_legal.proofs.TurningLemmas.{turn_legal}
use Rattle.nq_legal.proofs.legal.lead_normal.Goals as goal

pub lead_moved-requires-clause-ready : goal.lead_moved-requires-clause-ready
lead_moved-requires-clause-ready g c = ready_grown c.args.history.now c.args.work.now c.simplify_below.new.work c.requires.ready.stands c.simplify_below.ensures.grows c.holding.ensures c.args.hints.now c.requires.ready

pub lead_moved-requires-clause-goal : goal.lead_moved-requires-clause-goal
lead_moved-requires-clause-goal g c = goal_grown c.args.history.now c.args.work.now c.simplify_below.new.work c.requires.ready.stands c.simplify_below.ensures.grows c.args.goal.now c.requires.goal

pub lead_moved-requires-clause-path : goal.lead_moved-requires-clause-path
lead_moved-requires-clause-path g c = path_grown c.args.work.now.bank c.simplify_below.new.work.bank c.simplify_below.ensures.grows.bank c.args.path.now c.requires.path

pub lead_moved-requires-clause-path_in : goal.lead_moved-requires-clause-path_in
lead_moved-requires-clause-path_in g c = path_in_grown c.args.history.now c.args.work.now c.simplify_below.new.work c.requires.ready.stands c.simplify_below.ensures.grows c.args.path.now c.requires.path_in

pub lead_moved-requires-clause-form : goal.lead_moved-requires-clause-form
lead_moved-requires-clause-form g c = form_grown c.args.history.now c.args.hints.now c.args.work.now c.simplify_below.new.work c.args.path.now c.args.goal.now c.requires.ready c.simplify_below.ensures.grows c.requires.path c.requires.goal c.requires.form

pub returns-in-None-clause-grows : goal.returns-in-None-clause-grows
returns-in-None-clause-grows g c = WorkGrows-trans c.args.history.now c.args.work.now c.simplify_below.new.work c.lead_moved.new.work c.simplify_below.ensures.grows c.lead_moved.ensures.grows

pub returns-in-Some-clause-turn : goal.returns-in-Some-clause-turn
returns-in-Some-clause-turn g c =
    turn_legal c.args.history.now c.args.hints.now c.simplify_below.new.work c.args.path.now c.args.goal.now (Some c.in-Some.lead)
    (subst (λ o. IfSome o (IsLegal c.args.history.now c.args.hints.now c.simplify_below.new.work c.args.goal.now)) c.in-Some.is c.in_ok-lead.ensures.legal)
