use Rattle.nq_kernel.proofs.GrowingLemmas.{WorkGrows-trans}
use Rattle.nq_waterfall.proofs.SameLemmas.{goal_grown, path_grown, path_in_grown, ready_grown}
use Rattle.nq_legal.proofs.legal.LegalMover.lead.Goals as goal

pub lead_by_form-requires-clause-ready : goal.lead_by_form-requires-clause-ready
lead_by_form-requires-clause-ready g c = ready_grown c.args.history.now c.args.work.now c.form_of.new.work c.requires.ready.stands c.form_of.ensures.grows c.holding.ensures c.args.hints.now c.requires.ready

pub lead_by_form-requires-clause-goal : goal.lead_by_form-requires-clause-goal
lead_by_form-requires-clause-goal g c = goal_grown c.args.history.now c.args.work.now c.form_of.new.work c.requires.ready.stands c.form_of.ensures.grows c.args.goal.now c.requires.goal

pub lead_by_form-requires-clause-path_in : goal.lead_by_form-requires-clause-path_in
lead_by_form-requires-clause-path_in g c = path_in_grown c.args.history.now c.args.work.now c.form_of.new.work c.requires.ready.stands c.form_of.ensures.grows c.args.path.now c.requires.path_in

pub lead_by_form-requires-clause-path : goal.lead_by_form-requires-clause-path
lead_by_form-requires-clause-path g c = path_grown c.args.work.now.bank c.form_of.new.work.bank c.form_of.ensures.grows.bank c.args.path.now c.requires.path

pub returns-in-Ok-clause-grows : goal.returns-in-Ok-clause-grows
returns-in-Ok-clause-grows g c = WorkGrows-trans c.args.history.now c.args.work.now c.form_of.new.work c.lead_by_form.new.work c.form_of.ensures.grows c.lead_by_form.ensures.grows
