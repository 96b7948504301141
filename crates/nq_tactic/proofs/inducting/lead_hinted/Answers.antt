use Rattle.nq_tactic.proofs.WayLemmas.{hint_in}
use Rattle.nq_tactic.proofs.inducting.lead_hinted.Goals as goal

pub lead_suggested-requires-clause-hint : goal.lead_suggested-requires-clause-hint
lead_suggested-requires-clause-hint c = hint_in c.args.history.now c.args.work.now c.args.hints.now.induct c.requires.can.hints_stand.induct c.requires.can.hints_in.induct
