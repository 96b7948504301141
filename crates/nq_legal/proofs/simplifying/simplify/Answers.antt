use Rattle.std.proofs.Common.{sym, subst}
use Rattle.nq_bank.proofs.Growth.{terms_at-grown}
use Rattle.nq_proof.specs.Clauses.{Clause}
use Rattle.nq_simplify.specs.Simplified.{IsSimplified}
use Rattle.nq_waterfall.proofs.SameLemmas.{goal_grown, goal_stands, ready_grown}
use Rattle.nq_legal.proofs.simplifying.simplify.Goals as goal

pub simplified-requires-clause-ready : goal.simplified-requires-clause-ready
simplified-requires-clause-ready g c = c.own_terms.ensures c.args.work.now.bank c.args.history.now c.requires.ready.ready

pub lead_if_plain-requires-clause-ready : goal.lead_if_plain-requires-clause-ready
lead_if_plain-requires-clause-ready g c = ready_grown c.args.history.now c.args.work.now c.simplified.new.work c.requires.ready.stands c.simplified.ensures.grows c.holding.ensures c.args.hints.now c.requires.ready

pub lead_if_plain-requires-clause-goal : goal.lead_if_plain-requires-clause-goal
lead_if_plain-requires-clause-goal g c = goal_grown c.args.history.now c.args.work.now c.simplified.new.work c.requires.ready.stands c.simplified.ensures.grows c.args.goal.now c.requires.goal

pub thinned-requires : goal.thinned-requires
thinned-requires g c =
    subst (λ (x : Clause). IsSimplified c.args.history.now c.simplified.new.work x c.in_ok-simplified.simplified)
    (sym (terms_at-grown c.args.work.now.bank c.simplified.new.work.bank c.args.goal.now c.simplified.ensures.grows.bank (goal_stands c.args.history.now c.args.work.now c.args.goal.now c.requires.goal))) c.in_ok-simplified.ensures.simplified
