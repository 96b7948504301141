use Rattle.nq_bank.specs.Content.{terms_at}
use Rattle.nq_bank.proofs.Growth.{terms_at-grown}
use Rattle.nq_kernel.proofs.GrowingLemmas.{WorkGrows-trans}
use Rattle.nq_waterfall.proofs.SameLemmas.{goal_grown, goal_stands, ready_grown}
use Rattle.nq_legal.proofs.ClosingLemmas.{line_told}
use Rattle.nq_legal.proofs.legal.LegalMover.close.Goals as goal

pub close-requires-clause-ready : goal.close-requires-clause-ready
close-requires-clause-ready g c = ready_grown c.args.history.now c.args.work.now c.close_way.new.work c.requires.ready.stands c.close_way.ensures.grows c.holding.ensures c.args.hints.now c.requires.ready

pub close-requires-clause-goal : goal.close-requires-clause-goal
close-requires-clause-goal g c = goal_grown c.args.history.now c.args.work.now c.close_way.new.work c.requires.ready.stands c.close_way.ensures.grows c.args.goal.now c.requires.goal

pub returns-in-None-clause-grows : goal.returns-in-None-clause-grows
returns-in-None-clause-grows g c = WorkGrows-trans c.args.history.now c.args.work.now c.close_way.new.work c.close.new.work c.close_way.ensures.grows c.close.ensures.grows

pub returns-in-Some-clause-line : goal.returns-in-Some-clause-line
returns-in-Some-clause-line g c =
    line_told c.close_way.new.work (terms_at c.args.work.now.bank c.args.goal.now) (terms_at c.close_way.new.work.bank c.args.goal.now) _ c.in-Some.line
    (terms_at-grown c.args.work.now.bank c.close_way.new.work.bank c.args.goal.now c.close_way.ensures.grows.bank (goal_stands c.args.history.now c.args.work.now c.args.goal.now c.requires.goal)) c.in_ok-line.ensures.line c.in-Some.is
