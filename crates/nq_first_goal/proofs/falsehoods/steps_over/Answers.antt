use Rattle.std.proofs.Common.{[], ap}
use Rattle.nq_comment.specs.ReportViews.{steps_of}
use Rattle.nq_history.specs.Events.{events_at}
use Rattle.nq_event.specs.EventsAt.{hints_at}
use Rattle.nq_first_goal.proofs.FalsehoodTrees.{fails_over}
use Rattle.nq_first_goal.proofs.falsehoods.steps_over.Goals as goal

pub returns : goal.returns
returns c =
    let bank = c.args.bank.now in
    fails_over (events_at bank c.args.history.now) (hints_at bank c.args.hints.now) bank c.args.lemma c.args.variables.now c.args.nots.now (steps_of c.push_clauses.new.steps.items)
    c.requires.lemma.over.over c.requires.free c.requires.variables c.requires.nots (c.in_ok-are_stuck.ensures c.if-not-branch.false) (c.in_ok-are_stuck-2.ensures c.if-not-branch-2.false)
    (c.in_ok-push_clauses.ensures [] (ap steps_of c.new-steps.ensures.items))
