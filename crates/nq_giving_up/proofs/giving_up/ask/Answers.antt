use Rattle.nq_kernel.proofs.GrowingLemmas.{WorkGrows-refl, WorkGrows-trans}
use Rattle.nq_waterfall.proofs.SameLemmas.{goal_grown, ready_grown}
use Rattle.nq_giving_up.proofs.giving_up.ask.Goals as goal

pub loop-outcome-init : goal.loop-outcome-init
loop-outcome-init g c = WorkGrows-refl c.args.history.now c.args.work.now c.requires.ready.stands

pub solve_first-requires-clause-ready : goal.solve_first-requires-clause-ready
solve_first-requires-clause-ready g c = ready_grown c.args.history.now c.args.work.now c.loop-outcome.work c.requires.ready.stands c.loop-outcome.invariant c.holding.ensures c.args.hints.now c.requires.ready

pub solve_first-requires-clause-goal : goal.solve_first-requires-clause-goal
solve_first-requires-clause-goal g c = goal_grown c.args.history.now c.args.work.now c.loop-outcome.work c.requires.ready.stands c.loop-outcome.invariant c.args.goal.now c.requires.goal

pub returns-in_err-outcome-clause-grows : goal.returns-in_err-outcome-clause-grows
returns-in_err-outcome-clause-grows g c = WorkGrows-trans c.args.history.now c.args.work.now c.loop-outcome.work c.solve_first.new.work c.loop-outcome.invariant c.solve_first.ensures.grows

pub returns-in_err-failing-clause-grows : goal.returns-in_err-failing-clause-grows
returns-in_err-failing-clause-grows g c = WorkGrows-trans c.args.history.now c.args.work.now c.loop-outcome.work c.solve_first.new.work c.loop-outcome.invariant c.solve_first.ensures.grows

pub returns-in-Some-clause-grows : goal.returns-in-Some-clause-grows
returns-in-Some-clause-grows g c = WorkGrows-trans c.args.history.now c.args.work.now c.loop-outcome.work c.solve_first.new.work c.loop-outcome.invariant c.solve_first.ensures.grows

pub returns-then-eq-clause-grows : goal.returns-then-eq-clause-grows
returns-then-eq-clause-grows g c =
    let up = WorkGrows-trans c.args.history.now c.args.work.now c.loop-outcome.work c.solve_first.new.work c.loop-outcome.invariant c.solve_first.ensures.grows in
    WorkGrows-trans c.args.history.now c.args.work.now c.solve_first.new.work c.spend.new.work up c.spend.ensures.grows

pub returns-then-not-count_entry-clause-grows : goal.returns-then-not-count_entry-clause-grows
returns-then-not-count_entry-clause-grows g c =
    let up = WorkGrows-trans c.args.history.now c.args.work.now c.loop-outcome.work c.solve_first.new.work c.loop-outcome.invariant c.solve_first.ensures.grows in
    WorkGrows-trans c.args.history.now c.args.work.now c.solve_first.new.work c.count_entry.new.work up c.count_entry.ensures.grows

pub loop-outcome-preserved : goal.loop-outcome-preserved
loop-outcome-preserved g c =
    let up = WorkGrows-trans c.args.history.now c.args.work.now c.loop-outcome.work c.solve_first.new.work c.loop-outcome.invariant c.solve_first.ensures.grows in
    WorkGrows-trans c.args.history.now c.args.work.now c.solve_first.new.work c.count_entry.new.work up c.count_entry.ensures.grows
