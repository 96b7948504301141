use Rattle.std.proofs.Common.{[]}
use Rattle.nq_log_tests.proofs.ClosedLemmas.{first_in, terms_grown, line_here, hold_one}
use Rattle.nq_log_tests.proofs.closed.closed_by_one.Goals as goal

pub first_line-requires-clause-goal : goal.first_line-requires-clause-goal
first_line-requires-clause-goal c = first_in c.args.history.now c.args.work.now c.args.moved.now.children.items c.requires.moved.children_in c.args.only.now [] c.requires.only

pub close_move-requires-clause-goal : goal.close_move-requires-clause-goal
close_move-requires-clause-goal c = terms_grown c.args.history.now c.args.work.now c.first_line.new.work c.requires.stands c.first_line.ensures.grows c.args.goal.now c.requires.goal

pub close_move-requires-clause-way : goal.close_move-requires-clause-way
close_move-requires-clause-way c = c.ways_last.ensures c.args.history.now c.args.work.now c.first_line.new.work c.args.goal.now c.args.moved.now c.requires.stands c.first_line.ensures.grows c.requires.goal c.requires.moved.way

pub close_move-requires-clause-lines : goal.close_move-requires-clause-lines
close_move-requires-clause-lines c =
    let h = c.args.history.now in
    let old = c.args.work.now in
    let new = c.first_line.new.work in
    let only = c.args.only.now in
    let goals = c.args.moved.now.children.items in
    hold_one new goals only c.in-Some.line c.requires.only (line_here h old new c.requires.stands c.first_line.ensures.grows c.in-Some.line only.items (first_in h old goals c.requires.moved.children_in only [] c.requires.only) c.in-Some.ensures.line)
