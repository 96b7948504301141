use Rattle.std.proofs.Common.{[], ◌∷◌}
use Rattle.nq_kernel.proofs.GrowingLemmas.{WorkGrows-trans}
use Rattle.nq_log_tests.proofs.ClosedLemmas.{first_in, second_in, terms_grown, ready_grown, line_here, line_kept, hold_two}
use Rattle.nq_log_tests.proofs.closed.closed_by_two.Goals as goal

pub first_line-requires-clause-goal : goal.first_line-requires-clause-goal
first_line-requires-clause-goal c = first_in c.args.history.now c.args.work.now c.args.moved.now.children.items c.requires.moved.children_in c.args.first.now (c.args.second.now ∷ []) c.requires.both

pub first_line-requires-in-Some-clause-ready : goal.first_line-requires-in-Some-clause-ready
first_line-requires-in-Some-clause-ready c = ready_grown c.args.history.now c.args.work.now c.first_line.new.work c.requires.stands c.first_line.ensures.grows c.requires.ready

pub first_line-requires-in-Some-clause-goal : goal.first_line-requires-in-Some-clause-goal
first_line-requires-in-Some-clause-goal c =
    let second = c.args.second.now in
    terms_grown c.args.history.now c.args.work.now c.first_line.new.work c.requires.stands c.first_line.ensures.grows second.items (second_in c.args.history.now c.args.work.now c.args.moved.now.children.items c.requires.moved.children_in c.args.first.now second [] c.requires.both)

pub close_move-requires-clause-goal : goal.close_move-requires-clause-goal
close_move-requires-clause-goal c =
    let h = c.args.history.now in
    let old = c.args.work.now in
    let middle = c.first_line.new.work in
    let new = c.first_line-in-Some.new.work in
    terms_grown h old new c.requires.stands (WorkGrows-trans h old middle new c.first_line.ensures.grows c.first_line-in-Some.ensures.grows) c.args.goal.now c.requires.goal

pub close_move-requires-clause-way : goal.close_move-requires-clause-way
close_move-requires-clause-way c =
    let h = c.args.history.now in
    let old = c.args.work.now in
    let middle = c.first_line.new.work in
    let new = c.first_line-in-Some.new.work in
    c.ways_last.ensures h old new c.args.goal.now c.args.moved.now c.requires.stands (WorkGrows-trans h old middle new c.first_line.ensures.grows c.first_line-in-Some.ensures.grows) c.requires.goal c.requires.moved.way

pub close_move-requires-clause-lines : goal.close_move-requires-clause-lines
close_move-requires-clause-lines c =
    let h = c.args.history.now in
    let old = c.args.work.now in
    let middle = c.first_line.new.work in
    let new = c.first_line-in-Some.new.work in
    let first = c.args.first.now in
    let second = c.args.second.now in
    let goals = c.args.moved.now.children.items in
    let grows = c.first_line.ensures.grows in
    let more = c.first_line-in-Some.ensures.grows in
    let first_over = terms_grown h old middle c.requires.stands grows first.items (first_in h old goals c.requires.moved.children_in first (second ∷ []) c.requires.both) in
    let second_over = terms_grown h old middle c.requires.stands grows second.items (second_in h old goals c.requires.moved.children_in first second [] c.requires.both) in
    let one = line_here h old middle c.requires.stands grows c.in-Some.a first.items (first_in h old goals c.requires.moved.children_in first (second ∷ []) c.requires.both) c.in-Some.ensures.line in
    hold_two new goals first second c.in-Some.a c.in-Some-first_line.b c.requires.both (line_kept h middle new grows.stands more c.in-Some.a first.items first_over one)
    (line_here h middle new grows.stands more c.in-Some-first_line.b second.items second_over c.in-Some-first_line.ensures.line)
