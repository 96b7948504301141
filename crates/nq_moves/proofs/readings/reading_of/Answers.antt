use Rattle.std.proofs.Common.{◌<◌, length, get_or, arith}
use Rattle.nq_bank.specs.declared.node.TermId.{TermId}
use Rattle.nq_moves.proofs.SwappedLemmas.{reading_is, goal_literal}
use Rattle.nq_moves.proofs.readings.reading_of.Goals as goal

pub returns-in-Some : goal.returns-in-Some
returns-in-Some c =
    let none : TermId = record { 0 = 0 } in
    let goal = c.args.goal.now in
    let l : TermId = get_or goal c.args.place none in
    let below : c.args.place < length goal = omega (arith, c.if-place-goal.false) in
    reading_is c.args.history.now c.args.work.now goal c.requires.goal c.ordered.result c.in-Some.sides l (c.requires.goal c.args.place none below).stands (goal_literal c.args.work.now.bank goal c.args.place none below) c.in-Some.ensures.stand.left c.in-Some.ensures.stand.right c.in-Some.ensures.sides c.ordered.ensures.literal c.ordered.ensures.sides
