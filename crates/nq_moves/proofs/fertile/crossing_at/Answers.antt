use Rattle.std.proofs.Common.{◌<◌, length, arith}
use Rattle.nq_bank.specs.declared.node.TermId.{TermId}
use Rattle.nq_moves.proofs.SwappedLemmas.{goal_literal}
use Rattle.nq_moves.proofs.fertile.crossing_at.Goals as goal

pub crossing_in-requires-clause-crossing : goal.crossing_in-requires-clause-crossing
crossing_in-requires-clause-crossing c =
    let none : TermId = record { 0 = 0 } in
    let below : c.args.place < length c.args.goal.now = omega (arith, c.if-place-goal.false) in
    record {
      whole = c.requires.goal c.args.place none below;
      among = goal_literal c.args.work.now.bank c.args.goal.now c.args.place none below;
      place = c.has_place.ensures c.if-has_place.true;
    }
