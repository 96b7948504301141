use Rattle.std.proofs.Common.{◌≡◌, subst}
use Rattle.nq_moves.specs.Found.{goals_at}
use Rattle.nq_moves.specs.Swapped.{IsSwapping}
use Rattle.nq_moves.specs.declared.readings.Reading.{Reading}
use Rattle.nq_moves.proofs.DroppingLemmas.{hold_one}
use Rattle.nq_moves.proofs.SwappedLemmas.{three_items}
use Rattle.nq_moves.proofs.crossing.close_swapped.Goals as goal

pub close_reading-requires-clause-swapped : goal.close_reading-requires-clause-swapped
close_reading-requires-clause-swapped c =
    let m = c.requires.moved in
    let work = c.args.work.now in
    let r : Reading = record { literal = c.index-literal.result.now; from = c.index-from.result.now; into = c.index-into.result.now } in
    let same : m.reading ≡ r = three_items c.args.moved.now.why.literals.items m.reading r m.literals c.index-literal.ensures c.index-from.ensures c.index-into.ensures in
    record {
      child = m.child;
      swapping = subst (λ q. IsSwapping c.args.history.now work c.args.goal.now q c.args.moved.now.why.crossing m.child) same m.swapping;
      has = hold_one work (goals_at work.bank c.args.moved.now.children.items) m.child c.args.lines.now 0 m.leads c.requires.lines;
    }
