use Rattle.std.proofs.Common.{arith}
use Rattle.nq_history.specs.Events.{events_at}
use Rattle.nq_types.proofs.OutsideLemmas.{recognizers_count, shells_count}
use Rattle.nq_types.proofs.outside.recognizer_count.Goals as goal

pub overflow_cast-result : goal.overflow_cast-result
overflow_cast-result c =
    let bank = c.args.bank.now in
    let same = shells_count (events_at bank c.args.history.now) bank c.shells.result.now (c.shells.ensures.logic bank c.requires.history) in
    omega (arith, same, c.requires.room)

pub overflow_add-result : goal.overflow_add-result
overflow_add-result c =
    let bank = c.args.bank.now in
    let same = shells_count (events_at bank c.args.history.now) bank c.shells.result.now (c.shells.ensures.logic bank c.requires.history) in
    omega (arith, same, c.requires.room)

pub returns-clause-count : goal.returns-clause-count
returns-clause-count c =
    let bank = c.args.bank.now in
    let h = events_at bank c.args.history.now in
    recognizers_count h _ (shells_count h bank c.shells.result.now (c.shells.ensures.logic bank c.requires.history))

pub returns-clause-most : goal.returns-clause-most
returns-clause-most c =
    let bank = c.args.bank.now in
    let same = shells_count (events_at bank c.args.history.now) bank c.shells.result.now (c.shells.ensures.logic bank c.requires.history) in
    omega (arith, same, c.requires.room)
