use Rattle.std.proofs.Common.{◌+◌, arith}
use Rattle.nq_history.proofs.FunctionLemmas.{counted, fewer_functions}
use Rattle.nq_history.proofs.index.count_functions.Goals as goal

pub count_of_entry-count-requires : goal.count_of_entry-count-requires
count_of_entry-count-requires c =
    let es = c.args.entries.now in
    let i = c.loop-e.e-index in
    let more = counted es i c.e-item.result c.loop-e-test.true c.e-item.is in
    let fewer = fewer_functions es (i + 1) in
    omega (arith, more, fewer, c.requires)

pub overflow_add-count : goal.overflow_add-count
overflow_add-count c =
    let es = c.args.entries.now in
    let i = c.loop-e.e-index in
    let more = counted es i c.e-item.result c.loop-e-test.true c.e-item.is in
    let fewer = fewer_functions es (i + 1) in
    omega (arith, more, fewer, c.requires, c.loop-e.invariant, c.count_of_entry-count.ensures, c.ranges.most.fits)

pub loop-e-preserved : goal.loop-e-preserved
loop-e-preserved c =
    let es = c.args.entries.now in
    let i = c.loop-e.e-index in
    let more = counted es i c.e-item.result c.loop-e-test.true c.e-item.is in
    omega (arith, more, c.loop-e.invariant, c.count_of_entry-count.ensures)
