use Rattle.std.specs.Prelude.{codes, true}
use Rattle.nq_kernel.proofs.GrowingLemmas.{WorkGrows-trans, LineHolds-grown}
use Rattle.nq_lines.proofs.PairLemmas.{name_grown}
use Rattle.nq_simplify.specs.BranchRows.{if_row}
use Rattle.nq_simplify.proofs.rows.add_if_rows.Goals as goal

pub returns-in_err-y-clause-grows : goal.returns-in_err-y-clause-grows
returns-in_err-y-clause-grows c = (WorkGrows-trans c.args.history.now c.args.work.now c.symbol.new.work c.symbol-2.new.work c.symbol.ensures.grows c.symbol-2.ensures.grows)

pub returns-in_err-z-clause-grows : goal.returns-in_err-z-clause-grows
returns-in_err-z-clause-grows c = (WorkGrows-trans c.args.history.now c.args.work.now c.symbol.new.work c.symbol-3.new.work c.symbol.ensures.grows (WorkGrows-trans c.args.history.now c.symbol.new.work c.symbol-2.new.work c.symbol-3.new.work c.symbol-2.ensures.grows c.symbol-3.ensures.grows))

pub returns-in_err-first-clause-grows : goal.returns-in_err-first-clause-grows
returns-in_err-first-clause-grows c = (WorkGrows-trans c.args.history.now c.args.work.now c.symbol.new.work c.add_if_row.new.work c.symbol.ensures.grows (WorkGrows-trans c.args.history.now c.symbol.new.work c.symbol-2.new.work c.add_if_row.new.work c.symbol-2.ensures.grows (WorkGrows-trans c.args.history.now c.symbol-2.new.work c.symbol-3.new.work c.add_if_row.new.work c.symbol-3.ensures.grows c.add_if_row.ensures.grows)))

pub returns-in_err-second-clause-grows : goal.returns-in_err-second-clause-grows
returns-in_err-second-clause-grows c = (WorkGrows-trans c.args.history.now c.args.work.now c.symbol.new.work c.add_if_row-2.new.work c.symbol.ensures.grows (WorkGrows-trans c.args.history.now c.symbol.new.work c.symbol-2.new.work c.add_if_row-2.new.work c.symbol-2.ensures.grows (WorkGrows-trans c.args.history.now c.symbol-2.new.work c.symbol-3.new.work c.add_if_row-2.new.work c.symbol-3.ensures.grows (WorkGrows-trans c.args.history.now c.symbol-3.new.work c.add_if_row.new.work c.add_if_row-2.new.work c.add_if_row.ensures.grows c.add_if_row-2.ensures.grows))))

pub returns-clause-grows : goal.returns-clause-grows
returns-clause-grows c = (WorkGrows-trans c.args.history.now c.args.work.now c.symbol.new.work c.add_if_row-2.new.work c.symbol.ensures.grows (WorkGrows-trans c.args.history.now c.symbol.new.work c.symbol-2.new.work c.add_if_row-2.new.work c.symbol-2.ensures.grows (WorkGrows-trans c.args.history.now c.symbol-2.new.work c.symbol-3.new.work c.add_if_row-2.new.work c.symbol-3.ensures.grows (WorkGrows-trans c.args.history.now c.symbol-3.new.work c.add_if_row.new.work c.add_if_row-2.new.work c.add_if_row.ensures.grows c.add_if_row-2.ensures.grows))))

pub returns-clause-rows : goal.returns-clause-rows
returns-clause-rows c =
    record {
      x = name_grown c.symbol.new.work.bank c.add_if_row-2.new.work.bank c.in_ok-x.x (codes "X") (WorkGrows-trans c.args.history.now c.symbol.new.work c.symbol-2.new.work c.add_if_row-2.new.work c.symbol-2.ensures.grows (WorkGrows-trans c.args.history.now c.symbol-2.new.work c.symbol-3.new.work c.add_if_row-2.new.work c.symbol-3.ensures.grows (WorkGrows-trans c.args.history.now c.symbol-3.new.work c.add_if_row.new.work c.add_if_row-2.new.work c.add_if_row.ensures.grows c.add_if_row-2.ensures.grows))).bank c.in_ok-x.ensures.name;
      y = name_grown c.symbol-2.new.work.bank c.add_if_row-2.new.work.bank c.in_ok-y.y (codes "Y") (WorkGrows-trans c.args.history.now c.symbol-2.new.work c.symbol-3.new.work c.add_if_row-2.new.work c.symbol-3.ensures.grows (WorkGrows-trans c.args.history.now c.symbol-3.new.work c.add_if_row.new.work c.add_if_row-2.new.work c.add_if_row.ensures.grows c.add_if_row-2.ensures.grows)).bank c.in_ok-y.ensures.name;
      z = name_grown c.symbol-3.new.work.bank c.add_if_row-2.new.work.bank c.in_ok-z.z (codes "Z") (WorkGrows-trans c.args.history.now c.symbol-3.new.work c.add_if_row.new.work c.add_if_row-2.new.work c.add_if_row.ensures.grows c.add_if_row-2.ensures.grows).bank c.in_ok-z.ensures.name;
      first = LineHolds-grown c.args.history.now c.add_if_row.new.work c.add_if_row-2.new.work c.in_ok-first.first (if_row true) c.add_if_row.ensures.grows.stands c.add_if_row-2.ensures.grows c.in_ok-first.ensures.line;
      second = c.in_ok-second.ensures.line;
    }
