use Rattle.nq_kernel.proofs.GrowingLemmas.{WorkGrows-trans}
use Rattle.nq_lines.proofs.PairLemmas.{name_grown, three_in}
use Rattle.nq_arithmetic.proofs.lines.pairs_of.Goals as goal

pub returns-in_err-y-clause-grows : goal.returns-in_err-y-clause-grows
returns-in_err-y-clause-grows c = (WorkGrows-trans c.args.history.now c.args.work.now c.symbol.new.work c.symbol-2.new.work c.symbol.ensures.grows c.symbol-2.ensures.grows)

pub returns-in_err-z-clause-grows : goal.returns-in_err-z-clause-grows
returns-in_err-z-clause-grows c = (WorkGrows-trans c.args.history.now c.args.work.now c.symbol.new.work c.symbol-3.new.work c.symbol.ensures.grows (WorkGrows-trans c.args.history.now c.symbol.new.work c.symbol-2.new.work c.symbol-3.new.work c.symbol-2.ensures.grows c.symbol-3.ensures.grows))

pub returns-in-Ok-clause-pairs : goal.returns-in-Ok-clause-pairs
returns-in-Ok-clause-pairs c = three_in c.args.history.now c.args.work.now c.symbol-3.new.work c.requires.stands (WorkGrows-trans c.args.history.now c.args.work.now c.symbol.new.work c.symbol-3.new.work c.symbol.ensures.grows (WorkGrows-trans c.args.history.now c.symbol.new.work c.symbol-2.new.work c.symbol-3.new.work c.symbol-2.ensures.grows c.symbol-3.ensures.grows)) c.in-Ok.pairs.items c.in_ok-x.x c.in_ok-y.y c.in_ok-z.z c.args.at.first c.args.at.second c.args.at.second c.in-Ok.ensures.items (name_grown c.symbol.new.work.bank c.symbol-3.new.work.bank c.in_ok-x.x _ (WorkGrows-trans c.args.history.now c.symbol.new.work c.symbol-2.new.work c.symbol-3.new.work c.symbol-2.ensures.grows c.symbol-3.ensures.grows).bank c.in_ok-x.ensures.name) (name_grown c.symbol-2.new.work.bank c.symbol-3.new.work.bank c.in_ok-y.y _ c.symbol-3.ensures.grows.bank c.in_ok-y.ensures.name) c.in_ok-z.ensures.name c.requires.at.first c.requires.at.second c.requires.at.second

pub returns-in-Ok-clause-grows : goal.returns-in-Ok-clause-grows
returns-in-Ok-clause-grows c = (WorkGrows-trans c.args.history.now c.args.work.now c.symbol.new.work c.symbol-3.new.work c.symbol.ensures.grows (WorkGrows-trans c.args.history.now c.symbol.new.work c.symbol-2.new.work c.symbol-3.new.work c.symbol-2.ensures.grows c.symbol-3.ensures.grows))

pub returns-in-Err-clause-grows : goal.returns-in-Err-clause-grows
returns-in-Err-clause-grows c = (WorkGrows-trans c.args.history.now c.args.work.now c.symbol.new.work c.symbol-3.new.work c.symbol.ensures.grows (WorkGrows-trans c.args.history.now c.symbol.new.work c.symbol-2.new.work c.symbol-3.new.work c.symbol-2.ensures.grows c.symbol-3.ensures.grows))
