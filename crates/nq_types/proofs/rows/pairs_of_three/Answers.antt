use Rattle.nq_kernel.proofs.GrowingLemmas.{WorkGrows-trans}
use Rattle.nq_lines.proofs.PairLemmas.{name_grown, three_paired, three_in}
use Rattle.nq_types.proofs.rows.pairs_of_three.Goals as goal

pub returns-in_err-b-clause-grows : goal.returns-in_err-b-clause-grows
returns-in_err-b-clause-grows c = (WorkGrows-trans c.args.history.now c.args.work.now c.symbol.new.work c.symbol-2.new.work c.symbol.ensures.grows c.symbol-2.ensures.grows)

pub returns-in_err-c-clause-grows : goal.returns-in_err-c-clause-grows
returns-in_err-c-clause-grows c = (WorkGrows-trans c.args.history.now c.args.work.now c.symbol.new.work c.symbol-3.new.work c.symbol.ensures.grows (WorkGrows-trans c.args.history.now c.symbol.new.work c.symbol-2.new.work c.symbol-3.new.work c.symbol-2.ensures.grows c.symbol-3.ensures.grows))

pub returns-in-Ok-clause-grows : goal.returns-in-Ok-clause-grows
returns-in-Ok-clause-grows c = (WorkGrows-trans c.args.history.now c.args.work.now c.symbol.new.work c.symbol-3.new.work c.symbol.ensures.grows (WorkGrows-trans c.args.history.now c.symbol.new.work c.symbol-2.new.work c.symbol-3.new.work c.symbol-2.ensures.grows c.symbol-3.ensures.grows))

pub returns-in-Err-clause-grows : goal.returns-in-Err-clause-grows
returns-in-Err-clause-grows c = (WorkGrows-trans c.args.history.now c.args.work.now c.symbol.new.work c.symbol-3.new.work c.symbol.ensures.grows (WorkGrows-trans c.args.history.now c.symbol.new.work c.symbol-2.new.work c.symbol-3.new.work c.symbol-2.ensures.grows c.symbol-3.ensures.grows))

pub returns-in-Ok-clause-pairs : goal.returns-in-Ok-clause-pairs
returns-in-Ok-clause-pairs c = three_paired c.args.history.now c.args.work.now c.symbol-3.new.work c.requires.stands (WorkGrows-trans c.args.history.now c.args.work.now c.symbol.new.work c.symbol-3.new.work c.symbol.ensures.grows (WorkGrows-trans c.args.history.now c.symbol.new.work c.symbol-2.new.work c.symbol-3.new.work c.symbol-2.ensures.grows c.symbol-3.ensures.grows)) c.in-Ok.pairs.items c.in_ok-a.a c.in_ok-b.b c.in_ok-c.c c.args.x c.args.y c.args.z c.in-Ok.ensures.items
    (name_grown c.symbol.new.work.bank c.symbol-3.new.work.bank c.in_ok-a.a _ (WorkGrows-trans c.args.history.now c.symbol.new.work c.symbol-2.new.work c.symbol-3.new.work c.symbol-2.ensures.grows c.symbol-3.ensures.grows).bank c.in_ok-a.ensures.name)
    (name_grown c.symbol-2.new.work.bank c.symbol-3.new.work.bank c.in_ok-b.b _ c.symbol-3.ensures.grows.bank c.in_ok-b.ensures.name) c.in_ok-c.ensures.name c.requires.first c.requires.second c.requires.third

pub returns-in-Ok-clause-over : goal.returns-in-Ok-clause-over
returns-in-Ok-clause-over c = three_in c.args.history.now c.args.work.now c.symbol-3.new.work c.requires.stands (WorkGrows-trans c.args.history.now c.args.work.now c.symbol.new.work c.symbol-3.new.work c.symbol.ensures.grows (WorkGrows-trans c.args.history.now c.symbol.new.work c.symbol-2.new.work c.symbol-3.new.work c.symbol-2.ensures.grows c.symbol-3.ensures.grows)) c.in-Ok.pairs.items c.in_ok-a.a c.in_ok-b.b c.in_ok-c.c c.args.x c.args.y c.args.z c.in-Ok.ensures.items
    (name_grown c.symbol.new.work.bank c.symbol-3.new.work.bank c.in_ok-a.a _ (WorkGrows-trans c.args.history.now c.symbol.new.work c.symbol-2.new.work c.symbol-3.new.work c.symbol-2.ensures.grows c.symbol-3.ensures.grows).bank c.in_ok-a.ensures.name)
    (name_grown c.symbol-2.new.work.bank c.symbol-3.new.work.bank c.in_ok-b.b _ c.symbol-3.ensures.grows.bank c.in_ok-b.ensures.name) c.in_ok-c.ensures.name c.requires.first c.requires.second c.requires.third
