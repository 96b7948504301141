use Rattle.nq_lines.proofs.PairLemmas.{name_grown}
use Rattle.nq_part_lines.proofs.FiveLemmas.{five_in, five_paired}
use Rattle.nq_replay.proofs.UncountedLemmas.{grown_trans}
use Rattle.nq_part_lines.proofs.five.pairs_of_five.Goals as goal

pub returns-in_err-b-clause-grows : goal.returns-in_err-b-clause-grows
returns-in_err-b-clause-grows c = grown_trans c.args.history.now c.args.work.now c.symbol.new.work c.symbol-2.new.work c.symbol.ensures.grows c.symbol-2.ensures.grows

pub returns-in_err-x-clause-grows : goal.returns-in_err-x-clause-grows
returns-in_err-x-clause-grows c = grown_trans c.args.history.now c.args.work.now c.symbol.new.work c.symbol-3.new.work c.symbol.ensures.grows (grown_trans c.args.history.now c.symbol.new.work c.symbol-2.new.work c.symbol-3.new.work c.symbol-2.ensures.grows c.symbol-3.ensures.grows)

pub returns-in_err-y-clause-grows : goal.returns-in_err-y-clause-grows
returns-in_err-y-clause-grows c = grown_trans c.args.history.now c.args.work.now c.symbol.new.work c.symbol-4.new.work c.symbol.ensures.grows (grown_trans c.args.history.now c.symbol.new.work c.symbol-2.new.work c.symbol-4.new.work c.symbol-2.ensures.grows (grown_trans c.args.history.now c.symbol-2.new.work c.symbol-3.new.work c.symbol-4.new.work c.symbol-3.ensures.grows c.symbol-4.ensures.grows))

pub returns-in_err-z-clause-grows : goal.returns-in_err-z-clause-grows
returns-in_err-z-clause-grows c = grown_trans c.args.history.now c.args.work.now c.symbol.new.work c.symbol-5.new.work c.symbol.ensures.grows (grown_trans c.args.history.now c.symbol.new.work c.symbol-2.new.work c.symbol-5.new.work c.symbol-2.ensures.grows (grown_trans c.args.history.now c.symbol-2.new.work c.symbol-3.new.work c.symbol-5.new.work c.symbol-3.ensures.grows (grown_trans c.args.history.now c.symbol-3.new.work c.symbol-4.new.work c.symbol-5.new.work c.symbol-4.ensures.grows c.symbol-5.ensures.grows)))

pub returns-in_err-pairs-clause-grows : goal.returns-in_err-pairs-clause-grows
returns-in_err-pairs-clause-grows c = grown_trans c.args.history.now c.args.work.now c.symbol.new.work c.symbol-5.new.work c.symbol.ensures.grows (grown_trans c.args.history.now c.symbol.new.work c.symbol-2.new.work c.symbol-5.new.work c.symbol-2.ensures.grows (grown_trans c.args.history.now c.symbol-2.new.work c.symbol-3.new.work c.symbol-5.new.work c.symbol-3.ensures.grows (grown_trans c.args.history.now c.symbol-3.new.work c.symbol-4.new.work c.symbol-5.new.work c.symbol-4.ensures.grows c.symbol-5.ensures.grows)))

pub returns-clause-grows : goal.returns-clause-grows
returns-clause-grows c = grown_trans c.args.history.now c.args.work.now c.symbol.new.work c.symbol-5.new.work c.symbol.ensures.grows (grown_trans c.args.history.now c.symbol.new.work c.symbol-2.new.work c.symbol-5.new.work c.symbol-2.ensures.grows (grown_trans c.args.history.now c.symbol-2.new.work c.symbol-3.new.work c.symbol-5.new.work c.symbol-3.ensures.grows (grown_trans c.args.history.now c.symbol-3.new.work c.symbol-4.new.work c.symbol-5.new.work c.symbol-4.ensures.grows c.symbol-5.ensures.grows)))

pub returns-clause-pairs : goal.returns-clause-pairs
returns-clause-pairs c = five_paired c.args.history.now c.args.work.now c.symbol-5.new.work c.requires.stands (grown_trans c.args.history.now c.args.work.now c.symbol.new.work c.symbol-5.new.work c.symbol.ensures.grows (grown_trans c.args.history.now c.symbol.new.work c.symbol-2.new.work c.symbol-5.new.work c.symbol-2.ensures.grows (grown_trans c.args.history.now c.symbol-2.new.work c.symbol-3.new.work c.symbol-5.new.work c.symbol-3.ensures.grows (grown_trans c.args.history.now c.symbol-3.new.work c.symbol-4.new.work c.symbol-5.new.work c.symbol-4.ensures.grows c.symbol-5.ensures.grows)))).grows c.args.terms c.requires.terms c.in_ok-pairs.pairs.items c.in_ok-a.a c.in_ok-b.b c.in_ok-x.x c.in_ok-y.y c.in_ok-z.z c.in_ok-pairs.ensures.items (name_grown c.symbol.new.work.bank c.symbol-5.new.work.bank c.in_ok-a.a _ (grown_trans c.args.history.now c.symbol.new.work c.symbol-2.new.work c.symbol-5.new.work c.symbol-2.ensures.grows (grown_trans c.args.history.now c.symbol-2.new.work c.symbol-3.new.work c.symbol-5.new.work c.symbol-3.ensures.grows (grown_trans c.args.history.now c.symbol-3.new.work c.symbol-4.new.work c.symbol-5.new.work c.symbol-4.ensures.grows c.symbol-5.ensures.grows))).grows.bank c.in_ok-a.ensures.name) (name_grown c.symbol-2.new.work.bank c.symbol-5.new.work.bank c.in_ok-b.b _ (grown_trans c.args.history.now c.symbol-2.new.work c.symbol-3.new.work c.symbol-5.new.work c.symbol-3.ensures.grows (grown_trans c.args.history.now c.symbol-3.new.work c.symbol-4.new.work c.symbol-5.new.work c.symbol-4.ensures.grows c.symbol-5.ensures.grows)).grows.bank c.in_ok-b.ensures.name) (name_grown c.symbol-3.new.work.bank c.symbol-5.new.work.bank c.in_ok-x.x _ (grown_trans c.args.history.now c.symbol-3.new.work c.symbol-4.new.work c.symbol-5.new.work c.symbol-4.ensures.grows c.symbol-5.ensures.grows).grows.bank c.in_ok-x.ensures.name) (name_grown c.symbol-4.new.work.bank c.symbol-5.new.work.bank c.in_ok-y.y _ c.symbol-5.ensures.grows.grows.bank c.in_ok-y.ensures.name) c.in_ok-z.ensures.name

pub returns-clause-over : goal.returns-clause-over
returns-clause-over c = five_in c.args.history.now c.args.work.now c.symbol-5.new.work c.requires.stands (grown_trans c.args.history.now c.args.work.now c.symbol.new.work c.symbol-5.new.work c.symbol.ensures.grows (grown_trans c.args.history.now c.symbol.new.work c.symbol-2.new.work c.symbol-5.new.work c.symbol-2.ensures.grows (grown_trans c.args.history.now c.symbol-2.new.work c.symbol-3.new.work c.symbol-5.new.work c.symbol-3.ensures.grows (grown_trans c.args.history.now c.symbol-3.new.work c.symbol-4.new.work c.symbol-5.new.work c.symbol-4.ensures.grows c.symbol-5.ensures.grows)))).grows c.args.terms c.requires.terms c.in_ok-pairs.pairs.items c.in_ok-a.a c.in_ok-b.b c.in_ok-x.x c.in_ok-y.y c.in_ok-z.z c.in_ok-pairs.ensures.items (name_grown c.symbol.new.work.bank c.symbol-5.new.work.bank c.in_ok-a.a _ (grown_trans c.args.history.now c.symbol.new.work c.symbol-2.new.work c.symbol-5.new.work c.symbol-2.ensures.grows (grown_trans c.args.history.now c.symbol-2.new.work c.symbol-3.new.work c.symbol-5.new.work c.symbol-3.ensures.grows (grown_trans c.args.history.now c.symbol-3.new.work c.symbol-4.new.work c.symbol-5.new.work c.symbol-4.ensures.grows c.symbol-5.ensures.grows))).grows.bank c.in_ok-a.ensures.name) (name_grown c.symbol-2.new.work.bank c.symbol-5.new.work.bank c.in_ok-b.b _ (grown_trans c.args.history.now c.symbol-2.new.work c.symbol-3.new.work c.symbol-5.new.work c.symbol-3.ensures.grows (grown_trans c.args.history.now c.symbol-3.new.work c.symbol-4.new.work c.symbol-5.new.work c.symbol-4.ensures.grows c.symbol-5.ensures.grows)).grows.bank c.in_ok-b.ensures.name) (name_grown c.symbol-3.new.work.bank c.symbol-5.new.work.bank c.in_ok-x.x _ (grown_trans c.args.history.now c.symbol-3.new.work c.symbol-4.new.work c.symbol-5.new.work c.symbol-4.ensures.grows c.symbol-5.ensures.grows).grows.bank c.in_ok-x.ensures.name) (name_grown c.symbol-4.new.work.bank c.symbol-5.new.work.bank c.in_ok-y.y _ c.symbol-5.ensures.grows.grows.bank c.in_ok-y.ensures.name) c.in_ok-z.ensures.name
