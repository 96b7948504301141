use Rattle.nq_replay.proofs.UncountedLemmas.{grown_trans}
use Rattle.nq_lines.proofs.PairLemmas.{name_grown, three_paired, three_in}
use Rattle.nq_part_lines.proofs.lines.pairs_of_three.Goals as goal

pub returns-in_err-b-clause-grows : goal.returns-in_err-b-clause-grows
returns-in_err-b-clause-grows c = grown_trans c.args.history.now c.args.work.now c.symbol.new.work c.symbol-2.new.work c.symbol.ensures.grows c.symbol-2.ensures.grows

pub returns-in_err-c-clause-grows : goal.returns-in_err-c-clause-grows
returns-in_err-c-clause-grows c = grown_trans c.args.history.now c.args.work.now c.symbol.new.work c.symbol-3.new.work c.symbol.ensures.grows (grown_trans c.args.history.now c.symbol.new.work c.symbol-2.new.work c.symbol-3.new.work c.symbol-2.ensures.grows c.symbol-3.ensures.grows)

pub returns-in_err-pairs-clause-grows : goal.returns-in_err-pairs-clause-grows
returns-in_err-pairs-clause-grows c = grown_trans c.args.history.now c.args.work.now c.symbol.new.work c.symbol-3.new.work c.symbol.ensures.grows (grown_trans c.args.history.now c.symbol.new.work c.symbol-2.new.work c.symbol-3.new.work c.symbol-2.ensures.grows c.symbol-3.ensures.grows)

pub returns-clause-grows : goal.returns-clause-grows
returns-clause-grows c = grown_trans c.args.history.now c.args.work.now c.symbol.new.work c.symbol-3.new.work c.symbol.ensures.grows (grown_trans c.args.history.now c.symbol.new.work c.symbol-2.new.work c.symbol-3.new.work c.symbol-2.ensures.grows c.symbol-3.ensures.grows)

pub returns-clause-pairs : goal.returns-clause-pairs
returns-clause-pairs c =
    let later = grown_trans c.args.history.now c.symbol.new.work c.symbol-2.new.work c.symbol-3.new.work c.symbol-2.ensures.grows c.symbol-3.ensures.grows in
    let all = grown_trans c.args.history.now c.args.work.now c.symbol.new.work c.symbol-3.new.work c.symbol.ensures.grows later in
    three_paired c.args.history.now c.args.work.now c.symbol-3.new.work c.requires.stands all.grows c.in_ok-pairs.pairs.items c.in_ok-a.a c.in_ok-b.b c.in_ok-c.c c.args.x c.args.y c.args.z c.in_ok-pairs.ensures.items
    (name_grown c.symbol.new.work.bank c.symbol-3.new.work.bank c.in_ok-a.a _ later.grows.bank c.in_ok-a.ensures.name) (name_grown c.symbol-2.new.work.bank c.symbol-3.new.work.bank c.in_ok-b.b _ c.symbol-3.ensures.grows.grows.bank c.in_ok-b.ensures.name)
    c.in_ok-c.ensures.name c.requires.first c.requires.second c.requires.third

pub returns-clause-over : goal.returns-clause-over
returns-clause-over c =
    let later = grown_trans c.args.history.now c.symbol.new.work c.symbol-2.new.work c.symbol-3.new.work c.symbol-2.ensures.grows c.symbol-3.ensures.grows in
    let all = grown_trans c.args.history.now c.args.work.now c.symbol.new.work c.symbol-3.new.work c.symbol.ensures.grows later in
    three_in c.args.history.now c.args.work.now c.symbol-3.new.work c.requires.stands all.grows c.in_ok-pairs.pairs.items c.in_ok-a.a c.in_ok-b.b c.in_ok-c.c c.args.x c.args.y c.args.z c.in_ok-pairs.ensures.items
    (name_grown c.symbol.new.work.bank c.symbol-3.new.work.bank c.in_ok-a.a _ later.grows.bank c.in_ok-a.ensures.name) (name_grown c.symbol-2.new.work.bank c.symbol-3.new.work.bank c.in_ok-b.b _ c.symbol-3.ensures.grows.grows.bank c.in_ok-b.ensures.name)
    c.in_ok-c.ensures.name c.requires.first c.requires.second c.requires.third
