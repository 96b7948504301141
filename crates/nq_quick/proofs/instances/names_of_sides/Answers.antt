use Rattle.nq_quick.proofs.LineLemmas.{grown_trans}
use Rattle.nq_quick.proofs.GrownLemmas.{name_grown}
use Rattle.nq_quick.proofs.instances.names_of_sides.Goals as goal

pub returns-clause-names : goal.returns-clause-names
returns-clause-names c = (name_grown c.symbol.new.work.bank c.symbol-2.new.work.bank c.in_ok-left.left _ c.symbol-2.ensures.grows.grows.bank c.in_ok-left.ensures.name, c.in_ok-right.ensures.name)

pub returns-clause-grows : goal.returns-clause-grows
returns-clause-grows c = grown_trans c.args.history.now c.args.work.now c.symbol.new.work c.symbol-2.new.work c.symbol.ensures.grows c.symbol-2.ensures.grows

pub returns-in_err-right-clause-grows : goal.returns-in_err-right-clause-grows
returns-in_err-right-clause-grows c = grown_trans c.args.history.now c.args.work.now c.symbol.new.work c.symbol-2.new.work c.symbol.ensures.grows c.symbol-2.ensures.grows
