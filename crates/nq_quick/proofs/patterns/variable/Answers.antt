use Rattle.nq_quick.proofs.LineLemmas.{grown_trans}
use Rattle.nq_quick.proofs.patterns.variable.Goals as goal

pub returns-clause-grows : goal.returns-clause-grows
returns-clause-grows c = grown_trans c.args.history.now c.args.work.now c.symbol.new.work c.variable_of.new.work c.symbol.ensures.grows c.variable_of.ensures.grows
