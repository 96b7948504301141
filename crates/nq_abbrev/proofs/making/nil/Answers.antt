use Rattle.nq_abbrev.proofs.MakingLemmas.{nil_shallow}
use Rattle.nq_abbrev.proofs.making.nil.Goals as goal

pub returns-clause-not_deep : goal.returns-clause-not_deep
returns-clause-not_deep c = λ e. nil_shallow (c.atom.ensures.deep e)
