use Rattle.nq_elim.proofs.WayLemmas.{eliminations_last}
use Rattle.nq_elim.proofs.laws.eliminations_last.Goals as goal

pub returns : goal.returns
returns c = eliminations_last
