use Rattle.nq_decrease.proofs.FilterLemmas.{filtered_law, unfiltered_law}
use Rattle.nq_decrease.proofs.laws.structural_filtered.Goals as goal

pub returns-clause-fewer : goal.returns-clause-fewer
returns-clause-fewer c = filtered_law

pub returns-clause-more : goal.returns-clause-more
returns-clause-more c = unfiltered_law
