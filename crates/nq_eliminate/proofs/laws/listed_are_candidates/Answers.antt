use Rattle.nq_eliminate.proofs.LawLemmas.{listed_are_candidates}
use Rattle.nq_eliminate.proofs.laws.listed_are_candidates.Goals as goal

pub returns : goal.returns
returns c = listed_are_candidates
