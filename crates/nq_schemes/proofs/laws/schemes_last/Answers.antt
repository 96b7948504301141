use Rattle.nq_induct.proofs.GrownLemmas.{scheme_grown}
use Rattle.nq_schemes.proofs.laws.schemes_last.Goals as goal

pub returns : goal.returns
returns c = λ history old new s stands grows h. scheme_grown history old new stands grows s h
