use Rattle.nq_eliminate.proofs.RuleLemmas.{rules_suffice_law}
use Rattle.nq_eliminate.proofs.laws.rules_suffice.Goals as goal

pub returns : goal.returns
returns c = rules_suffice_law
