use Rattle.nq_proof.proofs.SoundLogs.{grown}
use Rattle.nq_laws.specs.Less.{less_is_irreflexive_clause, sum_is_monotone_clause}
use Rattle.nq_laws.specs.LessChains.{less_is_transitive_clause}
use Rattle.nq_laws.specs.Ordinals.{ordinal_less_is_less_clause}
use Rattle.nq_laws.proofs.Less.{less_is_irreflexive, sum_is_monotone}
use Rattle.nq_laws.proofs.LessChains.{less_is_transitive}
use Rattle.nq_laws.proofs.Ordinals.{ordinal_less_is_less}
use Rattle.nq_arith.proofs.less_laws.Goals as goal

pub returns-clause-irreflexive : goal.returns-clause-irreflexive
returns-clause-irreflexive c = grown less_is_irreflexive_clause less_is_irreflexive

pub returns-clause-transitive : goal.returns-clause-transitive
returns-clause-transitive c = grown less_is_transitive_clause less_is_transitive

pub returns-clause-monotone : goal.returns-clause-monotone
returns-clause-monotone c = grown sum_is_monotone_clause sum_is_monotone

pub returns-clause-ordinals : goal.returns-clause-ordinals
returns-clause-ordinals c = grown ordinal_less_is_less_clause ordinal_less_is_less
