use Rattle.nq_proof.proofs.SoundLogs.{grown}
use Rattle.nq_laws.specs.Sizes.{first_is_smaller_clause, rest_is_smaller_clause}
use Rattle.nq_laws.proofs.Sizes.{first_is_smaller, rest_is_smaller}
use Rattle.nq_laws.proofs.Ordinals.{size_is_ordinal_at}
use Rattle.nq_laws.proofs.Descents.{fix_is_ordinal_at}
use Rattle.nq_arith.proofs.measure_laws.Goals as goal

pub returns-clause-size : goal.returns-clause-size
returns-clause-size c = size_is_ordinal_at

pub returns-clause-number : goal.returns-clause-number
returns-clause-number c = fix_is_ordinal_at

pub returns-clause-first : goal.returns-clause-first
returns-clause-first c = grown first_is_smaller_clause first_is_smaller

pub returns-clause-rest : goal.returns-clause-rest
returns-clause-rest c = grown rest_is_smaller_clause rest_is_smaller
