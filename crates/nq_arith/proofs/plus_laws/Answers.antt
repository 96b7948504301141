use Rattle.nq_proof.proofs.SoundLogs.{grown}
use Rattle.nq_laws.specs.Plus.{sum_is_number_clause}
use Rattle.nq_laws.specs.PlusOrder.{sum_associates_clause, sum_commutes_clause}
use Rattle.nq_laws.proofs.Plus.{sum_is_number}
use Rattle.nq_laws.proofs.PlusOrder.{sum_associates, sum_commutes}
use Rattle.nq_arith.proofs.plus_laws.Goals as goal

pub returns-clause-number : goal.returns-clause-number
returns-clause-number c = grown sum_is_number_clause sum_is_number

pub returns-clause-commutes : goal.returns-clause-commutes
returns-clause-commutes c = grown sum_commutes_clause sum_commutes

pub returns-clause-associates : goal.returns-clause-associates
returns-clause-associates c = grown sum_associates_clause sum_associates
