use Rattle.nq_shell_parts.proofs.SummandLemmas.{sum_is, summand_is}
use Rattle.nq_shell_parts.proofs.laws.summands_found.Goals as goal

pub returns : goal.returns
returns c = λ ts place more e. (sum_is ts place more e, summand_is ts place more e)
