use Rattle.nq_calls.proofs.CountedLemmas.{counted_obligations}
use Rattle.nq_calls.proofs.laws.counted_obligations.Goals as goal

pub returns : goal.returns
returns c = counted_obligations
