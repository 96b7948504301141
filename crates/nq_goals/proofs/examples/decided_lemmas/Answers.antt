use Rattle.nq_goals.proofs.DecidedLemmas.{decided_examples}
use Rattle.nq_goals.proofs.examples.decided_lemmas.Goals as goal

pub returns : goal.returns
returns c = decided_examples
