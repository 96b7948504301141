use Rattle.nq_calls.proofs.UseLemmas.{smaller_mentions}
use Rattle.nq_calls.proofs.laws.smaller_mentions.Goals as goal

pub returns : goal.returns
returns c = smaller_mentions
