use Rattle.nq_schemes.proofs.SingleLemmas.{pairs_none}
use Rattle.nq_schemes.proofs.certain.certain_pairs.Goals as goal

pub returns-in-None-clause-pairs : goal.returns-in-None-clause-pairs
returns-in-None-clause-pairs c = pairs_none c.args.history.now c.args.work.now c.new.result.items c.new.ensures.items
