use Rattle.nq_check.proofs.ArityLemmas.{ground_within}
use Rattle.nq_check.proofs.arities.is_one_of.Goals as goal

pub is_ground-requires-clause-known : goal.is_ground-requires-clause-known
is_ground-requires-clause-known c = ground_within c.args.functions.now c.loop-known.known-index _ c.requires.functions c.loop-known-test.true
