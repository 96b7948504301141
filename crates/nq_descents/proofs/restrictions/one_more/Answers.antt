use Rattle.nq_replay.proofs.UncountedLemmas.{grown_refl}
use Rattle.nq_descents.proofs.restrictions.one_more.Goals as goal

pub returns-then-not-is_call : goal.returns-then-not-is_call
returns-then-not-is_call c = grown_refl c.args.history.now c.args.work.now c.requires
