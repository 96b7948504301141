use Rattle.nq_replay.proofs.UncountedLemmas.{grown_refl}
use Rattle.nq_descents.proofs.facts.add_denied.Goals as goal

pub returns-in_err-inner : goal.returns-in_err-inner
returns-in_err-inner c = grown_refl c.args.history.now c.args.work.now c.requires

pub returns-then-is_call-2 : goal.returns-then-is_call-2
returns-then-is_call-2 c = grown_refl c.args.history.now c.args.work.now c.requires

pub returns : goal.returns
returns c = grown_refl c.args.history.now c.args.work.now c.requires
