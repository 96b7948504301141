use Rattle.nq_replay.proofs.UncountedLemmas.{grown_refl}
use Rattle.nq_descents.proofs.facts.add_parts.Goals as goal

pub returns-then-is_call : goal.returns-then-is_call
returns-then-is_call c = grown_refl c.args.history.now c.args.work.now c.requires

pub returns-in_err-t : goal.returns-in_err-t
returns-in_err-t c = grown_refl c.args.history.now c.args.work.now c.requires

pub returns : goal.returns
returns c = grown_refl c.args.history.now c.args.work.now c.requires
