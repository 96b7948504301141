use Rattle.nq_replay.proofs.UncountedLemmas.{grown_refl}
use Rattle.nq_descents.proofs.bases.turned_term.Goals as goal

pub returns-in_err-left : goal.returns-in_err-left
returns-in_err-left c = grown_refl c.args.history.now c.args.work.now c.requires

pub returns-in_err-right : goal.returns-in_err-right
returns-in_err-right c = grown_refl c.args.history.now c.args.work.now c.requires

pub returns : goal.returns
returns c = c.equate.ensures
