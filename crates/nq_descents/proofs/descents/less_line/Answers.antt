use Rattle.nq_replay.proofs.UncountedLemmas.{grown_refl}
use Rattle.nq_descents.proofs.descents.less_line.Goals as goal

pub returns-in_err-t : goal.returns-in_err-t
returns-in_err-t c = grown_refl c.args.history.now c.args.work.now c.requires

pub returns-in_err-u : goal.returns-in_err-u
returns-in_err-u c = grown_refl c.args.history.now c.args.work.now c.requires

pub returns-in_err-reached : goal.returns-in_err-reached
returns-in_err-reached c = c.nest_line.ensures

pub returns : goal.returns
returns c = c.nest_line.ensures
