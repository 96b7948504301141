use Rattle.nq_replay.proofs.UncountedLemmas.{grown_refl, grown_trans}
use Rattle.nq_descents.proofs.nests.nest_line.Goals as goal

pub returns-in_err-inner : goal.returns-in_err-inner
returns-in_err-inner c = grown_refl c.args.history.now c.args.work.now c.requires

pub returns-in_err-reached : goal.returns-in_err-reached
returns-in_err-reached c = c.level_of.ensures

pub loop-u-preserved : goal.loop-u-preserved
loop-u-preserved c = grown_trans c.args.history.now c.args.work.now c.loop-u.work c.further.new.work c.loop-u.invariant c.further.ensures

pub returns-in_err-reached-2 : goal.returns-in_err-reached-2
returns-in_err-reached-2 c = grown_trans c.args.history.now c.args.work.now c.loop-u.work c.further.new.work c.loop-u.invariant c.further.ensures
