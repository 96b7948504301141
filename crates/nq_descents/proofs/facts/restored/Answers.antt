use Rattle.nq_replay.proofs.UncountedLemmas.{grown_refl, grown_trans}
use Rattle.nq_descents.proofs.facts.restored.Goals as goal

pub loop-k-init : goal.loop-k-init
loop-k-init c = grown_refl c.args.history.now c.args.work.now c.requires

pub restored_one-requires : goal.restored_one-requires
restored_one-requires c = c.loop-k.invariant.grows.stands

pub loop-k-preserved : goal.loop-k-preserved
loop-k-preserved c = grown_trans c.args.history.now c.args.work.now c.loop-k.work c.restored_one.new.work c.loop-k.invariant c.restored_one.ensures

pub returns-in_err-reached : goal.returns-in_err-reached
returns-in_err-reached c = grown_trans c.args.history.now c.args.work.now c.loop-k.work c.restored_one.new.work c.loop-k.invariant c.restored_one.ensures
