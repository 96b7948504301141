use Rattle.nq_replay.proofs.UncountedLemmas.{grown_refl, grown_trans}
use Rattle.nq_descents.proofs.facts.facts_of.Goals as goal

pub returns-in_err-facts : goal.returns-in_err-facts
returns-in_err-facts c = grown_refl c.args.history.now c.args.work.now c.requires

pub loop-k-init : goal.loop-k-init
loop-k-init c = grown_refl c.args.history.now c.args.work.now c.requires

pub add_parts-requires : goal.add_parts-requires
add_parts-requires c = c.loop-k.invariant.grows.stands

pub loop-k-preserved : goal.loop-k-preserved
loop-k-preserved c = grown_trans c.args.history.now c.args.work.now c.loop-k.work c.add_parts.new.work c.loop-k.invariant c.add_parts.ensures

pub returns-in_err-add_parts : goal.returns-in_err-add_parts
returns-in_err-add_parts c = grown_trans c.args.history.now c.args.work.now c.loop-k.work c.add_parts.new.work c.loop-k.invariant c.add_parts.ensures
