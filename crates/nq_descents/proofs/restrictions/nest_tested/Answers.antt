use Rattle.nq_replay.proofs.UncountedLemmas.{grown_refl, grown_trans}
use Rattle.nq_descents.proofs.restrictions.nest_tested.Goals as goal

pub returns-in_err-choices : goal.returns-in_err-choices
returns-in_err-choices c = grown_refl c.args.history.now c.args.work.now c.requires

pub returns-in_err-line : goal.returns-in_err-line
returns-in_err-line c = c.ground_row.ensures

pub first_tested-requires : goal.first_tested-requires
first_tested-requires c = c.loop-k.invariant.grows.stands

pub returns-in_err-first : goal.returns-in_err-first
returns-in_err-first c = grown_trans c.args.history.now c.args.work.now c.loop-k.work c.first_tested.new.work c.loop-k.invariant c.first_tested.ensures

pub one_more-requires : goal.one_more-requires
one_more-requires c = c.first_tested.ensures.grows.stands

pub loop-k-preserved : goal.loop-k-preserved
loop-k-preserved c = grown_trans c.args.history.now c.args.work.now c.loop-k.work c.one_more.new.work c.loop-k.invariant (grown_trans c.args.history.now c.loop-k.work c.first_tested.new.work c.one_more.new.work c.first_tested.ensures c.one_more.ensures)

pub returns-in_err-line-2 : goal.returns-in_err-line-2
returns-in_err-line-2 c = grown_trans c.args.history.now c.args.work.now c.loop-k.work c.one_more.new.work c.loop-k.invariant (grown_trans c.args.history.now c.loop-k.work c.first_tested.new.work c.one_more.new.work c.first_tested.ensures c.one_more.ensures)
