use Rattle.nq_replay.proofs.UncountedLemmas.{grown_refl, grown_trans}
use Rattle.nq_descents.proofs.choices.by_neither.Goals as goal

pub returns-in_err-one : goal.returns-in_err-one
returns-in_err-one c = grown_refl c.args.history.now c.args.work.now c.requires

pub returns-in_err-other : goal.returns-in_err-other
returns-in_err-other c = grown_refl c.args.history.now c.args.work.now c.requires

pub returns-in_err-law : goal.returns-in_err-law
returns-in_err-law c = c.opening_line.ensures

pub returns-in_err-denied : goal.returns-in_err-denied
returns-in_err-denied c = c.opening_line.ensures

pub returns-in_err-pattern : goal.returns-in_err-pattern
returns-in_err-pattern c = c.opening_line.ensures

pub instance_at-requires : goal.instance_at-requires
instance_at-requires c = c.opening_line.ensures.grows.stands

pub returns-in_err-here : goal.returns-in_err-here
returns-in_err-here c = grown_trans c.args.history.now c.args.work.now c.opening_line.new.work c.instance_at.new.work c.opening_line.ensures c.instance_at.ensures

pub cut-requires : goal.cut-requires
cut-requires c = c.instance_at.ensures.grows.stands

pub returns-in_err-rest : goal.returns-in_err-rest
returns-in_err-rest c = grown_trans c.args.history.now c.args.work.now c.opening_line.new.work c.cut.new.work c.opening_line.ensures (grown_trans c.args.history.now c.opening_line.new.work c.instance_at.new.work c.cut.new.work c.instance_at.ensures c.cut.ensures)

pub cut-requires-2 : goal.cut-requires-2
cut-requires-2 c = c.cut.ensures.grows.stands

pub returns : goal.returns
returns c = grown_trans c.args.history.now c.args.work.now c.opening_line.new.work c.cut-2.new.work c.opening_line.ensures (grown_trans c.args.history.now c.opening_line.new.work c.instance_at.new.work c.cut-2.new.work c.instance_at.ensures (grown_trans c.args.history.now c.instance_at.new.work c.cut.new.work c.cut-2.new.work c.cut.ensures c.cut-2.ensures))
