use Rattle.nq_replay.proofs.UncountedLemmas.{grown_refl, grown_trans}
use Rattle.nq_descents.proofs.bases.turned.Goals as goal

pub returns-in_err-left : goal.returns-in_err-left
returns-in_err-left c = grown_refl c.args.history.now c.args.work.now c.requires

pub returns-in_err-right : goal.returns-in_err-right
returns-in_err-right c = grown_refl c.args.history.now c.args.work.now c.requires

pub returns-in_err-same : goal.returns-in_err-same
returns-in_err-same c = c.reflexive.ensures

pub replace-requires : goal.replace-requires
replace-requires c = c.reflexive.ensures.grows.stands

pub returns-in_err-other : goal.returns-in_err-other
returns-in_err-other c = grown_trans c.args.history.now c.args.work.now c.reflexive.new.work c.replace.new.work c.reflexive.ensures c.replace.ensures

pub cut-requires : goal.cut-requires
cut-requires c = c.replace.ensures.grows.stands

pub returns : goal.returns
returns c = grown_trans c.args.history.now c.args.work.now c.reflexive.new.work c.cut.new.work c.reflexive.ensures (grown_trans c.args.history.now c.reflexive.new.work c.replace.new.work c.cut.new.work c.replace.ensures c.cut.ensures)
