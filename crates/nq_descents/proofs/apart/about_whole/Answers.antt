use Rattle.nq_replay.proofs.UncountedLemmas.{grown_trans}
use Rattle.nq_descents.proofs.apart.about_whole.Goals as goal

pub returns-in_err-replaced : goal.returns-in_err-replaced
returns-in_err-replaced c = c.replace.ensures

pub cut-requires : goal.cut-requires
cut-requires c = c.replace.ensures.grows.stands

pub returns : goal.returns
returns c = grown_trans c.args.history.now c.args.work.now c.replace.new.work c.cut.new.work c.replace.ensures c.cut.ensures
