use Rattle.nq_replay.proofs.UncountedLemmas.{grown_refl, grown_trans}
use Rattle.nq_descents.proofs.parts.met_line.Goals as goal

pub returns-in_err-constant : goal.returns-in_err-constant
returns-in_err-constant c = grown_refl c.args.history.now c.args.work.now c.requires

pub returns-in_err-met : goal.returns-in_err-met
returns-in_err-met c = c.restriction_met.ensures

pub cut-requires : goal.cut-requires
cut-requires c = c.restriction_met.ensures.grows.stands

pub returns : goal.returns
returns c = grown_trans c.args.history.now c.args.work.now c.restriction_met.new.work c.cut.new.work c.restriction_met.ensures c.cut.ensures
