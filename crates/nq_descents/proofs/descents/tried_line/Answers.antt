use Rattle.nq_replay.proofs.UncountedLemmas.{grown_refl, grown_trans}
use Rattle.nq_descents.proofs.descents.tried_line.Goals as goal

pub returns-in_err-goal : goal.returns-in_err-goal
returns-in_err-goal c = grown_refl c.args.history.now c.args.work.now c.requires

pub returns-in_err-facts : goal.returns-in_err-facts
returns-in_err-facts c = c.facts_of.ensures

pub returns-in_err-wanted : goal.returns-in_err-wanted
returns-in_err-wanted c = c.facts_of.ensures

pub line_of-requires : goal.line_of-requires
line_of-requires c = c.facts_of.ensures.grows.stands

pub returns-in_err-line : goal.returns-in_err-line
returns-in_err-line c = grown_trans c.args.history.now c.args.work.now c.facts_of.new.work c.line_of.new.work c.facts_of.ensures c.line_of.ensures

pub restored-requires : goal.restored-requires
restored-requires c = c.line_of.ensures.grows.stands

pub returns : goal.returns
returns c = grown_trans c.args.history.now c.args.work.now c.facts_of.new.work c.restored.new.work c.facts_of.ensures (grown_trans c.args.history.now c.facts_of.new.work c.line_of.new.work c.restored.new.work c.line_of.ensures c.restored.ensures)
