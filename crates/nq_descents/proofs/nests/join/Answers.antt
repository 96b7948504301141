use Rattle.nq_replay.proofs.UncountedLemmas.{grown_refl, grown_trans}
use Rattle.nq_descents.proofs.nests.join.Goals as goal

pub returns-in_err-end : goal.returns-in_err-end
returns-in_err-end c = grown_refl c.args.history.now c.args.work.now c.requires

pub returns-in_err-descent : goal.returns-in_err-descent
returns-in_err-descent c = c.descent_of.ensures

pub chain_line-requires : goal.chain_line-requires
chain_line-requires c = c.descent_of.ensures.grows.stands

pub returns-in_err-law : goal.returns-in_err-law
returns-in_err-law c = grown_trans c.args.history.now c.args.work.now c.descent_of.new.work c.chain_line.new.work c.descent_of.ensures c.chain_line.ensures

pub cut-requires : goal.cut-requires
cut-requires c = c.chain_line.ensures.grows.stands

pub returns-in_err-rest : goal.returns-in_err-rest
returns-in_err-rest c = grown_trans c.args.history.now c.args.work.now c.descent_of.new.work c.cut.new.work c.descent_of.ensures (grown_trans c.args.history.now c.descent_of.new.work c.chain_line.new.work c.cut.new.work c.chain_line.ensures c.cut.ensures)

pub cut-requires-2 : goal.cut-requires-2
cut-requires-2 c = c.cut.ensures.grows.stands

pub returns-in_err-line : goal.returns-in_err-line
returns-in_err-line c = grown_trans c.args.history.now c.args.work.now c.descent_of.new.work c.cut-2.new.work c.descent_of.ensures (grown_trans c.args.history.now c.descent_of.new.work c.chain_line.new.work c.cut-2.new.work c.chain_line.ensures (grown_trans c.args.history.now c.chain_line.new.work c.cut.new.work c.cut-2.new.work c.cut.ensures c.cut-2.ensures))

pub returns : goal.returns
returns c = grown_trans c.args.history.now c.args.work.now c.descent_of.new.work c.cut-2.new.work c.descent_of.ensures (grown_trans c.args.history.now c.descent_of.new.work c.chain_line.new.work c.cut-2.new.work c.chain_line.ensures (grown_trans c.args.history.now c.chain_line.new.work c.cut.new.work c.cut-2.new.work c.cut.ensures c.cut-2.ensures))
