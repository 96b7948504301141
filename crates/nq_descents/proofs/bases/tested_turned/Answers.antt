use Rattle.nq_replay.proofs.UncountedLemmas.{grown_trans}
use Rattle.nq_descents.proofs.bases.tested_turned.Goals as goal

pub returns-in_err-line : goal.returns-in_err-line
returns-in_err-line c = c.turned.ensures

pub turned_term-requires : goal.turned_term-requires
turned_term-requires c = c.turned.ensures.grows.stands

pub returns-in_err-other : goal.returns-in_err-other
returns-in_err-other c = grown_trans c.args.history.now c.args.work.now c.turned.new.work c.turned_term.new.work c.turned.ensures c.turned_term.ensures

pub returns-then-has_id : goal.returns-then-has_id
returns-then-has_id c = grown_trans c.args.history.now c.args.work.now c.turned.new.work c.turned_term.new.work c.turned.ensures c.turned_term.ensures

pub denied_twice-requires : goal.denied_twice-requires
denied_twice-requires c = c.turned_term.ensures.grows.stands

pub returns : goal.returns
returns c = grown_trans c.args.history.now c.args.work.now c.turned.new.work c.denied_twice.new.work c.turned.ensures (grown_trans c.args.history.now c.turned.new.work c.turned_term.new.work c.denied_twice.new.work c.turned_term.ensures c.denied_twice.ensures)
