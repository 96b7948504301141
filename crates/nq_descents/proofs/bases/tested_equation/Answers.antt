use Rattle.nq_replay.proofs.UncountedLemmas.{grown_refl, grown_trans}
use Rattle.nq_descents.proofs.bases.tested_equation.Goals as goal

pub returns-then-has_id : goal.returns-then-has_id
returns-then-has_id c = grown_refl c.args.history.now c.args.work.now c.requires

pub returns-in_err-plain : goal.returns-in_err-plain
returns-in_err-plain c = c.deny_twice.ensures

pub denied_twice-requires : goal.denied_twice-requires
denied_twice-requires c = c.deny_twice.ensures.grows.stands

pub returns-then-has_id-2 : goal.returns-then-has_id-2
returns-then-has_id-2 c = grown_trans c.args.history.now c.args.work.now c.deny_twice.new.work c.denied_twice.new.work c.deny_twice.ensures c.denied_twice.ensures

pub tested_turned-requires : goal.tested_turned-requires
tested_turned-requires c = c.deny_twice.ensures.grows.stands

pub returns-else-has_id-2 : goal.returns-else-has_id-2
returns-else-has_id-2 c = grown_trans c.args.history.now c.args.work.now c.deny_twice.new.work c.tested_turned.new.work c.deny_twice.ensures c.tested_turned.ensures
