use Rattle.nq_replay.proofs.UncountedLemmas.{grown_trans}
use Rattle.nq_decrease.proofs.levels.law_of.Goals as goal

pub returns-in_ok-line-in-FirstByNoAtom-clause-grows : goal.returns-in_ok-line-in-FirstByNoAtom-clause-grows
returns-in_ok-line-in-FirstByNoAtom-clause-grows c = grown_trans c.args.history.now c.args.work.now c.first_is_smaller-in-FirstByNoAtom.new.work c.first_by_no_atom.new.work c.first_is_smaller-in-FirstByNoAtom.ensures.grows c.first_by_no_atom.ensures.grows

pub returns-in_ok-line-in-RestByNoAtom-clause-grows : goal.returns-in_ok-line-in-RestByNoAtom-clause-grows
returns-in_ok-line-in-RestByNoAtom-clause-grows c = grown_trans c.args.history.now c.args.work.now c.rest_is_smaller-in-RestByNoAtom.new.work c.rest_by_no_atom.new.work c.rest_is_smaller-in-RestByNoAtom.ensures.grows c.rest_by_no_atom.ensures.grows

pub returns-in_ok-line-in-AtomPart-clause-grows : goal.returns-in_ok-line-in-AtomPart-clause-grows
returns-in_ok-line-in-AtomPart-clause-grows c = grown_trans c.args.history.now c.args.work.now c.less_than_one_more.new.work c.atom_part_is_smaller.new.work c.less_than_one_more.ensures.grows c.atom_part_is_smaller.ensures.grows

pub returns-in_ok-line-in-NegativePart-clause-grows : goal.returns-in_ok-line-in-NegativePart-clause-grows
returns-in_ok-line-in-NegativePart-clause-grows c = grown_trans c.args.history.now c.args.work.now c.less_than_one_more-in-NegativePart.new.work c.negative_part_is_smaller.new.work c.less_than_one_more-in-NegativePart.ensures.grows c.negative_part_is_smaller.ensures.grows

pub returns-in_ok-line-in-OneLessByNoZero-clause-grows : goal.returns-in_ok-line-in-OneLessByNoZero-clause-grows
returns-in_ok-line-in-OneLessByNoZero-clause-grows c = grown_trans c.args.history.now c.args.work.now c.number_law.new.work c.one_less_by_no_zero.new.work c.number_law.ensures.grows c.one_less_by_no_zero.ensures.grows

pub returns-in_ok-line-in-OneLessOfNumber-clause-grows : goal.returns-in_ok-line-in-OneLessOfNumber-clause-grows
returns-in_ok-line-in-OneLessOfNumber-clause-grows c = grown_trans c.args.history.now c.args.work.now c.number_law-in-OneLessOfNumber.new.work c.one_less_of_number.new.work c.number_law-in-OneLessOfNumber.ensures.grows c.one_less_of_number.ensures.grows

pub returns-in_ok-line-in-OneLessOfNumberTurned-clause-grows : goal.returns-in_ok-line-in-OneLessOfNumberTurned-clause-grows
returns-in_ok-line-in-OneLessOfNumberTurned-clause-grows c = grown_trans c.args.history.now c.args.work.now c.number_law-in-OneLessOfNumberTurned.new.work c.one_less_of_number_turned.new.work c.number_law-in-OneLessOfNumberTurned.ensures.grows c.one_less_of_number_turned.ensures.grows
