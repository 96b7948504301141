use Rattle.nq_kernel.proofs.GrowingLemmas.{WorkGrows-trans}
use Rattle.nq_lines.proofs.TermLemmas.{term_grown}
use Rattle.nq_arithmetic.proofs.numbers.numeral_line.Goals as goal

pub match_pairs-requires-clause-term : goal.match_pairs-requires-clause-term
match_pairs-requires-clause-term c = term_grown c.args.history.now c.args.work.now c.one_more_than_x.new.work c.args.t c.requires.stands c.one_more_than_x.ensures.grows c.requires.term

pub returns-in_err-pairs-clause-grows : goal.returns-in_err-pairs-clause-grows
returns-in_err-pairs-clause-grows c = WorkGrows-trans c.args.history.now c.args.work.now c.one_more_than_x.new.work c.match_pairs.new.work c.one_more_than_x.ensures.grows c.match_pairs.ensures.grows

pub returns-in_err-line-in-Some-clause-grows : goal.returns-in_err-line-in-Some-clause-grows
returns-in_err-line-in-Some-clause-grows c = WorkGrows-trans c.args.history.now c.args.work.now c.one_more_than_x.new.work c.law_with.new.work c.one_more_than_x.ensures.grows (WorkGrows-trans c.args.history.now c.one_more_than_x.new.work c.match_pairs.new.work c.law_with.new.work c.match_pairs.ensures.grows c.law_with.ensures.grows)

pub returns-in_ok-line-in-Some-clause-grows : goal.returns-in_ok-line-in-Some-clause-grows
returns-in_ok-line-in-Some-clause-grows c = WorkGrows-trans c.args.history.now c.args.work.now c.one_more_than_x.new.work c.law_with.new.work c.one_more_than_x.ensures.grows (WorkGrows-trans c.args.history.now c.one_more_than_x.new.work c.match_pairs.new.work c.law_with.new.work c.match_pairs.ensures.grows c.law_with.ensures.grows)

pub returns-in-None-clause-grows : goal.returns-in-None-clause-grows
returns-in-None-clause-grows c = WorkGrows-trans c.args.history.now c.args.work.now c.one_more_than_x.new.work c.match_pairs.new.work c.one_more_than_x.ensures.grows c.match_pairs.ensures.grows
