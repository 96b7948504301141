use Rattle.nq_kernel.proofs.GrowingLemmas.{WorkGrows-refl, WorkGrows-trans}
use Rattle.nq_schemes.proofs.GrownLemmas.{terms_grown}
use Rattle.nq_schemes.proofs.showing.linear_line.Goals as goal

pub returns-in_err-plain-clause-grows : goal.returns-in_err-plain-clause-grows
returns-in_err-plain-clause-grows c = WorkGrows-refl c.args.history.now c.args.work.now c.requires.stands

pub spelled_line-requires-clause-goal : goal.spelled_line-requires-clause-goal
spelled_line-requires-clause-goal c = terms_grown c.args.history.now c.args.work.now c.plain_line.new.work c.requires.stands c.plain_line.ensures.grows c.args.goal.now c.requires.goal

pub returns-in_err-spelled-in-Some-clause-grows : goal.returns-in_err-spelled-in-Some-clause-grows
returns-in_err-spelled-in-Some-clause-grows c = WorkGrows-trans c.args.history.now c.args.work.now c.plain_line.new.work c.spelled_line.new.work c.plain_line.ensures.grows c.spelled_line.ensures.grows

pub returns-in-Some-clause-grows : goal.returns-in-Some-clause-grows
returns-in-Some-clause-grows c = WorkGrows-trans c.args.history.now c.args.work.now c.plain_line.new.work c.spelled_line.new.work c.plain_line.ensures.grows c.spelled_line.ensures.grows
