use Rattle.nq_kernel.proofs.GrowingLemmas.{WorkGrows-refl, WorkGrows-trans}
use Rattle.nq_lines.proofs.FactLemmas.{own_terms_grown}
use Rattle.nq_schemes.proofs.GrownLemmas.{terms_grown}
use Rattle.nq_schemes.proofs.showing.shown_line.Goals as goal

pub returns-then-not-arithmetic-clause-grows : goal.returns-then-not-arithmetic-clause-grows
returns-then-not-arithmetic-clause-grows c = WorkGrows-refl c.args.history.now c.args.work.now c.requires.stands

pub linear_line-requires-clause-own : goal.linear_line-requires-clause-own
linear_line-requires-clause-own c = own_terms_grown c.args.history.now c.args.work.now c.shell_line.new.work c.shell_line.ensures.grows c.requires.stands c.requires.own

pub linear_line-requires-clause-goal : goal.linear_line-requires-clause-goal
linear_line-requires-clause-goal c = terms_grown c.args.history.now c.args.work.now c.shell_line.new.work c.requires.stands c.shell_line.ensures.grows c.args.goal.now c.requires.goal

pub returns-in-None-clause-grows : goal.returns-in-None-clause-grows
returns-in-None-clause-grows c = WorkGrows-trans c.args.history.now c.args.work.now c.shell_line.new.work c.linear_line.new.work c.shell_line.ensures.grows c.linear_line.ensures.grows
