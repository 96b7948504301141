use Rattle.nq_bank.proofs.Growth.{IsNamed-grown}
use Rattle.nq_kernel.proofs.GrowingLemmas.{WorkGrows-trans}
use Rattle.nq_lines.proofs.TermLemmas.{term_grown}
use Rattle.nq_tactic.proofs.falls.learn_owed_after.Goals as goal

pub learn_owed-requires-clause-function : goal.learn_owed-requires-clause-function
learn_owed-requires-clause-function c = IsNamed-grown c.args.work.now.bank c.learn_line.new.work.bank c.args.f c.learn_line.ensures.grows.bank c.requires.function

pub learn_owed-requires-clause-call : goal.learn_owed-requires-clause-call
learn_owed-requires-clause-call c = term_grown c.args.history.now c.args.work.now c.learn_line.new.work c.args.call c.requires.can.stands c.learn_line.ensures.grows c.requires.call

pub returns-clause-grows : goal.returns-clause-grows
returns-clause-grows c = WorkGrows-trans c.args.history.now c.args.work.now c.learn_line.new.work c.learn_owed.new.work c.learn_line.ensures.grows c.learn_owed.ensures.grows
