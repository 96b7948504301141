use Rattle.nq_kernel.proofs.GrowingLemmas.{WorkGrows-trans}
use Rattle.nq_lines.specs.Lines.{IsTermIn}
use Rattle.nq_schemes.proofs.GrownLemmas.{one_all, ready_grown}
use Rattle.nq_schemes.proofs.owed.owed_falls.Goals as goal

pub all_opened-requires-clause-goal : goal.all_opened-requires-clause-goal
all_opened-requires-clause-goal c = one_all (IsTermIn c.args.history.now c.args.work.now) c.args.call c.requires.call

pub owed_of-requires-clause-ready : goal.owed_of-requires-clause-ready
owed_of-requires-clause-ready c = ready_grown c.args.history.now c.args.work.now c.all_opened.new.work c.requires.stands c.all_opened.ensures.grows c.requires.ready

pub returns-in-Some-clause-grows : goal.returns-in-Some-clause-grows
returns-in-Some-clause-grows c = WorkGrows-trans c.args.history.now c.args.work.now c.all_opened.new.work c.owed_of.new.work c.all_opened.ensures.grows c.owed_of.ensures.grows
