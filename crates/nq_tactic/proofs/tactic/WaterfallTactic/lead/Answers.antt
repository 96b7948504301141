use Rattle.nq_kernel.proofs.GrowingLemmas.{WorkGrows-refl}
use Rattle.nq_tactic.proofs.tactic.WaterfallTactic.lead.Goals as goal

pub returns-then-is_idle-clause-grows : goal.returns-then-is_idle-clause-grows
returns-then-is_idle-clause-grows c = WorkGrows-refl c.args.history.now c.args.work.now c.requires.ready.stands

pub returns-in_err-pointless-clause-grows : goal.returns-in_err-pointless-clause-grows
returns-in_err-pointless-clause-grows c = WorkGrows-refl c.args.history.now c.args.work.now c.requires.ready.stands

pub returns-then-pointless-clause-grows : goal.returns-then-pointless-clause-grows
returns-then-pointless-clause-grows c = WorkGrows-refl c.args.history.now c.args.work.now c.requires.ready.stands
