use Rattle.nq_kernel.proofs.GrowingLemmas.{WorkGrows-refl}
use Rattle.nq_tactic.proofs.inducting.lead_inducted.Goals as goal

pub returns-then-hints-clause-grows : goal.returns-then-hints-clause-grows
returns-then-hints-clause-grows c = WorkGrows-refl c.args.history.now c.args.work.now c.requires.can.stands

pub returns-in_err-is_false-clause-grows : goal.returns-in_err-is_false-clause-grows
returns-in_err-is_false-clause-grows c = WorkGrows-refl c.args.history.now c.args.work.now c.requires.can.stands
