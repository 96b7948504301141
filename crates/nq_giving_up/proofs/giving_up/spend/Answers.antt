use Rattle.nq_kernel.proofs.GrowingLemmas.{WorkGrows-refl, WorkGrows-trans}
use Rattle.nq_giving_up.proofs.giving_up.spend.Goals as goal

pub loop-init : goal.loop-init
loop-init c = WorkGrows-refl c.args.history.now c.args.work.now c.requires.stands

pub returns-then-not-count_entry-clause-grows : goal.returns-then-not-count_entry-clause-grows
returns-then-not-count_entry-clause-grows c = WorkGrows-trans c.args.history.now c.args.work.now c.loop.work c.count_entry.new.work c.loop.invariant c.count_entry.ensures.grows

pub loop-preserved : goal.loop-preserved
loop-preserved c = WorkGrows-trans c.args.history.now c.args.work.now c.loop.work c.count_entry.new.work c.loop.invariant c.count_entry.ensures.grows
