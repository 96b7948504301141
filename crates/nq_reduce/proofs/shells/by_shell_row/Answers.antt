use Rattle.nq_kernel.proofs.GrowingLemmas.{WorkGrows-trans}
use Rattle.nq_reduce.proofs.RewritingLemmas.{can_grown, told_before}
use Rattle.nq_reduce.proofs.shells.by_shell_row.Goals as goal

pub by_wrong_part-requires : goal.by_wrong_part-requires
by_wrong_part-requires c = record { can = can_grown c.args.history.now c.args.work.now c.by_trial.new.work c.by_trial.ensures.grows c.args.assumed.now c.args.t c.requires.can }

pub returns-clause-ok : goal.returns-clause-ok
returns-clause-ok c = told_before c.args.history.now c.args.assumed.now c.args.work.now c.by_trial.new.work c.by_wrong_part.new.work c.args.t c.by_wrong_part.result c.by_trial.ensures.grows c.requires.can c.by_wrong_part.ensures.ok

pub returns-clause-grows : goal.returns-clause-grows
returns-clause-grows c = (WorkGrows-trans c.args.history.now c.args.work.now c.by_trial.new.work c.by_wrong_part.new.work c.by_trial.ensures.grows c.by_wrong_part.ensures.grows)
