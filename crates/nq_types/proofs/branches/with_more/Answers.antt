use Rattle.nq_types.proofs.GuessLemmas.{all_more}
use Rattle.nq_types.proofs.branches.with_more.Goals as goal

pub returns-in-Ok-clause-all : goal.returns-in-Ok-clause-all
returns-in-Ok-clause-all c = all_more c.args.history.now c.args.work.now c.args.more c.args.assumed.now c.in-Ok.all.items c.requires.more c.requires.assumed c.in-Ok.ensures
