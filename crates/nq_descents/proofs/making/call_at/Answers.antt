use Rattle.nq_replay.proofs.UncountedLemmas.{grown_refl}
use Rattle.nq_descents.proofs.making.call_at.Goals as goal

pub returns-then-not-stands : goal.returns-then-not-stands
returns-then-not-stands c = grown_refl c.args.history.now c.args.work.now c.requires

pub returns-then-not-stands-2 : goal.returns-then-not-stands-2
returns-then-not-stands-2 c = grown_refl c.args.history.now c.args.work.now c.requires

pub returns-in-Num : goal.returns-in-Num
returns-in-Num c = grown_refl c.args.history.now c.args.work.now c.requires

pub returns-in-Var : goal.returns-in-Var
returns-in-Var c = grown_refl c.args.history.now c.args.work.now c.requires
