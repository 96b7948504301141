use Rattle.nq_kernel.proofs.GrowingLemmas.{WorkGrows-refl, WorkGrows-trans}
use Rattle.nq_tactic.proofs.falls.learn_falls_among.Goals as goal

pub loop-place-init : goal.loop-place-init
loop-place-init c = record { grows = WorkGrows-refl c.args.history.now c.args.work.now c.requires.can.stands; can = c.requires.can }

pub returns-in_err-learn_falls_at-clause-grows : goal.returns-in_err-learn_falls_at-clause-grows
returns-in_err-learn_falls_at-clause-grows c =
    WorkGrows-trans c.args.history.now c.args.work.now c.loop-place.work c.learn_falls_at.new.work c.loop-place.invariant.grows c.learn_falls_at.ensures.grows

pub loop-place-preserved : goal.loop-place-preserved
loop-place-preserved c = record {
  grows = WorkGrows-trans c.args.history.now c.args.work.now c.loop-place.work c.learn_falls_at.new.work c.loop-place.invariant.grows c.learn_falls_at.ensures.grows;
  can = c.in_ok-learn_falls_at.ensures.can;
}
