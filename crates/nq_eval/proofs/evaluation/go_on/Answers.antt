use Rattle.std.proofs.Common.{◌≤◌, ◌∙◌, refl, arith}
use Rattle.nq_eval.specs.Weights.{turn_left}
use Rattle.nq_eval.proofs.LineLemmas.{grown_refl, grown_trans}
use Rattle.nq_eval.proofs.evaluation.go_on.Goals as goal

pub loop-work-init : goal.loop-work-init
loop-work-init c = record { grows = grown_refl c.args.history.now c.args.work.now c.requires.run.can.stands; is_run = c.requires.run; whole = refl; left = omega arith }

pub loop-work-preserved : goal.loop-work-preserved
loop-work-preserved c =
    let inv = c.loop-work.invariant in
    let less : turn_left c.advance.new.run.turn ≤ turn_left c.loop-work.run.turn = c.in_ok-advance.ensures.left in
    let before : turn_left c.loop-work.run.turn ≤ turn_left c.args.run.now.turn = inv.left in
    record {
      grows = grown_trans c.args.history.now c.args.work.now c.loop-work.work c.advance.new.work inv.grows c.advance.ensures.grows;
      is_run = c.in_ok-advance.ensures.run;
      whole = c.advance.ensures.whole ∙ inv.whole;
      left = omega (arith, less, before);
    }

pub returns-in_err-advance-clause-grows : goal.returns-in_err-advance-clause-grows
returns-in_err-advance-clause-grows c = grown_trans c.args.history.now c.args.work.now c.loop-work.work c.advance.new.work c.loop-work.invariant.grows c.advance.ensures.grows
