use Rattle.std.proofs.Common.{◌≡◌, ◌+◌, ◌++◌, ◌∙◌, List, [], ◌∷◌, sym, ap, subst, arith}
use Rattle.nq_eval.specs.declared.frames.Frame.{Frame}
use Rattle.nq_eval.specs.declared.frames.Request.{Request}
use Rattle.nq_eval.specs.declared.frames.Turn.{Turn}
use Rattle.nq_eval.specs.Frames.{IsWaiting, AreWaiting, IsStep, IsTurn, turn_of, hand_of}
use Rattle.nq_eval.specs.Weights.{turn_weight, wait_weight, frames_weight, step_weight}
use Rattle.nq_eval.proofs.FrameLemmas.{waiting_more, weight_more, hand_is, turn_stands}
use Rattle.nq_eval.proofs.evaluation.take_step.Goals as goal

pub returns-in_ok-push-in-Wait-clause-run : goal.returns-in_ok-push-in-Wait-clause-run
returns-in_ok-push-in-Wait-clause-run c =
    let h = c.args.history.now in
    let work = c.args.work.now in
    let f = c.in-Wait.frame in
    let whole = c.args.run.now.whole in
    let fs : List Frame = c.args.run.now.frames.items in
    let all : List Frame = c.push.new.self.items in
    let items : all ≡ fs ++ f ∷ [] = c.in_ok-push-in-Wait.ensures.items in
    let step : IsWaiting h work f × (f.request ≡ c.args.request) = subst (IsStep h work c.args.request) c.in-Wait.is c.requires.step in
    let turn : c.turn_of-run.result ≡ turn_of f = c.turn_of-run.ensures in
    record {
      can = c.requires.can;
      waiting = subst (λ (t : Turn). AreWaiting h work all whole (hand_of t)) (sym turn) (
          subst (λ (xs : List Frame). AreWaiting h work xs whole (hand_of (turn_of f))) (sym items) (
          subst (λ (r : Request). AreWaiting h work (fs ++ f ∷ []) whole r) (sym (hand_is f))
          (waiting_more h work fs f whole c.args.request c.requires.waiting step.0 step.1)));
      turn_is = subst (IsTurn h work) (sym turn) (turn_stands h work f step.0);
    }

pub returns-in_ok-push-in-Wait-clause-lighter : goal.returns-in_ok-push-in-Wait-clause-lighter
returns-in_ok-push-in-Wait-clause-lighter c =
    let bank = c.args.work.now.bank in
    let f = c.in-Wait.frame in
    let fs : List Frame = c.args.run.now.frames.items in
    let all : List Frame = c.push.new.self.items in
    let items : all ≡ fs ++ f ∷ [] = c.in_ok-push-in-Wait.ensures.items in
    let turn : turn_weight bank c.turn_of-run.result ≡ turn_weight bank (turn_of f) = ap (turn_weight bank) c.turn_of-run.ensures in
    let more : frames_weight bank all ≡ wait_weight bank f.wait + frames_weight bank fs = ap (frames_weight bank) items ∙ weight_more bank fs f in
    let step : step_weight bank c.args.step ≡ turn_weight bank (turn_of f) + wait_weight bank f.wait = ap (step_weight bank) c.in-Wait.is in
    omega (arith, turn, more, step)
