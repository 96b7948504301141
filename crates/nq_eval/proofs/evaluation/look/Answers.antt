use Rattle.std.proofs.Common.{◌≡◌, ◌≤◌, ◌<◌, ◌+◌, arith}
use Rattle.nq_bank.specs.Content.{term_at}
use Rattle.nq_eval.specs.Weights.{term_weight, frames_weight, step_weight}
use Rattle.nq_eval.specs.Runs.{run_weight}
use Rattle.nq_eval.proofs.LineLemmas.{grown_refl}
use Rattle.nq_eval.proofs.KnownLemmas.{knows_grown}
use Rattle.nq_eval.proofs.ClosingLemmas.{usable_after}
use Rattle.nq_eval.proofs.EvaluationLemmas.{can_after}
use Rattle.nq_eval.proofs.FrameLemmas.{on_ok, all_waiting_after, frames_weight_after}
use Rattle.nq_eval.proofs.WeightLemmas.{two_turns}
use Rattle.nq_eval.proofs.evaluation.look.Goals as goal

pub returns-in-Some-clause-lighter : goal.returns-in-Some-clause-lighter
returns-in-Some-clause-lighter c =
    let bank = c.args.work.now.bank in
    let two : 2 ≤ term_weight (term_at bank c.args.request.term) = two_turns (term_at bank c.args.request.term) in
    omega (arith, two)

pub returns-in-Some-clause-grows : goal.returns-in-Some-clause-grows
returns-in-Some-clause-grows c = grown_refl c.args.history.now c.args.work.now c.requires.can.stands

pub take_step-requires-clause-can : goal.take_step-requires-clause-can
take_step-requires-clause-can c =
    let h = c.args.history.now in
    let old = c.args.work.now in
    let mid = c.begin.new.work in
    let s = c.requires.can.stands in
    can_after h old mid s c.begin.ensures.grows c.args.memo.now c.args.memo.now c.requires.can (knows_grown h old mid c.args.memo.now s c.begin.ensures.grows.grows c.requires.can.knows)

pub take_step-requires-clause-waiting : goal.take_step-requires-clause-waiting
take_step-requires-clause-waiting c = all_waiting_after c.args.history.now c.args.work.now c.begin.new.work c.requires.can.stands c.begin.ensures.grows c.args.run.now.frames.items c.args.run.now.whole c.args.request c.requires.waiting

pub take_step-requires-clause-term : goal.take_step-requires-clause-term
take_step-requires-clause-term c = usable_after c.args.history.now c.args.work.now c.begin.new.work c.requires.can.stands c.begin.ensures.grows c.args.request.term c.requires.term

pub returns-clause-lighter : goal.returns-clause-lighter
returns-clause-lighter c =
    let h = c.args.history.now in
    let old = c.args.work.now in
    let mid = c.begin.new.work in
    let fs = c.args.run.now.frames.items in
    let less : step_weight mid.bank c.in_ok-step.step < term_weight (term_at old.bank c.args.request.term) = c.in_ok-step.ensures.step.lighter in
    let same : frames_weight mid.bank fs ≡ frames_weight old.bank fs = frames_weight_after h old mid c.requires.can.stands c.begin.ensures.grows fs c.args.run.now.whole c.args.request c.requires.waiting in
    on_ok c.take_step.result (run_weight mid.bank c.take_step.new.run ≡ step_weight mid.bank c.in_ok-step.step + frames_weight mid.bank fs) (run_weight mid.bank c.take_step.new.run < term_weight (term_at old.bank c.args.request.term) + frames_weight old.bank fs)
    (λ e. omega (arith, e, less, same)) c.take_step.ensures.lighter
