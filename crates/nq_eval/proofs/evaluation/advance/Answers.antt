use Rattle.std.proofs.Common.{◌≡◌, ◌≤◌, ◌<◌, ◌+◌, ◌++◌, ◌∙◌, Option, List, [], ◌∷◌, sym, ap, subst, arith}
use Rattle.std.specs.Prelude.{option_to_list}
use Rattle.nq_eval.specs.declared.frames.Frame.{Frame}
use Rattle.nq_eval.specs.declared.frames.Request.{Request}
use Rattle.nq_eval.specs.Frames.{AreWaiting, IsTurn, IsFoundAt, hand_of, child_of}
use Rattle.nq_eval.specs.Weights.{turn_weight, wait_weight, frames_weight, turn_left, left_after}
use Rattle.nq_eval.specs.Runs.{run_weight}
use Rattle.nq_eval.proofs.FrameLemmas.{on_ok, IsLast, waiting_less, weight_more}
use Rattle.nq_eval.proofs.evaluation.advance.Goals as goal

pub give-requires-clause-waiting : goal.give-requires-clause-waiting
give-requires-clause-waiting c =
    let h = c.args.history.now in
    let old = c.args.work.now in
    let run = c.args.run.now in
    let f = c.in-Some.frame in
    let fs : List Frame = c.pop.new.self.items in
    let items : run.frames.items ≡ fs ++ f ∷ [] = c.pop.ensures.items ∙ ap (λ (o : Option Frame). fs ++ option_to_list o) c.in-Some.is in
    let last : IsLast h old fs f run.whole (hand_of run.turn) = waiting_less h old fs f run.whole (hand_of run.turn) (subst (λ (xs : List Frame). AreWaiting h old xs run.whole (hand_of run.turn)) items c.requires.run.waiting) in
    last.rest

pub give-requires-clause-frame : goal.give-requires-clause-frame
give-requires-clause-frame c =
    let h = c.args.history.now in
    let old = c.args.work.now in
    let run = c.args.run.now in
    let f = c.in-Some.frame in
    let fs : List Frame = c.pop.new.self.items in
    let items : run.frames.items ≡ fs ++ f ∷ [] = c.pop.ensures.items ∙ ap (λ (o : Option Frame). fs ++ option_to_list o) c.in-Some.is in
    let last : IsLast h old fs f run.whole (hand_of run.turn) = waiting_less h old fs f run.whole (hand_of run.turn) (subst (λ (xs : List Frame). AreWaiting h old xs run.whole (hand_of run.turn)) items c.requires.run.waiting) in
    last.last

pub give-requires-clause-found : goal.give-requires-clause-found
give-requires-clause-found c =
    let h = c.args.history.now in
    let old = c.args.work.now in
    let run = c.args.run.now in
    let f = c.in-Some.frame in
    let fs : List Frame = c.pop.new.self.items in
    let items : run.frames.items ≡ fs ++ f ∷ [] = c.pop.ensures.items ∙ ap (λ (o : Option Frame). fs ++ option_to_list o) c.in-Some.is in
    let last : IsLast h old fs f run.whole (hand_of run.turn) = waiting_less h old fs f run.whole (hand_of run.turn) (subst (λ (xs : List Frame). AreWaiting h old xs run.whole (hand_of run.turn)) items c.requires.run.waiting) in
    let found : IsFoundAt h old c.in-Give.field-0 c.in-Give.found = subst (IsTurn h old) c.in-Give.is c.requires.run.turn_is in
    subst (λ (r : Request). IsFoundAt h old r c.in-Give.found) (sym (last.child ∙ ap hand_of c.in-Give.is)) found

pub returns-in-Some-clause-lighter : goal.returns-in-Some-clause-lighter
returns-in-Some-clause-lighter c =
    let bank = c.args.work.now.bank in
    let run = c.args.run.now in
    let f = c.in-Some.frame in
    let fs : List Frame = c.pop.new.self.items in
    let items : run.frames.items ≡ fs ++ f ∷ [] = c.pop.ensures.items ∙ ap (λ (o : Option Frame). fs ++ option_to_list o) c.in-Some.is in
    let one : turn_weight bank run.turn ≡ 1 = ap (turn_weight bank) c.in-Give.is in
    let all : frames_weight bank run.frames.items ≡ wait_weight bank f.wait + frames_weight bank fs = ap (frames_weight bank) items ∙ weight_more bank fs f in
    on_ok c.give.result (run_weight c.give.new.work.bank c.give.new.run < wait_weight bank f.wait + 1 + frames_weight bank fs) (run_weight c.give.new.work.bank c.give.new.run < run_weight bank run) (λ less. omega (arith, less, one, all)) c.give.ensures.lighter

pub returns-in-Some-clause-left : goal.returns-in-Some-clause-left
returns-in-Some-clause-left c =
    let h = c.args.history.now in
    let old = c.args.work.now in
    let run = c.args.run.now in
    let f = c.in-Some.frame in
    let fs : List Frame = c.pop.new.self.items in
    let items : run.frames.items ≡ fs ++ f ∷ [] = c.pop.ensures.items ∙ ap (λ (o : Option Frame). fs ++ option_to_list o) c.in-Some.is in
    let last : IsLast h old fs f run.whole (hand_of run.turn) = waiting_less h old fs f run.whole (hand_of run.turn) (subst (λ (xs : List Frame). AreWaiting h old xs run.whole (hand_of run.turn)) items c.requires.run.waiting) in
    let same : left_after (child_of f) c.in-Give.found ≡ left_after c.in-Give.field-0 c.in-Give.found = ap (λ (r : Request). left_after r c.in-Give.found) (last.child ∙ ap hand_of c.in-Give.is) in
    let now : turn_left run.turn ≡ left_after c.in-Give.field-0 c.in-Give.found = ap turn_left c.in-Give.is in
    on_ok c.give.result (turn_left c.give.new.run.turn ≤ left_after (child_of f) c.in-Give.found) (turn_left c.give.new.run.turn ≤ turn_left run.turn) (λ less. omega (arith, less, same, now)) c.give.ensures.left
