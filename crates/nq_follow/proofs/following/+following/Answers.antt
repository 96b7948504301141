use Rattle.std.proofs.Common.{refl, rules, ◌≡◌, ◌≤◌, List, length, sym, subst, arith}
use Rattle.std.specs.Prelude.{All, slice_get, Some}
use Rattle.std.proofs.lemmas.Result.{on_ok_weaker}
use Rattle.nq_bank.specs.Content.{terms_at}
use Rattle.nq_history.specs.Events.{events_at}
use Rattle.nq_history.specs.declared.entry.Entry.{Entry}
use Rattle.nq_history.specs.declared.hints.Hints.{Hints}
use Rattle.nq_kernel.specs.declared.work.Work.{Work}
use Rattle.nq_kernel.specs.Growing.{WorkGrows}
use Rattle.nq_kernel.proofs.GrowingLemmas.{WorkGrows-refl, WorkGrows-trans}
use Rattle.nq_waterfall.specs.declared.trail.Trail.{Trail}
use Rattle.nq_event.specs.EventsAt.{hints_at}
use Rattle.nq_waterfall.specs.Trails.{TrailStands, StepStands, AncestorStands, steps_at, above_at}
use Rattle.nq_waterfall.specs.Solved.{NextGoesOn, TrailGoesOn}
use Rattle.nq_waterfall.specs.Ready.{CanMove, IsGoalIn, IsPathIn}
use Rattle.nq_waterfall.proofs.SameLemmas.{ready_grown, goal_grown, goals_grown, trail_grown, path_grown, path_in_grown, goal_stands}
use Rattle.nq_waterfall.proofs.SolvingLemmas.{same_trail, trace_same, trail_after, pushed_stand, path_pushed, path_in_pushed, found_in, turn_at, next_down, next_trace, move_grown}
use Rattle.nq_follow.proofs.FollowLemmas.{next_goes}
use Rattle.nq_follow.proofs.following.+following.Goals as goal

pub follow-returns-in_err-enter-clause-grows : goal.follow-returns-in_err-enter-clause-grows
follow-returns-in_err-enter-clause-grows g t c = c.enter.ensures.grows

pub follow-lead-requires-clause-ready : goal.follow-lead-requires-clause-ready
follow-lead-requires-clause-ready g t c =
    ready_grown c.args.history.now c.args.work.now c.enter.new.work c.requires.ready.stands c.enter.ensures.grows c.holding.ensures c.args.hints.now c.requires.ready

pub follow-lead-requires-clause-goal : goal.follow-lead-requires-clause-goal
follow-lead-requires-clause-goal g t c = goal_grown c.args.history.now c.args.work.now c.enter.new.work c.requires.ready.stands c.enter.ensures.grows c.args.goal.now c.requires.goal

pub follow-lead-requires-clause-path : goal.follow-lead-requires-clause-path
follow-lead-requires-clause-path g t c =
    subst (All (AncestorStands c.enter.new.work.bank)) (sym c.as_slice.ensures.value) (path_grown c.args.work.now.bank c.enter.new.work.bank c.enter.ensures.grows.bank c.args.trail.now.path.items c.requires.trail.path)

pub follow-lead-requires-clause-path_in : goal.follow-lead-requires-clause-path_in
follow-lead-requires-clause-path_in g t c =
    subst (IsPathIn c.args.history.now c.enter.new.work) (sym c.as_slice.ensures.value) (path_in_grown c.args.history.now c.args.work.now c.enter.new.work c.requires.ready.stands c.enter.ensures.grows c.args.trail.now.path.items c.requires.path_in)

pub follow-returns-in_err-lead-clause-grows : goal.follow-returns-in_err-lead-clause-grows
follow-returns-in_err-lead-clause-grows g t c = WorkGrows-trans c.args.history.now c.args.work.now c.enter.new.work c.lead.new.work c.enter.ensures.grows c.lead.ensures.grows

pub follow-returns-in-Closed-clause-grows : goal.follow-returns-in-Closed-clause-grows
follow-returns-in-Closed-clause-grows g t c = WorkGrows-trans c.args.history.now c.args.work.now c.enter.new.work c.lead.new.work c.enter.ensures.grows c.lead.ensures.grows

pub follow-returns-in-Closed-clause-trail : goal.follow-returns-in-Closed-clause-trail
follow-returns-in-Closed-clause-trail g t c =
    let up = WorkGrows-trans c.args.history.now c.args.work.now c.enter.new.work c.lead.new.work c.enter.ensures.grows c.lead.ensures.grows in
    same_trail c.args.history.now c.args.hints.now c.args.work.now c.lead.new.work c.args.trail.now c.args.goal.now c.args.number up c.requires.trail

pub follow-returns-in-Spent-clause-grows : goal.follow-returns-in-Spent-clause-grows
follow-returns-in-Spent-clause-grows g t c = WorkGrows-trans c.args.history.now c.args.work.now c.enter.new.work c.lead.new.work c.enter.ensures.grows c.lead.ensures.grows

pub follow-returns-in-Spent-clause-trail : goal.follow-returns-in-Spent-clause-trail
follow-returns-in-Spent-clause-trail g t c =
    let up = WorkGrows-trans c.args.history.now c.args.work.now c.enter.new.work c.lead.new.work c.enter.ensures.grows c.lead.ensures.grows in
    same_trail c.args.history.now c.args.hints.now c.args.work.now c.lead.new.work c.args.trail.now c.args.goal.now c.args.number up c.requires.trail

pub follow-returns-in-Unknown-clause-grows : goal.follow-returns-in-Unknown-clause-grows
follow-returns-in-Unknown-clause-grows g t c = WorkGrows-trans c.args.history.now c.args.work.now c.enter.new.work c.lead.new.work c.enter.ensures.grows c.lead.ensures.grows

pub follow-returns-in-Unknown-clause-trail : goal.follow-returns-in-Unknown-clause-trail
follow-returns-in-Unknown-clause-trail g t c =
    let up = WorkGrows-trans c.args.history.now c.args.work.now c.enter.new.work c.lead.new.work c.enter.ensures.grows c.lead.ensures.grows in
    same_trail c.args.history.now c.args.hints.now c.args.work.now c.lead.new.work c.args.trail.now c.args.goal.now c.args.number up c.requires.trail

pub follow-follow_nexts-requires : goal.follow-follow_nexts-requires
follow-follow_nexts-requires g t c =
    let h : List Entry = c.args.history.now in
    let old : Work = c.args.work.now in
    let new : Work = c.lead.new.work in
    let up : WorkGrows h old new = WorkGrows-trans h old c.enter.new.work new c.enter.ensures.grows c.lead.ensures.grows in
    let ready : CanMove h c.args.hints.now new = ready_grown h old new c.requires.ready.stands up c.holding.ensures c.args.hints.now c.requires.ready in
    let trail : TrailStands new.bank c.args.trail.now = trail_grown old.bank new.bank up.bank c.args.trail.now c.requires.trail in
    let inside : IsGoalIn h new c.args.goal.now = goal_grown h old new c.requires.ready.stands up c.args.goal.now c.requires.goal in
    let above : IsPathIn h new c.args.trail.now.path.items = path_in_grown h old new c.requires.ready.stands up c.args.trail.now.path.items c.requires.path_in in
    let used : c.enter.new.work.counter.used ≤ new.counter.used = c.lead.ensures.grows.counter.used in
    let limit : new.counter.limit ≡ old.counter.limit = up.counter.limit in
    let counted = c.in_ok-enter.ensures.counted in
    let left = c.in_ok-enter.ensures.left in
    search rules

pub follow-returns-in-Led-clause-grows : goal.follow-returns-in-Led-clause-grows
follow-returns-in-Led-clause-grows g t c =
    WorkGrows-trans c.args.history.now c.args.work.now c.lead.new.work c.follow_nexts.new.work (WorkGrows-trans c.args.history.now c.args.work.now c.enter.new.work c.lead.new.work c.enter.ensures.grows c.lead.ensures.grows) c.follow_nexts.ensures.grows

pub follow_next-returns-in_err-here-clause-grows : goal.follow_next-returns-in_err-here-clause-grows
follow_next-returns-in_err-here-clause-grows g t c = WorkGrows-refl c.args.history.now c.args.work.now c.requires.ready.stands

pub follow_next-follow-requires : goal.follow_next-follow-requires
follow_next-follow-requires g t c =
    let bank = c.args.work.now.bank in
    let here = goal_stands c.args.history.now c.args.work.now c.args.next.now c.requires.next in
    let trace : All (StepStands bank) c.add_step.new.steps.items = pushed_stand bank c.args.trail.now.trace.items c.add_step.new.steps.items c.args.number c.args.kind c.args.next.now c.in_ok-here.ensures.ok c.requires.trail.trace here in
    let trail : TrailStands bank (record { path = c.args.trail.now.path; steps = c.args.trail.now.steps; trace = c.add_step.new.steps }) = record { path = c.requires.trail.path; steps = c.requires.trail.steps; trace = trace } in
    let ready = c.requires.ready in
    let above = c.requires.path_in in
    let next = c.requires.next in
    search rules

pub follow_next-returns-clause-trail : goal.follow_next-returns-clause-trail
follow_next-returns-clause-trail g t c =
    let pushed : Trail = record { path = c.args.trail.now.path; steps = c.args.trail.now.steps; trace = c.add_step.new.steps } in
    on_ok_weaker c.follow.result
    (λ (t : TrailGoesOn c.args.history.now c.args.hints.now c.follow.new.work pushed c.follow.new.trail c.args.next.now c.in_ok-here.here). next_goes c.args.history.now c.args.hints.now c.follow.new.work c.args.trail.now pushed c.follow.new.trail c.args.number c.in_ok-here.here c.args.kind c.args.next.now c.in_ok-here.ensures.ok refl c.in_ok-here.ensures.number t) c.follow.ensures.trail

pub follow_nexts-returns-in_err-go_down-clause-grows : goal.follow_nexts-returns-in_err-go_down-clause-grows
follow_nexts-returns-in_err-go_down-clause-grows g t c = WorkGrows-refl c.args.history.now c.args.work.now c.requires.ready.stands

pub follow_nexts-loop-next-init : goal.follow_nexts-loop-next-init
follow_nexts-loop-next-init g t c =
    let bank = c.args.work.now.bank in
    let h = c.args.history.now in
    let hints = c.args.hints.now in
    let path = c.args.trail.now.path.items in
    record {
      grows = WorkGrows-refl h c.args.work.now c.requires.ready.stands;
      path = c.in_ok-go_down.ensures.ok;
      stands = record {
        path = path_pushed bank path c.go_down.new.path.items c.args.goal.now c.args.lead.now.kind c.in_ok-go_down.ensures.ok c.requires.trail.path (goal_stands h c.args.work.now c.args.goal.now c.requires.goal);
        steps = c.requires.trail.steps;
        trace = c.requires.trail.trace;
      };
      trace = trace_same (events_at bank h) (hints_at bank hints) (above_at bank path) (terms_at bank c.args.goal.now) c.args.number (steps_at bank c.args.trail.now.trace.items);
    }

pub follow_nexts-follow_next-requires : goal.follow_nexts-follow_next-requires
follow_nexts-follow_next-requires g t c =
    let h : List Entry = c.args.history.now in
    let old : Work = c.args.work.now in
    let new : Work = c.loop-next.work in
    let up : WorkGrows h old new = c.loop-next.invariant.grows in
    let ready : CanMove h c.args.hints.now new = ready_grown h old new c.requires.ready.stands up c.holding.ensures c.args.hints.now c.requires.ready in
    let stands = c.loop-next.invariant.stands in
    let above : IsPathIn h new c.loop-next.trail.path.items =
    path_in_pushed h new c.args.trail.now.path.items c.loop-next.trail.path.items c.args.goal.now c.args.lead.now.kind c.loop-next.invariant.path
    (path_in_grown h old new c.requires.ready.stands up c.args.trail.now.path.items c.requires.path_in) (goal_grown h old new c.requires.ready.stands up c.args.goal.now c.requires.goal) in
    let depth = c.requires.depth in
    let used = up.counter.used in
    let limit = up.counter.limit in
    let here : slice_get c.args.lead.now.nexts.items c.loop-next.next-index ≡ Some c.next-item.result = turn_at c.args.lead.now.nexts.items c.deref-next-items.result.now c.loop-next.next-index c.next-item.result c.deref-next-items.ensures.value c.loop-next-test.true c.next-item.is in
    let nexts_in : All (λ next. IsGoalIn h new next.items) c.args.lead.now.nexts.items = goals_grown h old new c.requires.ready.stands up c.args.lead.now.nexts.items c.requires.lead.nexts_in in
    let next_in : IsGoalIn h new c.next-item.result.items = found_in (λ next. IsGoalIn h new next.items) c.args.lead.now.nexts.items c.loop-next.next-index c.next-item.result nexts_in here in
    let inside : IsGoalIn h new c.as_slice.result.now = subst (IsGoalIn h new) (sym c.as_slice.ensures.value) next_in in
    search rules

pub follow_nexts-returns-in_err-follow_next-clause-grows : goal.follow_nexts-returns-in_err-follow_next-clause-grows
follow_nexts-returns-in_err-follow_next-clause-grows g t c = WorkGrows-trans c.args.history.now c.args.work.now c.loop-next.work c.follow_next.new.work c.loop-next.invariant.grows c.follow_next.ensures.grows

pub follow_nexts-loop-next-preserved : goal.follow_nexts-loop-next-preserved
follow_nexts-loop-next-preserved g t c =
    let h : List Entry = c.args.history.now in
    let hints : Hints = c.args.hints.now in
    let old : Work = c.args.work.now in
    let one : Work = c.loop-next.work in
    let two : Work = c.follow_next.new.work in
    let inv = c.loop-next.invariant in
    let up : WorkGrows h old one = inv.grows in
    let on : WorkGrows h one two = c.follow_next.ensures.grows in
    let all : WorkGrows h old two = WorkGrows-trans h old one two up on in
    let ready : CanMove h hints one = ready_grown h old one c.requires.ready.stands up c.holding.ensures hints c.requires.ready in
    let later : CanMove h hints two = ready_grown h one two ready.stands on c.holding.ensures hints ready in
    let first : Trail = c.args.trail.now in
    let stand : TrailStands one.bank first = trail_grown old.bank one.bank up.bank first c.requires.trail in
    let inside : IsGoalIn h one c.args.goal.now = goal_grown h old one c.requires.ready.stands up c.args.goal.now c.requires.goal in
    let lead = c.args.lead.now in
    let here : slice_get c.args.lead.now.nexts.items c.loop-next.next-index ≡ Some c.next-item.result = turn_at c.args.lead.now.nexts.items c.deref-next-items.result.now c.loop-next.next-index c.next-item.result c.deref-next-items.ensures.value c.loop-next-test.true c.next-item.is in
    let nexts_in : All (λ next. IsGoalIn h one next.items) lead.nexts.items = goals_grown h old one c.requires.ready.stands up lead.nexts.items c.requires.lead.nexts_in in
    let next_in : IsGoalIn h two c.next-item.result.items = goal_grown h one two ready.stands on c.next-item.result.items (found_in (λ next. IsGoalIn h one next.items) lead.nexts.items c.loop-next.next-index c.next-item.result nexts_in here) in
    let goes : NextGoesOn h hints two c.loop-next.trail c.follow_next.new.trail c.args.number lead.kind c.next-item.result.items = subst (NextGoesOn h hints two c.loop-next.trail c.follow_next.new.trail c.args.number lead.kind) c.as_slice.ensures.value c.in_ok-follow_next.ensures.trail in
    let so_far : TrailGoesOn h hints one first (record { path = first.path; steps = c.loop-next.trail.steps; trace = c.loop-next.trail.trace }) c.args.goal.now c.args.number = record { path = refl; stands = record { path = stand.path; steps = inv.stands.steps; trace = inv.stands.trace }; trace = inv.trace } in
    record {
      grows = all;
      path = next_down h hints one two ready later on c.holding.ensures first c.loop-next.trail c.follow_next.new.trail stand inv.stands c.args.goal.now inside lead.kind c.args.number c.args.number c.loop-next.next-index lead.nexts.items nexts_in c.next-item.result here next_in inv.path goes;
      stands = goes.stands;
      trace = next_trace h hints one two ready later on c.holding.ensures first c.loop-next.trail c.follow_next.new.trail stand inv.stands c.args.goal.now inside lead.kind c.args.number c.args.number c.loop-next.next-index lead.nexts.items nexts_in c.next-item.result here next_in inv.path
          (move_grown h hints old two c.requires.ready all first c.requires.trail c.args.goal.now c.requires.goal lead.kind lead.nexts.items c.requires.lead.nexts_in c.requires.lead.move)
          (trail_after h hints one two ready on first stand c.args.goal.now inside (record { path = first.path; steps = c.loop-next.trail.steps; trace = c.loop-next.trail.trace }) c.args.number so_far).trace
          goes;
    }

pub follow_nexts-returns-clause-trail : goal.follow_nexts-returns-clause-trail
follow_nexts-returns-clause-trail g t c =
    let inv = c.loop-next.invariant in
    record {
      path = c.go_up.ensures c.args.trail.now.path.items inv.path.last inv.path.whole;
      stands = record {
        path = subst (All (AncestorStands c.loop-next.work.bank)) (sym (c.go_up.ensures c.args.trail.now.path.items inv.path.last inv.path.whole)) (path_grown c.args.work.now.bank c.loop-next.work.bank inv.grows.bank c.args.trail.now.path.items c.requires.trail.path);
        steps = inv.stands.steps;
        trace = inv.stands.trace;
      };
      trace = inv.trace;
    }
