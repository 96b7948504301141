use Rattle.std.proofs.Common.{refl, rules, ◌≡◌, ◌≤◌, List, [], length, sym, subst, arith}
use Rattle.std.specs.Prelude.{All, IfSome, slice_get, Some}
use Rattle.nq_bank.specs.Content.{terms_at}
use Rattle.nq_history.specs.Events.{events_at}
use Rattle.nq_goals.proofs.SolverLaws.{solver_laws}
use Rattle.nq_history.specs.declared.entry.Entry.{Entry}
use Rattle.nq_history.specs.declared.hints.Hints.{Hints}
use Rattle.nq_kernel.specs.declared.work.Work.{Work}
use Rattle.nq_kernel.specs.Growing.{WorkGrows}
use Rattle.nq_lines.specs.Lines.{LineHasOnly}
use Rattle.nq_kernel.proofs.GrowingLemmas.{WorkGrows-refl, WorkGrows-trans}
use Rattle.nq_waterfall.specs.Kinds.{goal_kind}
use Rattle.nq_waterfall.specs.declared.trail.Trail.{Trail}
use Rattle.nq_event.specs.EventsAt.{hints_at}
use Rattle.nq_waterfall.specs.Trails.{TrailStands, StepStands, AncestorStands, steps_at, above_at}
use Rattle.nq_waterfall.specs.Turns.{HaveLines}
use Rattle.nq_waterfall.specs.Solved.{TriedAt, IsNextSolved, NextGoesOn, TrailGoesOn}
use Rattle.nq_waterfall.specs.Ready.{CanMove, IsGoalIn, IsPathIn}
use Rattle.nq_waterfall.proofs.SameLemmas.{ready_grown, goal_grown, goals_grown, trail_grown, path_grown, path_in_grown, goal_stands}
use Rattle.nq_waterfall.proofs.SolvingLemmas.{same_trail, trace_same, spent_here, left_over, trail_after, steps_after, pushed_stand, pushed_length, steps_within, next_solved, next_trail, path_pushed, path_in_pushed, found_in, turn_at, next_down, next_tried, next_closed, next_trace, move_grown}
use Rattle.nq_waterfall.proofs.solving.+solving.Goals as goal

pub solve-returns-in_err-enter-clause-grows : goal.solve-returns-in_err-enter-clause-grows
solve-returns-in_err-enter-clause-grows g t c = c.enter.ensures.grows

pub solve-lead-requires-clause-ready : goal.solve-lead-requires-clause-ready
solve-lead-requires-clause-ready g t c =
    ready_grown c.args.history.now c.args.work.now c.enter.new.work c.requires.ready.stands c.enter.ensures.grows c.holding.ensures c.args.hints.now c.requires.ready

pub solve-lead-requires-clause-goal : goal.solve-lead-requires-clause-goal
solve-lead-requires-clause-goal g t c = goal_grown c.args.history.now c.args.work.now c.enter.new.work c.requires.ready.stands c.enter.ensures.grows c.args.goal.now c.requires.goal

pub solve-lead-requires-clause-path : goal.solve-lead-requires-clause-path
solve-lead-requires-clause-path g t c =
    subst (All (AncestorStands c.enter.new.work.bank)) (sym c.as_slice.ensures.value) (path_grown c.args.work.now.bank c.enter.new.work.bank c.enter.ensures.grows.bank c.args.trail.now.path.items c.requires.trail.path)

pub solve-lead-requires-clause-path_in : goal.solve-lead-requires-clause-path_in
solve-lead-requires-clause-path_in g t c =
    subst (IsPathIn c.args.history.now c.enter.new.work) (sym c.as_slice.ensures.value) (path_in_grown c.args.history.now c.args.work.now c.enter.new.work c.requires.ready.stands c.enter.ensures.grows c.args.trail.now.path.items c.requires.path_in)

pub solve-returns-in_err-line-clause-grows : goal.solve-returns-in_err-line-clause-grows
solve-returns-in_err-line-clause-grows g t c = WorkGrows-trans c.args.history.now c.args.work.now c.enter.new.work c.lead.new.work c.enter.ensures.grows c.lead.ensures.grows

pub solve-returns-in-Closed-clause-grows : goal.solve-returns-in-Closed-clause-grows
solve-returns-in-Closed-clause-grows g t c = WorkGrows-trans c.args.history.now c.args.work.now c.enter.new.work c.lead.new.work c.enter.ensures.grows c.lead.ensures.grows

pub solve-returns-in-Spent-clause-grows : goal.solve-returns-in-Spent-clause-grows
solve-returns-in-Spent-clause-grows g t c = WorkGrows-trans c.args.history.now c.args.work.now c.enter.new.work c.lead.new.work c.enter.ensures.grows c.lead.ensures.grows

pub solve-returns-in-Unknown-clause-grows : goal.solve-returns-in-Unknown-clause-grows
solve-returns-in-Unknown-clause-grows g t c = WorkGrows-trans c.args.history.now c.args.work.now c.enter.new.work c.lead.new.work c.enter.ensures.grows c.lead.ensures.grows

pub solve-solve_led-requires : goal.solve-solve_led-requires
solve-solve_led-requires g t c =
    let h : List Entry = c.args.history.now in
    let old : Work = c.args.work.now in
    let new : Work = c.lead.new.work in
    let up : WorkGrows h old new = WorkGrows-trans h old c.enter.new.work new c.enter.ensures.grows c.lead.ensures.grows in
    let ready : CanMove h c.args.hints.now new = ready_grown h old new c.requires.ready.stands up c.holding.ensures c.args.hints.now c.requires.ready in
    let trail : TrailStands new.bank c.args.trail.now = trail_grown old.bank new.bank up.bank c.args.trail.now c.requires.trail in
    let inside : IsGoalIn h new c.args.goal.now = goal_grown h old new c.requires.ready.stands up c.args.goal.now c.requires.goal in
    let above : IsPathIn h new c.args.trail.now.path.items = path_in_grown h old new c.requires.ready.stands up c.args.trail.now.path.items c.requires.path_in in
    let used : c.enter.new.work.counter.used ≤ new.counter.used = c.lead.ensures.grows.counter.used in
    let limit : new.counter.limit ≡ old.counter.limit = up.counter.limit in
    let counted = c.in_ok-enter.ensures.counted in
    let left = c.in_ok-enter.ensures.left in
    search rules

pub solve-returns-in-Closed-clause-trail : goal.solve-returns-in-Closed-clause-trail
solve-returns-in-Closed-clause-trail g t c =
    let up = WorkGrows-trans c.args.history.now c.args.work.now c.enter.new.work c.lead.new.work c.enter.ensures.grows c.lead.ensures.grows in
    same_trail c.args.history.now c.args.hints.now c.args.work.now c.lead.new.work c.args.trail.now c.args.goal.now c.args.place.trace up c.requires.trail

pub solve-returns-in-Spent-clause-solved : goal.solve-returns-in-Spent-clause-solved
solve-returns-in-Spent-clause-solved g t c =
    spent_here c.lead.new.work.bank c.args.history.now c.args.hints.now c.args.trail.now.path.items c.args.goal.now c.args.place.number (steps_at c.lead.new.work.bank c.args.trail.now.steps.items) c.in-Spent.cause (search rules)

pub solve-returns-in-Spent-clause-trail : goal.solve-returns-in-Spent-clause-trail
solve-returns-in-Spent-clause-trail g t c =
    let up = WorkGrows-trans c.args.history.now c.args.work.now c.enter.new.work c.lead.new.work c.enter.ensures.grows c.lead.ensures.grows in
    same_trail c.args.history.now c.args.hints.now c.args.work.now c.lead.new.work c.args.trail.now c.args.goal.now c.args.place.trace up c.requires.trail

pub solve-returns-in-Led-clause-grows : goal.solve-returns-in-Led-clause-grows
solve-returns-in-Led-clause-grows g t c =
    WorkGrows-trans c.args.history.now c.args.work.now c.lead.new.work c.solve_led.new.work (WorkGrows-trans c.args.history.now c.args.work.now c.enter.new.work c.lead.new.work c.enter.ensures.grows c.lead.ensures.grows) c.solve_led.ensures.grows

pub solve_led-returns-in-Some-clause-solved : goal.solve_led-returns-in-Some-clause-solved
solve_led-returns-in-Some-clause-solved g t c =
    let bank = c.solve_nexts.new.work.bank in
    left_over c.args.history.now c.args.hints.now c.args.work.now c.solve_nexts.new.work c.requires.ready c.solve_nexts.ensures.grows c.args.trail.now c.requires.trail c.args.goal.now c.requires.goal c.args.lead.now.kind c.args.lead.now.nexts.items c.args.place.number (steps_at bank c.args.trail.now.steps.items) (steps_at bank c.solve_nexts.new.trail.steps.items) c.in-Some.cause c.requires.lead.nexts_in c.requires.lead.move
    (subst (TriedAt bank c.args.history.now c.args.hints.now c.args.trail.now.path.items c.args.goal.now c.args.lead.now.kind c.args.place.number c.args.lead.now.nexts.items (steps_at bank c.args.trail.now.steps.items) (steps_at bank c.solve_nexts.new.trail.steps.items)) c.in-Some.is c.in_ok-tried.ensures.tried)

pub solve_led-close-requires-clause-ready : goal.solve_led-close-requires-clause-ready
solve_led-close-requires-clause-ready g t c = ready_grown c.args.history.now c.args.work.now c.solve_nexts.new.work c.requires.ready.stands c.solve_nexts.ensures.grows c.holding.ensures c.args.hints.now c.requires.ready

pub solve_led-close-requires-clause-goal : goal.solve_led-close-requires-clause-goal
solve_led-close-requires-clause-goal g t c = goal_grown c.args.history.now c.args.work.now c.solve_nexts.new.work c.requires.ready.stands c.solve_nexts.ensures.grows c.args.goal.now c.requires.goal

pub solve_led-close-requires-clause-nexts : goal.solve_led-close-requires-clause-nexts
solve_led-close-requires-clause-nexts g t c = goals_grown c.args.history.now c.args.work.now c.solve_nexts.new.work c.requires.ready.stands c.solve_nexts.ensures.grows c.args.lead.now.nexts.items c.requires.lead.nexts_in

pub solve_led-returns-in_err-closed-in-None-clause-grows : goal.solve_led-returns-in_err-closed-in-None-clause-grows
solve_led-returns-in_err-closed-in-None-clause-grows g t c = WorkGrows-trans c.args.history.now c.args.work.now c.solve_nexts.new.work c.close.new.work c.solve_nexts.ensures.grows c.close.ensures.grows

pub solve_led-returns-in-Some-closed-clause-solved : goal.solve_led-returns-in-Some-closed-clause-solved
solve_led-returns-in-Some-closed-clause-solved g t c =
    let h : List Entry = c.args.history.now in
    let old : Work = c.args.work.now in
    let one : Work = c.solve_nexts.new.work in
    let up : WorkGrows h old one = c.solve_nexts.ensures.grows in
    let ready : CanMove h c.args.hints.now one = ready_grown h old one c.requires.ready.stands up c.holding.ensures c.args.hints.now c.requires.ready in
    let trail : TrailStands one.bank c.args.trail.now = trail_grown old.bank one.bank up.bank c.args.trail.now c.requires.trail in
    let inside : IsGoalIn h one c.args.goal.now = goal_grown h old one c.requires.ready.stands up c.args.goal.now c.requires.goal in (
      subst (λ o. IfSome o (λ n. LineHasOnly c.close.new.work n (terms_at c.close.new.work.bank c.args.goal.now))) c.in-Some-closed.is c.in_ok-closed-in-None.ensures.line,
      steps_after h c.args.hints.now one c.close.new.work ready c.close.ensures.grows c.args.trail.now trail c.args.goal.now inside c.solve_nexts.new.trail c.args.lead.now.kind c.args.lead.now.nexts.items c.args.place.number c.in_ok-tried.ensures.trail.stands
          (subst (TriedAt one.bank h c.args.hints.now c.args.trail.now.path.items c.args.goal.now c.args.lead.now.kind c.args.place.number c.args.lead.now.nexts.items (steps_at one.bank c.args.trail.now.steps.items) (steps_at one.bank c.solve_nexts.new.trail.steps.items)) c.in-None.is c.in_ok-tried.ensures.tried),
    )

pub solve_led-returns-in-Some-closed-clause-trail : goal.solve_led-returns-in-Some-closed-clause-trail
solve_led-returns-in-Some-closed-clause-trail g t c =
    let h : List Entry = c.args.history.now in
    let old : Work = c.args.work.now in
    let one : Work = c.solve_nexts.new.work in
    let up : WorkGrows h old one = c.solve_nexts.ensures.grows in
    let ready : CanMove h c.args.hints.now one = ready_grown h old one c.requires.ready.stands up c.holding.ensures c.args.hints.now c.requires.ready in
    let trail : TrailStands one.bank c.args.trail.now = trail_grown old.bank one.bank up.bank c.args.trail.now c.requires.trail in
    let inside : IsGoalIn h one c.args.goal.now = goal_grown h old one c.requires.ready.stands up c.args.goal.now c.requires.goal in
    trail_after h c.args.hints.now one c.close.new.work ready c.close.ensures.grows c.args.trail.now trail c.args.goal.now inside c.solve_nexts.new.trail c.args.place.trace c.in_ok-tried.ensures.trail

pub solve_led-returns-in-Some-closed-clause-grows : goal.solve_led-returns-in-Some-closed-clause-grows
solve_led-returns-in-Some-closed-clause-grows g t c = WorkGrows-trans c.args.history.now c.args.work.now c.solve_nexts.new.work c.close.new.work c.solve_nexts.ensures.grows c.close.ensures.grows

pub solve_led-returns-clause-grows : goal.solve_led-returns-clause-grows
solve_led-returns-clause-grows g t c = WorkGrows-trans c.args.history.now c.args.work.now c.solve_nexts.new.work c.close.new.work c.solve_nexts.ensures.grows c.close.ensures.grows

pub solve_next-returns-in_err-number-clause-grows : goal.solve_next-returns-in_err-number-clause-grows
solve_next-returns-in_err-number-clause-grows g t c = WorkGrows-refl c.args.history.now c.args.work.now c.requires.ready.stands

pub solve_next-returns-in_err-trace-clause-grows : goal.solve_next-returns-in_err-trace-clause-grows
solve_next-returns-in_err-trace-clause-grows g t c = WorkGrows-refl c.args.history.now c.args.work.now c.requires.ready.stands

pub solve_next-solve-requires : goal.solve_next-solve-requires
solve_next-solve-requires g t c =
    let bank = c.args.work.now.bank in
    let here = goal_stands c.args.history.now c.args.work.now c.args.next.now c.requires.next in
    let steps : All (StepStands bank) c.add_step.new.steps.items = pushed_stand bank c.args.trail.now.steps.items c.add_step.new.steps.items c.args.place.number c.args.kind c.args.next.now c.in_ok-number.ensures.ok c.requires.trail.steps here in
    let trace : All (StepStands bank) c.add_step-2.new.steps.items = pushed_stand bank c.args.trail.now.trace.items c.add_step-2.new.steps.items c.args.place.trace c.args.kind c.args.next.now c.in_ok-trace.ensures.ok c.requires.trail.trace here in
    let trail : TrailStands bank (record { path = c.args.trail.now.path; steps = c.add_step.new.steps; trace = c.add_step-2.new.steps }) = record { path = c.requires.trail.path; steps = steps; trace = trace } in
    let ready = c.requires.ready in
    let above = c.requires.path_in in
    let next = c.requires.next in
    search rules

pub solve_next-forget_proved-requires : goal.solve_next-forget_proved-requires
solve_next-forget_proved-requires g t c =
    let pushed : Trail = record { path = c.args.trail.now.path; steps = c.add_step.new.steps; trace = c.add_step-2.new.steps } in
    let longer = pushed_length c.args.work.now.bank c.args.trail.now.steps.items c.add_step.new.steps.items c.args.place.number c.args.kind c.args.next.now c.in_ok-number.ensures.ok in
    let within = steps_within c.args.history.now c.args.hints.now c.solve.new.work pushed c.solve.new.trail c.args.next.now c.in_ok-number.number c.in_ok-solved.solved c.in_ok-solved.ensures.solved in
    let count : c.len-count.result ≡ length c.args.trail.now.steps.items = search rules in
    omega (arith, longer, within, count)

pub solve_next-returns-clause-solved : goal.solve_next-returns-clause-solved
solve_next-returns-clause-solved g t c =
    let pushed : Trail = record { path = c.args.trail.now.path; steps = c.add_step.new.steps; trace = c.add_step-2.new.steps } in
    let final : Trail = record { path = c.solve.new.trail.path; steps = c.forget_proved.new.steps; trace = c.solve.new.trail.trace } in
    let count : c.len-count.result ≡ length c.args.trail.now.steps.items = search rules in
    next_solved c.args.history.now c.args.hints.now c.solve.new.work c.args.trail.now pushed c.solve.new.trail final c.args.place.number c.args.place.trace c.len-count.result c.args.kind c.args.next.now c.in_ok-number.ensures.ok c.in_ok-trace.ensures.ok refl count refl refl
    c.in_ok-number.number c.in_ok-solved.solved c.in_ok-number.ensures.number c.in_ok-solved.ensures.solved c.forget_proved.ensures

pub solve_next-returns-clause-trail : goal.solve_next-returns-clause-trail
solve_next-returns-clause-trail g t c =
    let pushed : Trail = record { path = c.args.trail.now.path; steps = c.add_step.new.steps; trace = c.add_step-2.new.steps } in
    let final : Trail = record { path = c.solve.new.trail.path; steps = c.forget_proved.new.steps; trace = c.solve.new.trail.trace } in
    let count : c.len-count.result ≡ length c.args.trail.now.steps.items = search rules in
    next_trail c.args.history.now c.args.hints.now c.solve.new.work c.args.trail.now pushed c.solve.new.trail final c.args.place.number c.args.place.trace c.len-count.result c.args.kind c.args.next.now c.in_ok-number.ensures.ok c.in_ok-trace.ensures.ok refl count refl refl
    c.in_ok-trace.trace c.in_ok-solved.solved c.in_ok-trace.ensures.number c.in_ok-solved.ensures.trail c.forget_proved.ensures

pub solve_nexts-returns-in_err-go_down-clause-grows : goal.solve_nexts-returns-in_err-go_down-clause-grows
solve_nexts-returns-in_err-go_down-clause-grows g t c = WorkGrows-refl c.args.history.now c.args.work.now c.requires.ready.stands

pub solve_nexts-loop-next-init : goal.solve_nexts-loop-next-init
solve_nexts-loop-next-init g t c =
    let bank = c.args.work.now.bank in
    let h = c.args.history.now in
    let hints = c.args.hints.now in
    let path = c.args.trail.now.path.items in
    record {
      grows = WorkGrows-refl h c.args.work.now c.requires.ready.stands;
      path = c.in_ok-go_down.ensures.ok;
      stands = record {
        path = path_pushed bank path c.go_down.new.path.items c.args.goal.now c.args.lead.now.kind c.in_ok-go_down.ensures.ok c.requires.trail.path (goal_stands h c.args.work.now c.args.goal.now c.requires.goal);
        steps = c.requires.trail.steps;
        trace = c.requires.trail.trace;
      };
      tried = solver_laws.begun (events_at bank h) (hints_at bank hints) (above_at bank path) (terms_at bank c.args.goal.now) (goal_kind c.args.lead.now.kind) c.args.place.number (steps_at bank c.args.trail.now.steps.items);
      closed = subst (HaveLines c.args.work.now []) (sym c.new.ensures.items) tt;
      trace = trace_same (events_at bank h) (hints_at bank hints) (above_at bank path) (terms_at bank c.args.goal.now) c.args.place.trace (steps_at bank c.args.trail.now.trace.items);
    }

pub solve_nexts-solve_next-requires : goal.solve_nexts-solve_next-requires
solve_nexts-solve_next-requires g t c =
    let h : List Entry = c.args.history.now in
    let old : Work = c.args.work.now in
    let new : Work = c.loop-next.work in
    let up : WorkGrows h old new = c.loop-next.invariant.grows in
    let ready : CanMove h c.args.hints.now new = ready_grown h old new c.requires.ready.stands up c.holding.ensures c.args.hints.now c.requires.ready in
    let stands = c.loop-next.invariant.stands in
    let above : IsPathIn h new c.loop-next.trail.path.items =
    path_in_pushed h new c.args.trail.now.path.items c.loop-next.trail.path.items c.args.goal.now c.args.lead.now.kind c.loop-next.invariant.path
    (path_in_grown h old new c.requires.ready.stands up c.args.trail.now.path.items c.requires.path_in) (goal_grown h old new c.requires.ready.stands up c.args.goal.now c.requires.goal) in
    let depth = c.requires.depth in
    let used = up.counter.used in
    let limit = up.counter.limit in
    let here : slice_get c.args.lead.now.nexts.items c.loop-next.next-index ≡ Some c.next-item.result = turn_at c.args.lead.now.nexts.items c.deref-next-items.result.now c.loop-next.next-index c.next-item.result c.deref-next-items.ensures.value c.loop-next-test.true c.next-item.is in
    let nexts_in : All (λ next. IsGoalIn h new next.items) c.args.lead.now.nexts.items = goals_grown h old new c.requires.ready.stands up c.args.lead.now.nexts.items c.requires.lead.nexts_in in
    let next_in : IsGoalIn h new c.next-item.result.items = found_in (λ next. IsGoalIn h new next.items) c.args.lead.now.nexts.items c.loop-next.next-index c.next-item.result nexts_in here in
    let inside : IsGoalIn h new c.as_slice.result.now = subst (IsGoalIn h new) (sym c.as_slice.ensures.value) next_in in
    search rules

pub solve_nexts-returns-in_err-solved-clause-grows : goal.solve_nexts-returns-in_err-solved-clause-grows
solve_nexts-returns-in_err-solved-clause-grows g t c = WorkGrows-trans c.args.history.now c.args.work.now c.loop-next.work c.solve_next.new.work c.loop-next.invariant.grows c.solve_next.ensures.grows

pub solve_nexts-returns-in_err-note-clause-grows : goal.solve_nexts-returns-in_err-note-clause-grows
solve_nexts-returns-in_err-note-clause-grows g t c = WorkGrows-trans c.args.history.now c.args.work.now c.loop-next.work c.solve_next.new.work c.loop-next.invariant.grows c.solve_next.ensures.grows

pub solve_nexts-loop-next-preserved : goal.solve_nexts-loop-next-preserved
solve_nexts-loop-next-preserved g t c =
    let h : List Entry = c.args.history.now in
    let hints : Hints = c.args.hints.now in
    let old : Work = c.args.work.now in
    let one : Work = c.loop-next.work in
    let two : Work = c.solve_next.new.work in
    let inv = c.loop-next.invariant in
    let up : WorkGrows h old one = inv.grows in
    let on : WorkGrows h one two = c.solve_next.ensures.grows in
    let all : WorkGrows h old two = WorkGrows-trans h old one two up on in
    let ready : CanMove h hints one = ready_grown h old one c.requires.ready.stands up c.holding.ensures hints c.requires.ready in
    let later : CanMove h hints two = ready_grown h one two ready.stands on c.holding.ensures hints ready in
    let first : Trail = c.args.trail.now in
    let stand : TrailStands one.bank first = trail_grown old.bank one.bank up.bank first c.requires.trail in
    let inside : IsGoalIn h one c.args.goal.now = goal_grown h old one c.requires.ready.stands up c.args.goal.now c.requires.goal in
    let lead = c.args.lead.now in
    let here : slice_get c.args.lead.now.nexts.items c.loop-next.next-index ≡ Some c.next-item.result = turn_at c.args.lead.now.nexts.items c.deref-next-items.result.now c.loop-next.next-index c.next-item.result c.deref-next-items.ensures.value c.loop-next-test.true c.next-item.is in
    let nexts_in : All (λ next. IsGoalIn h one next.items) lead.nexts.items = goals_grown h old one c.requires.ready.stands up lead.nexts.items c.requires.lead.nexts_in in
    let next_in : IsGoalIn h two c.next-item.result.items = goal_grown h one two ready.stands on c.next-item.result.items (found_in (λ next. IsGoalIn h one next.items) lead.nexts.items c.loop-next.next-index c.next-item.result nexts_in here) in
    let told : IsNextSolved h hints two c.loop-next.trail c.solve_next.new.trail c.args.place.number lead.kind c.next-item.result.items c.in_ok-solved.solved = subst (λ g. IsNextSolved h hints two c.loop-next.trail c.solve_next.new.trail c.args.place.number lead.kind g c.in_ok-solved.solved) c.as_slice.ensures.value c.in_ok-solved.ensures.solved in
    let goes : NextGoesOn h hints two c.loop-next.trail c.solve_next.new.trail c.args.place.trace lead.kind c.next-item.result.items = subst (NextGoesOn h hints two c.loop-next.trail c.solve_next.new.trail c.args.place.trace lead.kind) c.as_slice.ensures.value c.in_ok-solved.ensures.trail in
    let noted = c.in_ok-note.ensures.ok in
    let so_far : TrailGoesOn h hints one first (record { path = first.path; steps = c.loop-next.trail.steps; trace = c.loop-next.trail.trace }) c.args.goal.now c.args.place.trace = record { path = refl; stands = record { path = stand.path; steps = inv.stands.steps; trace = inv.stands.trace }; trace = inv.trace } in
    record {
      grows = all;
      path = next_down h hints one two ready later on c.holding.ensures first c.loop-next.trail c.solve_next.new.trail stand inv.stands c.args.goal.now inside lead.kind c.args.place.number c.args.place.trace c.loop-next.next-index lead.nexts.items nexts_in c.next-item.result here next_in inv.path goes;
      stands = goes.stands;
      tried = next_tried h hints one two ready later on c.holding.ensures first c.loop-next.trail c.solve_next.new.trail stand inv.stands c.args.goal.now inside lead.kind c.args.place.number c.args.place.trace c.loop-next.next-index lead.nexts.items nexts_in c.next-item.result here next_in inv.path c.in_ok-solved.solved c.loop-next.tried c.note.new.tried inv.tried told noted;
      closed = next_closed h hints one two ready later on c.holding.ensures first c.loop-next.trail c.solve_next.new.trail stand inv.stands c.args.goal.now inside lead.kind c.args.place.number c.args.place.trace c.loop-next.next-index lead.nexts.items nexts_in c.next-item.result here next_in inv.path c.in_ok-solved.solved c.loop-next.tried c.note.new.tried inv.closed told noted;
      trace = next_trace h hints one two ready later on c.holding.ensures first c.loop-next.trail c.solve_next.new.trail stand inv.stands c.args.goal.now inside lead.kind c.args.place.number c.args.place.trace c.loop-next.next-index lead.nexts.items nexts_in c.next-item.result here next_in inv.path
          (move_grown h hints old two c.requires.ready all first c.requires.trail c.args.goal.now c.requires.goal lead.kind lead.nexts.items c.requires.lead.nexts_in c.requires.lead.move)
          (trail_after h hints one two ready on first stand c.args.goal.now inside (record { path = first.path; steps = c.loop-next.trail.steps; trace = c.loop-next.trail.trace }) c.args.place.trace so_far).trace
          goes;
    }

pub solve_nexts-returns-clause-trail : goal.solve_nexts-returns-clause-trail
solve_nexts-returns-clause-trail g t c =
    let inv = c.loop-next.invariant in
    record {
      path = c.go_up.ensures c.args.trail.now.path.items inv.path.last inv.path.whole;
      stands = record {
        path = subst (All (AncestorStands c.loop-next.work.bank)) (sym (c.go_up.ensures c.args.trail.now.path.items inv.path.last inv.path.whole)) (path_grown c.args.work.now.bank c.loop-next.work.bank inv.grows.bank c.args.trail.now.path.items c.requires.trail.path);
        steps = inv.stands.steps;
        trace = inv.stands.trace;
      };
      trace = inv.trace;
    }
