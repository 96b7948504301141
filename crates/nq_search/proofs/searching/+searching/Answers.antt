use Rattle.std.proofs.Common.{refl, rules, ◌≡◌, ◌∙◌, ◌++◌, List, [], ◌∷◌, sym, subst, ap}
use Rattle.std.specs.Prelude.{◌+◌, All, IfOk, slice_get, Some, take}
use Rattle.nq_bank.specs.Content.{terms_at}
use Rattle.nq_proof.specs.Clauses.{Clause}
use Rattle.nq_lines.specs.Lines.{LineHasOnly}
use Rattle.nq_search.specs.Searching.{IsFound, IsLed}
use Rattle.nq_history.specs.declared.entry.Entry.{Entry}
use Rattle.nq_kernel.specs.declared.work.Work.{Work}
use Rattle.nq_kernel.specs.Growing.{WorkGrows}
use Rattle.nq_kernel.proofs.GrowingLemmas.{WorkGrows-refl, WorkGrows-trans}
use Rattle.nq_search.specs.Goals.{CanSearch, IsGoalIn, HaveLines, goals_at}
use Rattle.nq_search.proofs.SearchingLemmas.{ready_grown, goal_grown, goals_grown, same_goal, same_goals, have_grown, have_more, found_in, turn_at, goals_next, found_line, found_lines, some_led}
use Rattle.nq_search.proofs.searching.+searching.Goals as goal

pub seek-returns-then-plan-eq0-clause-grows : goal.seek-returns-then-plan-eq0-clause-grows
seek-returns-then-plan-eq0-clause-grows g t c = WorkGrows-refl c.args.history.now c.args.work.now c.requires.ready.stands

pub seek-returns-in-Some-clause-grows : goal.seek-returns-in-Some-clause-grows
seek-returns-in-Some-clause-grows g t c = WorkGrows-refl c.args.history.now c.args.work.now c.requires.ready.stands

pub seek_all-loop-goal-init : goal.seek_all-loop-goal-init
seek_all-loop-goal-init g t c =
    record {
      grows = WorkGrows-refl c.args.history.now c.args.work.now c.requires.ready.stands;
      found = subst (HaveLines c.args.work.now []) (sym c.new-lines.ensures.items) tt;
    }

pub seek_all-seek-requires : goal.seek_all-seek-requires
seek_all-seek-requires g t c =
    let h : List Entry = c.args.history.now in
    let old : Work = c.args.work.now in
    let new : Work = c.loop-goal.work in
    let up : WorkGrows h old new = c.loop-goal.invariant.grows in
    let ready : CanSearch h c.args.hints.now new = ready_grown h old new c.requires.ready.stands up c.ready_histories.ensures.grown c.args.hints.now c.requires.ready in
    let here : slice_get c.args.goals.now c.loop-goal.goal-index ≡ Some c.goal-item.result = turn_at c.args.goals.now c.args.goals.now c.loop-goal.goal-index c.goal-item.result refl c.loop-goal-test.true c.goal-item.is in
    let all : All (λ goal. IsGoalIn h new goal.items) c.args.goals.now = goals_grown h old new c.requires.ready.stands up c.args.goals.now c.requires.goals in
    let inside : IsGoalIn h new c.goal-item.result.items = found_in (λ goal. IsGoalIn h new goal.items) c.args.goals.now c.loop-goal.goal-index c.goal-item.result all here in
    let goal_in : IsGoalIn h new c.as_slice.result.now = subst (IsGoalIn h new) (sym c.as_slice.ensures.value) inside in
    search rules

pub seek_all-returns-in_err-line-clause-grows : goal.seek_all-returns-in_err-line-clause-grows
seek_all-returns-in_err-line-clause-grows g t c = WorkGrows-trans c.args.history.now c.args.work.now c.loop-goal.work c.seek.new.work c.loop-goal.invariant.grows c.seek.ensures.grows

pub seek_all-returns-in_err-push-in-Some-clause-grows : goal.seek_all-returns-in_err-push-in-Some-clause-grows
seek_all-returns-in_err-push-in-Some-clause-grows g t c = WorkGrows-trans c.args.history.now c.args.work.now c.loop-goal.work c.seek.new.work c.loop-goal.invariant.grows c.seek.ensures.grows

pub seek_all-returns-in-None-clause-grows : goal.seek_all-returns-in-None-clause-grows
seek_all-returns-in-None-clause-grows g t c = WorkGrows-trans c.args.history.now c.args.work.now c.loop-goal.work c.seek.new.work c.loop-goal.invariant.grows c.seek.ensures.grows

pub seek_all-loop-goal-preserved : goal.seek_all-loop-goal-preserved
seek_all-loop-goal-preserved g t c =
    let h : List Entry = c.args.history.now in
    let old : Work = c.args.work.now in
    let one : Work = c.loop-goal.work in
    let two : Work = c.seek.new.work in
    let up : WorkGrows h old one = c.loop-goal.invariant.grows in
    let here : slice_get c.args.goals.now c.loop-goal.goal-index ≡ Some c.goal-item.result = turn_at c.args.goals.now c.args.goals.now c.loop-goal.goal-index c.goal-item.result refl c.loop-goal-test.true c.goal-item.is in
    let inside : IsGoalIn h old c.goal-item.result.items = found_in (λ goal. IsGoalIn h old goal.items) c.args.goals.now c.loop-goal.goal-index c.goal-item.result c.requires.goals here in
    let so_far : HaveLines two (goals_at old.bank (take c.loop-goal.goal-index c.args.goals.now)) c.loop-goal.lines.items = have_grown h one two up.stands c.seek.ensures.grows _ _ c.loop-goal.invariant.found in
    let line : LineHasOnly two c.in-Some.line (terms_at old.bank c.goal-item.result.items) =
    found_line two (terms_at one.bank c.as_slice.result.now) (terms_at old.bank c.goal-item.result.items) c.in_ok-line.field-0 c.in-Some.line (ap (terms_at one.bank) c.as_slice.ensures.value ∙ same_goal h old one c.requires.ready.stands up c.goal-item.result.items inside) c.in-Some.is c.in_ok-line.ensures.found in
    record {
      grows = WorkGrows-trans h old one two up c.seek.ensures.grows;
      found = subst (λ ls. HaveLines two (goals_at old.bank (take (c.loop-goal.goal-index + 1) c.args.goals.now)) ls) (sym c.in_ok-push-in-Some.ensures.ok) (
          subst (λ gs. HaveLines two gs (c.loop-goal.lines.items ++ c.in-Some.line ∷ [])) (sym (goals_next old.bank c.args.goals.now c.loop-goal.goal-index c.goal-item.result here)) (have_more two _ _ _ _ so_far line));
    }

pub seek_led-close-requires-clause-ready : goal.seek_led-close-requires-clause-ready
seek_led-close-requires-clause-ready g t c = ready_grown c.args.history.now c.args.work.now c.seek_all.new.work c.requires.ready.stands c.seek_all.ensures.grows c.ready_histories.ensures.grown c.args.hints.now c.requires.ready

pub seek_led-close-requires-clause-goal : goal.seek_led-close-requires-clause-goal
seek_led-close-requires-clause-goal g t c = goal_grown c.args.history.now c.args.work.now c.seek_all.new.work c.requires.ready.stands c.seek_all.ensures.grows c.args.goal.now c.requires.goal

pub seek_led-close-requires-clause-nexts : goal.seek_led-close-requires-clause-nexts
seek_led-close-requires-clause-nexts g t c = goals_grown c.args.history.now c.args.work.now c.seek_all.new.work c.requires.ready.stands c.seek_all.ensures.grows _ c.requires.led.nexts_in

pub seek_led-close-requires-clause-lines : goal.seek_led-close-requires-clause-lines
seek_led-close-requires-clause-lines g t c =
    let h : List Entry = c.args.history.now in
    let old : Work = c.args.work.now in
    let new : Work = c.seek_all.new.work in
    let found : HaveLines new (goals_at old.bank c.nexts.result.now) c.in-Some.lines.items = found_lines new (goals_at old.bank c.nexts.result.now) c.in_ok-lines.field-0 c.in-Some.lines c.in-Some.is c.in_ok-lines.ensures.found in
    let same : goals_at new.bank (g.T.Tactic.nexts_of c.args.led.now.way) ≡ goals_at old.bank c.nexts.result.now =
    same_goals h old new c.requires.ready.stands c.seek_all.ensures.grows _ c.requires.led.nexts_in ∙ ap (goals_at old.bank) (sym c.nexts.ensures) in
    subst (HaveLines new (goals_at new.bank (g.T.Tactic.nexts_of c.args.led.now.way))) (sym c.as_slice.ensures.value) (
    subst (λ gs. HaveLines new gs c.in-Some.lines.items) (sym same) found)

pub seek_led-returns-in_err-line-in-Some-clause-grows : goal.seek_led-returns-in_err-line-in-Some-clause-grows
seek_led-returns-in_err-line-in-Some-clause-grows g t c = WorkGrows-trans c.args.history.now c.args.work.now c.seek_all.new.work c.close.new.work c.seek_all.ensures.grows c.close.ensures.grows

pub seek_led-returns-in_ok-line-in-Some-clause-found : goal.seek_led-returns-in_ok-line-in-Some-clause-found
seek_led-returns-in_ok-line-in-Some-clause-found g t c =
    let h : List Entry = c.args.history.now in
    let same : terms_at c.seek_all.new.work.bank c.args.goal.now ≡ terms_at c.args.work.now.bank c.args.goal.now = same_goal h c.args.work.now c.seek_all.new.work c.requires.ready.stands c.seek_all.ensures.grows c.args.goal.now c.requires.goal in
    subst (λ (gs : Clause). LineHasOnly c.close.new.work c.in_ok-line-in-Some.line gs) same c.in_ok-line-in-Some.ensures.line

pub seek_led-returns-in_ok-line-in-Some-clause-grows : goal.seek_led-returns-in_ok-line-in-Some-clause-grows
seek_led-returns-in_ok-line-in-Some-clause-grows g t c = WorkGrows-trans c.args.history.now c.args.work.now c.seek_all.new.work c.close.new.work c.seek_all.ensures.grows c.close.ensures.grows

pub seek_turn-seek_led-requires : goal.seek_turn-seek_led-requires
seek_turn-seek_led-requires g t c =
    let h : List Entry = c.args.history.now in
    let old : Work = c.args.work.now in
    let new : Work = c.lead.new.work in
    let up : WorkGrows h old new = c.lead.ensures.grows in
    let ready : CanSearch h c.args.hints.now new = ready_grown h old new c.requires.ready.stands up c.ready_histories.ensures.grown c.args.hints.now c.requires.ready in
    let goal_in : IsGoalIn h new c.args.goal.now = goal_grown h old new c.requires.ready.stands up c.args.goal.now c.requires.goal in
    let led : IsLed g.T.Tactic.nexts_of g.T.Tactic.is_way h new c.args.goal.now c.in-Some.led = some_led g.T.Tactic.nexts_of g.T.Tactic.is_way h new c.args.goal.now c.in_ok-led.field-0 c.in-Some.led c.in-Some.is c.in_ok-led.ensures.led in
    search rules

pub seek_turn-returns-in-Some-clause-found : goal.seek_turn-returns-in-Some-clause-found
seek_turn-returns-in-Some-clause-found g t c =
    let same : terms_at c.lead.new.work.bank c.args.goal.now ≡ terms_at c.args.work.now.bank c.args.goal.now = same_goal c.args.history.now c.args.work.now c.lead.new.work c.requires.ready.stands c.lead.ensures.grows c.args.goal.now c.requires.goal in
    subst (λ (gs : Clause). IfOk c.seek_led.result (IsFound c.seek_led.new.work gs)) same c.seek_led.ensures.found

pub seek_turn-returns-in-Some-clause-grows : goal.seek_turn-returns-in-Some-clause-grows
seek_turn-returns-in-Some-clause-grows g t c = WorkGrows-trans c.args.history.now c.args.work.now c.lead.new.work c.seek_led.new.work c.lead.ensures.grows c.seek_led.ensures.grows

pub seek_turns-loop-turn-init : goal.seek_turns-loop-turn-init
seek_turns-loop-turn-init g t c = WorkGrows-refl c.args.history.now c.args.work.now c.requires.ready.stands

pub seek_turns-seek_turn-requires : goal.seek_turns-seek_turn-requires
seek_turns-seek_turn-requires g t c =
    let h : List Entry = c.args.history.now in
    let old : Work = c.args.work.now in
    let new : Work = c.loop-turn.work in
    let up : WorkGrows h old new = c.loop-turn.invariant in
    let ready : CanSearch h c.args.hints.now new = ready_grown h old new c.requires.ready.stands up c.ready_histories.ensures.grown c.args.hints.now c.requires.ready in
    let goal_in : IsGoalIn h new c.args.goal.now = goal_grown h old new c.requires.ready.stands up c.args.goal.now c.requires.goal in
    search rules

pub seek_turns-returns-in_err-line-clause-grows : goal.seek_turns-returns-in_err-line-clause-grows
seek_turns-returns-in_err-line-clause-grows g t c = WorkGrows-trans c.args.history.now c.args.work.now c.loop-turn.work c.seek_turn.new.work c.loop-turn.invariant c.seek_turn.ensures.grows

pub seek_turns-returns-in-Some-clause-found : goal.seek_turns-returns-in-Some-clause-found
seek_turns-returns-in-Some-clause-found g t c =
    let same : terms_at c.loop-turn.work.bank c.args.goal.now ≡ terms_at c.args.work.now.bank c.args.goal.now = same_goal c.args.history.now c.args.work.now c.loop-turn.work c.requires.ready.stands c.loop-turn.invariant c.args.goal.now c.requires.goal in
    found_line c.seek_turn.new.work (terms_at c.loop-turn.work.bank c.args.goal.now) (terms_at c.args.work.now.bank c.args.goal.now) c.in_ok-line.field-0 c.in-Some.line same c.in-Some.is c.in_ok-line.ensures.found

pub seek_turns-returns-in-Some-clause-grows : goal.seek_turns-returns-in-Some-clause-grows
seek_turns-returns-in-Some-clause-grows g t c = WorkGrows-trans c.args.history.now c.args.work.now c.loop-turn.work c.seek_turn.new.work c.loop-turn.invariant c.seek_turn.ensures.grows

pub seek_turns-loop-turn-preserved : goal.seek_turns-loop-turn-preserved
seek_turns-loop-turn-preserved g t c = WorkGrows-trans c.args.history.now c.args.work.now c.loop-turn.work c.seek_turn.new.work c.loop-turn.invariant c.seek_turn.ensures.grows
