use Rattle.std.proofs.Common.{◌<◌, ◌+◌, ◌-◌, ◌∷◌, [], Option, get_or, length, subst, arith, rules}
use Rattle.std.specs.Prelude.{All, IfSome, Vec}
use Rattle.std.specs.declared.alloc.Global.{Global}
use Rattle.nq_bank.specs.declared.node.TermId.{TermId}
use Rattle.nq_bank.specs.Content.{term_at, terms_at}
use Rattle.nq_history.specs.Events.{events_at}
use Rattle.nq_goals.specs.Inducting.{suggesting_in}
use Rattle.nq_kernel.specs.Growing.{WorkGrows, WorkStands}
use Rattle.nq_kernel.specs.Ready.{IsReady}
use Rattle.nq_kernel.proofs.GrowingLemmas.{WorkGrows-refl, WorkGrows-trans}
use Rattle.nq_waterfall.specs.Ready.{IsGoalIn}
use Rattle.nq_waterfall.specs.Trails.{goals_at}
use Rattle.nq_waterfall.proofs.SameLemmas.{goal_grown}
use Rattle.nq_legal.specs.Inducting.{IsInductionBy}
use Rattle.nq_inductor.specs.Suggesting.{IsSuggestingCall}
use Rattle.nq_inductor.proofs.SuggestingLemmas.{call_grown, calls_grown, by_one_of}
use Rattle.nq_inductor.proofs.inducting.+inducted_from.Goals as goal

pub returns-then-place-calls-clause-grows : goal.returns-then-place-calls-clause-grows
returns-then-place-calls-clause-grows t c = WorkGrows-refl c.args.history.now c.args.work.now c.requires.stands

pub inducted_by-requires-clause-call : goal.inducted_by-requires-clause-call
inducted_by-requires-clause-call t c = (c.requires.calls c.args.place (record { 0 = 0 }) c.if-place-calls.false).here

pub inducted_from-requires : goal.inducted_from-requires
inducted_from-requires t c =
    let h = c.args.history.now in
    let old = c.args.work.now in
    let new = c.inducted_by.new.work in
    let here = c.args.goal.now in
    let up : WorkGrows h old new = c.inducted_by.ensures.grows in
    let stands : WorkStands h new = up.stands in
    let ready : IsReady (events_at new.bank h) = c.holding.ensures.ready old.bank new.bank h c.requires.stands.history up.bank c.requires.ready in
    let inside : IsGoalIn h new here = goal_grown h old new c.requires.stands up here c.requires.goal in
    let calls : All (IsSuggestingCall h new here) c.args.calls.now = calls_grown h old new here c.args.calls.now c.requires.stands up c.requires.goal c.requires.calls in
    let below = c.if-place-calls.false in
    let less : length c.args.calls.now - (c.args.place + 1) < length c.args.calls.now - c.args.place = omega (arith, below) in
    search rules

pub returns-in-Some-clause-leads : goal.returns-in-Some-clause-leads
returns-in-Some-clause-leads t c =
    let none : TermId = record { 0 = 0 } in
    let new = c.inducted_by.new.work in
    let h = events_at new.bank c.args.history.now in
    let here = terms_at new.bank c.args.goal.now in
    let call = get_or c.args.calls.now c.args.place none in
    let there = call_grown c.args.history.now c.args.work.now new c.args.goal.now c.requires.stands c.inducted_by.ensures.grows c.requires.goal call (c.requires.calls c.args.place none c.if-place-calls.false) in
    let leads = subst (λ (o : Option (Vec (Vec TermId Global) Global)). IfSome o (λ nexts. IsInductionBy h (term_at new.bank call ∷ []) here (goals_at new.bank nexts.items))) c.in-Some.is c.in_ok-found.ensures.leads in
    by_one_of h (term_at new.bank call) (suggesting_in h here) here (goals_at new.bank c.in-Some.nexts.items) there.among leads

pub returns-in-None-clause-grows : goal.returns-in-None-clause-grows
returns-in-None-clause-grows t c = WorkGrows-trans c.args.history.now c.args.work.now c.inducted_by.new.work c.inducted_from.new.work c.inducted_by.ensures.grows c.inducted_from.ensures.grows
