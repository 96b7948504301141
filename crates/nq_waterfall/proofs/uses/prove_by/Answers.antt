use Rattle.std.proofs.Common.{List, sym, ap, ◌∙◌, subst}
use Rattle.nq_bank.specs.declared.node.TermId.{TermId}
use Rattle.nq_bank.specs.Content.{terms_at}
use Rattle.nq_history.specs.declared.entry.Entry.{Entry}
use Rattle.nq_history.specs.declared.hints.Hints.{Hints}
use Rattle.nq_history.specs.Events.{events_at}
use Rattle.nq_kernel.specs.declared.work.Work.{Work}
use Rattle.nq_kernel.specs.Growing.{WorkGrows}
use Rattle.nq_kernel.proofs.GrowingLemmas.{WorkGrows-refl, WorkGrows-trans}
use Rattle.nq_lines.specs.Lines.{LineHasOnly}
use Rattle.nq_lines.proofs.TermLemmas.{term_grown}
use Rattle.nq_goals.specs.Trees.{IsFailureTree}
use Rattle.nq_waterfall.specs.Kinds.{goal_cause}
use Rattle.nq_waterfall.specs.declared.uses.Used.{Used}
use Rattle.nq_event.specs.EventsAt.{hints_at}
use Rattle.nq_waterfall.specs.Trails.{steps_at}
use Rattle.nq_traces.specs.Traces.{IsTrace}
use Rattle.nq_waterfall.specs.Ready.{IsGoalIn}
use Rattle.nq_waterfall.specs.Outcomes.{IsOutcome}
use Rattle.nq_waterfall.proofs.SameLemmas.{ready_grown}
use Rattle.nq_waterfall.proofs.UsesLemmas.{first_in, first_told, first_lemma, first_line, uses_grown}
use Rattle.nq_waterfall.proofs.uses.prove_by.Goals as goal

pub solve_first-requires-clause-goal : goal.solve_first-requires-clause-goal
solve_first-requires-clause-goal g c =
    subst (IsGoalIn c.args.history.now c.args.work.now) (sym c.as_slice.ensures.value) (first_in c.args.history.now c.args.work.now c.args.uses.now c.args.goal c.in-Ok.first.items c.requires.uses c.requires.goal c.in-Ok.ensures.stand c.in-Ok.ensures.terms)

pub finish-requires-clause-ready : goal.finish-requires-clause-ready
finish-requires-clause-ready g c = ready_grown c.args.history.now c.args.work.now c.solve_first.new.work c.requires.ready.stands c.solve_first.ensures.grows c.holding.ensures c.args.hints.now c.requires.ready

pub finish-requires-clause-uses : goal.finish-requires-clause-uses
finish-requires-clause-uses g c = uses_grown c.args.history.now c.args.work.now c.solve_first.new.work c.requires.ready.stands c.solve_first.ensures.grows c.args.uses.now c.requires.uses

pub finish-requires-clause-goal : goal.finish-requires-clause-goal
finish-requires-clause-goal g c = term_grown c.args.history.now c.args.work.now c.solve_first.new.work c.args.goal c.requires.ready.stands c.solve_first.ensures.grows c.requires.goal

pub finish-requires-clause-line : goal.finish-requires-clause-line
finish-requires-clause-line g c =
    let h : List Entry = c.args.history.now in
    let hints : Hints = c.args.hints.now in
    let old : Work = c.args.work.now in
    let new : Work = c.solve_first.new.work in
    let up : WorkGrows h old new = c.solve_first.ensures.grows in
    let uses : List Used = c.args.uses.now in
    let ids : List TermId = c.in-Ok.first.items in
    let outcome = subst (IsOutcome h hints new c.as_slice.result.now) c.in-Proved.is c.in_ok-line.ensures.outcome in
    first_line new uses c.args.goal ids c.in-Proved.line (first_told h hints old new c.requires.ready up uses c.requires.uses c.args.goal c.requires.goal ids c.in-Ok.ensures.stand c.in-Ok.ensures.terms)
    (subst (λ xs. LineHasOnly new c.in-Proved.line (terms_at new.bank xs)) c.as_slice.ensures.value outcome.0)

pub finish-requires-clause-trace : goal.finish-requires-clause-trace
finish-requires-clause-trace g c =
    let h : List Entry = c.args.history.now in
    let hints : Hints = c.args.hints.now in
    let old : Work = c.args.work.now in
    let new : Work = c.solve_first.new.work in
    let up : WorkGrows h old new = c.solve_first.ensures.grows in
    let uses : List Used = c.args.uses.now in
    let ids : List TermId = c.in-Ok.first.items in
    let outcome = subst (IsOutcome h hints new c.as_slice.result.now) c.in-Proved.is c.in_ok-line.ensures.outcome in
    subst (λ f. IsTrace (events_at new.bank h) (hints_at new.bank hints) f (steps_at new.bank c.in-Proved.trace.items)) (ap (terms_at new.bank) c.as_slice.ensures.value ∙ first_lemma h hints old new c.requires.ready up uses c.requires.uses c.args.goal c.requires.goal ids c.in-Ok.ensures.stand c.in-Ok.ensures.terms c.requires.instances) outcome.2

pub returns-in-Proved-clause-grows : goal.returns-in-Proved-clause-grows
returns-in-Proved-clause-grows g c = WorkGrows-trans c.args.history.now c.args.work.now c.solve_first.new.work c.finish.new.work c.solve_first.ensures.grows c.finish.ensures.grows

pub returns-in-Failed-clause-answer : goal.returns-in-Failed-clause-answer
returns-in-Failed-clause-answer g c =
    let h : List Entry = c.args.history.now in
    let hints : Hints = c.args.hints.now in
    let old : Work = c.args.work.now in
    let new : Work = c.solve_first.new.work in
    let up : WorkGrows h old new = c.solve_first.ensures.grows in
    let uses : List Used = c.args.uses.now in
    let ids : List TermId = c.in-Ok.first.items in
    let outcome = subst (IsOutcome h hints new c.as_slice.result.now) c.in-Failed.is c.in_ok-line.ensures.outcome in (
      outcome.0,
      subst (λ f. IsFailureTree (events_at new.bank h) (hints_at new.bank hints) f (steps_at new.bank c.in-Failed.steps.items) (goal_cause c.in-Failed.cause)) (ap (terms_at new.bank) c.as_slice.ensures.value ∙ first_lemma h hints old new c.requires.ready up uses c.requires.uses c.args.goal c.requires.goal ids c.in-Ok.ensures.stand c.in-Ok.ensures.terms c.requires.instances) outcome.1,
    )

pub returns-in-Err-clause-grows : goal.returns-in-Err-clause-grows
returns-in-Err-clause-grows g c = WorkGrows-refl c.args.history.now c.args.work.now c.requires.ready.stands
