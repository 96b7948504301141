use Rattle.std.proofs.Common.{◌≡◌, ◌∷◌, [], Option, ap, subst}
use Rattle.std.specs.Prelude.{IfSome}
use Rattle.std.proofs.lemmas.Result.{IfOk-weaker}
use Rattle.nq_bank.specs.Content.{term_at, terms_at}
use Rattle.nq_history.specs.Events.{events_at}
use Rattle.nq_comment.specs.ReportViews.{steps_of}
use Rattle.nq_event.specs.EventsAt.{hints_at}
use Rattle.nq_goals.specs.Moves.{IsMove}
use Rattle.nq_goals.specs.declared.kinds.MoveKind.TheVariants.{Ind}
use Rattle.nq_answers.specs.Shown.{ShowsTrace, shown_steps}
use Rattle.nq_traces.proofs.TraceLemmas.{trace_laws_hold}
use Rattle.nq_tracer.specs.declared.nexts.Nexts.{Nexts}
use Rattle.nq_tracer.specs.Leads.{NextsStand}
use Rattle.nq_tracer.specs.Steps.{steps_to}
use Rattle.nq_tracer.proofs.TraceLemmas.{trace_of_move}
use Rattle.nq_first_goal.proofs.tracing.trace_goal.Goals as goal

pub induction_from-requires-clause-over : goal.induction_from-requires-clause-over
induction_from-requires-clause-over c = λ i d below. (c.requires.literals i d below).over

pub shown_nexts-requires : goal.shown_nexts-requires
shown_nexts-requires c = subst (λ (o : Option Nexts). IfSome o (NextsStand c.induction_from.new.bank)) c.in-Some.is c.in_ok-found.ensures.stand

pub returns-in-Some-clause-told : goal.returns-in-Some-clause-told
returns-in-Some-clause-told c =
    let old = c.args.bank.now in
    let new = c.induction_from.new.bank in
    let h = events_at old c.args.history.now in
    let hints = hints_at old c.args.hints.now in
    let first = terms_at old c.args.goal.now in
    let n : Nexts = c.in-Some.nexts in
    let nexts = (term_at new n.base ∷ []) ∷ (term_at new n.step ∷ []) ∷ [] in
    let move = subst (λ (o : Option Nexts). IfSome o (λ n. IsMove h hints [] Ind first ((term_at new n.base ∷ []) ∷ (term_at new n.step ∷ []) ∷ []))) c.in-Some.is c.in_ok-found.ensures.moves in
    IfOk-weaker c.shown_nexts.result (λ v. steps_of v.items ≡ shown_steps (steps_to Ind nexts)) (λ v. ShowsTrace h hints first (steps_of v.items))
    (λ v shown. record { steps = steps_to Ind nexts; trace = trace_of_move h hints Ind first nexts move; shown_is = shown })
    c.shown_nexts.ensures

pub returns-in-None-clause-told : goal.returns-in-None-clause-told
returns-in-None-clause-told c =
    let old = c.args.bank.now in
    let h = events_at old c.args.history.now in
    let hints = hints_at old c.args.hints.now in
    record { steps = []; trace = trace_laws_hold.begun h hints (terms_at old c.args.goal.now); shown_is = ap steps_of c.new.ensures.items }
