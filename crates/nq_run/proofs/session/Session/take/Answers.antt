use Rattle.std.proofs.Common.{subst, sym}
use Rattle.std.proofs.lemmas.Result.{IfOk-weaker}
use Rattle.nq_sexp.specs.Tree.{tree}
use Rattle.nq_event.specs.EventsAt.{event_at}
use Rattle.nq_run.specs.Sessions.{TakesEvent}
use Rattle.nq_run.specs.declared.session.Session.{Session}
use Rattle.nq_run.proofs.SessionLemmas.{mark_before, same_history, stands_grown}
use Rattle.nq_run.proofs.TakingLemmas.{event_stands, refused_form, spelled_here, takes_form}
use Rattle.nq_run.proofs.session.Session.take.Goals as goal

pub take_event-requires-clause-stands : goal.take_event-requires-clause-stands
take_event-requires-clause-stands g c = stands_grown c.args.self c.parse_event.new.bank c.requires.stands c.in-Ok.ensures.grows

pub take_event-requires-clause-mark : goal.take_event-requires-clause-mark
take_event-requires-clause-mark g c = mark_before c.args.self c.parse_event.new.bank c.mark-mark.result c.requires.stands c.in-Ok.ensures.grows c.mark-mark.ensures

pub take_event-requires-clause-event : goal.take_event-requires-clause-event
take_event-requires-clause-event g c =
    event_stands c.args.self c.parse_event.new.bank (tree c.args.form.now) c.in-Ok.event c.args.logging c.requires.stands c.in-Ok.ensures.grows c.in-Ok.ensures.event

pub take_event-requires-clause-spelled : goal.take_event-requires-clause-spelled
take_event-requires-clause-spelled g c =
    spelled_here c.args.self c.parse_event.new.bank (tree c.args.form.now) c.in-Ok.event c.args.logging c.requires.stands c.in-Ok.ensures.grows c.events_are_spelled.ensures.events c.in-Ok.ensures.event
    c.requires.spelled c.requires.narrow

pub untaken-requires-clause-stands : goal.untaken-requires-clause-stands
untaken-requires-clause-stands g c = stands_grown c.args.self c.parse_event.new.bank c.requires.stands c.in-Err.ensures.grows

pub untaken-requires-clause-mark : goal.untaken-requires-clause-mark
untaken-requires-clause-mark g c = mark_before c.args.self c.parse_event.new.bank c.mark-mark.result c.requires.stands c.in-Err.ensures.grows c.mark-mark.ensures

pub returns-in-Ok-clause-takes : goal.returns-in-Ok-clause-takes
returns-in-Ok-clause-takes g c =
    let bank = c.parse_event.new.bank in
    let form = tree c.args.form.now in
    let event = c.in-Ok.event in
    IfOk-weaker c.take_event.result (TakesEvent c.args.steps (record { bank = bank; history = c.args.self.history }) c.mark-mark.result form (event_at bank event) c.args.logging) _
    (λ r taken. takes_form c.args.self bank form event c.args.logging c.requires.stands c.in-Ok.ensures.grows c.args.steps c.mark-mark.result r c.mark-mark.ensures c.in-Ok.ensures.event taken) c.take_event.ensures.takes

pub returns-in_ok-answer-in-Err-clause-takes : goal.returns-in_ok-answer-in-Err-clause-takes
returns-in_ok-answer-in-Err-clause-takes g c =
    let bank = c.parse_event.new.bank in
    let grown : Session = record { bank = bank; history = c.args.self.history } in
    refused_form c.args.steps c.args.self grown c.mark-mark.result (tree c.args.form.now) c.args.logging c.in-Err.fault c.in_ok-answer-in-Err.answer c.untaken.result (same_history c.args.self bank c.requires.stands c.in-Err.ensures.grows)
    c.mark-mark.ensures c.in-Err.ensures.grows c.in-Err.ensures.refused c.in_ok-answer-in-Err.ensures c.untaken.ensures

pub returns-in_ok-answer-in-Err-clause-learnt : goal.returns-in_ok-answer-in-Err-clause-learnt
returns-in_ok-answer-in-Err-clause-learnt g c = subst (g.P.Prover.has_learnt c.args.prover.now) (sym c.untaken.ensures.entries) c.requires.learnt
