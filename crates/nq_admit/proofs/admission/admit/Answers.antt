use Rattle.std.proofs.Common.{◌≡◌, ◌∙◌, ◌<◌, ◌≤◌, length, map, sym, ap, subst}
use Rattle.nq_logic.specs.ShellPrinciple.{first_repeated}
use Rattle.nq_bank.specs.Content.{text_at, term_at}
use Rattle.nq_bank.specs.Shells.{texts_at}
use Rattle.nq_history.specs.Events.{events_at, past_ground}
use Rattle.nq_event.specs.EventsAt.{measure_at}
use Rattle.nq_events.specs.OwnRefusals.{room_refusal}
use Rattle.nq_admit.specs.Admission.{refusal_at}
use Rattle.nq_admit.proofs.AdmissionLemmas.{none_found, only_room, no_room, has_room}
use Rattle.nq_admit.proofs.admission.admit.Goals.{After-past_ground}
use Rattle.nq_admit.proofs.admission.admit.Goals as goal

left : (c : After-past_ground) → refusal_at c.args.bank.now c.args.history.now c.args.name c.args.formals.now c.args.body c.args.measures.now ≡ room_refusal (events_at c.args.bank.now c.args.history.now)
left c =
    let texts = texts_at c.args.bank.now c.args.formals.now in
    only_room (events_at c.args.bank.now c.args.history.now) (text_at c.args.bank.now c.args.name) texts (term_at c.args.bank.now c.args.body) (map (measure_at c.args.bank.now) c.args.measures.now)
    (sym c.in_use.ensures ∙ c.if-in_use.false)
    (sym c.in_default.ensures.is)
    (none_found c.args.bank.now c.in_ok-formal.field-0 (first_repeated texts) c.in_ok-formal.ensures.is c.in_default-2.is)
    (sym (c.in_default-first_free.ensures.is c.args.formals.now c.in_ok-known.ensures))
    (sym (c.are_good_measures.ensures c.args.formals.now c.in_ok-known.ensures) ∙ c.if-not-are_good_measures.false)

pub returns-then-past_ground-ge-EVENT_LIMIT-clause-answer : goal.returns-then-past_ground-ge-EVENT_LIMIT-clause-answer
returns-then-past_ground-ge-EVENT_LIMIT-clause-answer c =
    left (goal.at.returns-then-past_ground-ge-EVENT_LIMIT-clause-answer c).After-past_ground ∙
    no_room c.args.bank.now c.args.history.now (subst (λ es. 10000 ≤ length es) c.past_ground.ensures c.if-past_ground-ge-EVENT_LIMIT.true)

pub returns-clause-answer : goal.returns-clause-answer
returns-clause-answer c =
    left (goal.at.returns-clause-answer c).After-past_ground ∙
    has_room c.args.bank.now c.args.history.now (subst (λ es. length es < 10000) c.past_ground.ensures c.if-past_ground-ge-EVENT_LIMIT.false)
