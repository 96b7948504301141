use Rattle.std.proofs.Common.{◌≡◌, ◌∙◌, ◌∷◌, [], List, map, ap, sym, subst}
use Rattle.std.specs.Prelude.{MatchOption}
use Rattle.nq_logic.specs.Histories.{RuleClass, Event, Axiom, Lemma}
use Rattle.nq_bank.specs.Content.{Stands, term_at, terms_at, text_at}
use Rattle.nq_event.specs.EventsAt.{hints_at}
use Rattle.nq_history.specs.declared.entry.Class.{Class}
use Rattle.nq_history.specs.declared.entry.EntryKind.{EntryKind}
use Rattle.nq_history.specs.Events.{KindStands, class_of, event_at, event_of, events_at}
use Rattle.nq_eliminate.specs.Finding.{EventServesNone, IsCandidate}
use Rattle.nq_eliminate.proofs.FindingLemmas.{axiom_found, lemma_found}
use Rattle.nq_eliminate.proofs.finding.find_by_entry.Goals as goal

pub returns-in_ok-found-in-Axiom : goal.returns-in_ok-found-in-Axiom
returns-in_ok-found-in-Axiom c =
    let bank = c.args.bank.now in
    let h = events_at bank c.args.history.now in
    let hints = hints_at bank c.args.hints.now in
    let g = terms_at bank c.args.goal.now in
    let us = terms_at bank c.args.calls.now in
    let name = c.args.entry.now.name in
    let t = c.in-Axiom.t in
    let classes : List RuleClass = map class_of c.as_slice-classes.result.now in
    let stands : Stands bank t = subst (λ (k : EntryKind). KindStands bank name k) c.in-Axiom.is c.requires.entry.kind in
    let same : event_at bank c.args.entry.now ≡ Axiom (text_at bank name) classes (term_at bank t) =
    ap (event_of bank name) c.in-Axiom.is ∙ ap (λ (cs : List Class). Axiom (text_at bank name) (map class_of cs) (term_at bank t)) (sym c.as_slice-classes.ensures.value) in
    subst (λ (e : Event). MatchOption c.candidate_of.result (EventServesNone h hints g us e) (IsCandidate bank h hints g (e ∷ []))) (sym same)
    (axiom_found bank h hints g us name c.requires.entry.name t stands classes c.in_ok-found-in-Axiom.found c.candidate_of.result c.candidate_of.ensures c.in_ok-found-in-Axiom.ensures)

pub returns-in_ok-found-in-Lemma : goal.returns-in_ok-found-in-Lemma
returns-in_ok-found-in-Lemma c =
    let bank = c.args.bank.now in
    let h = events_at bank c.args.history.now in
    let hints = hints_at bank c.args.hints.now in
    let g = terms_at bank c.args.goal.now in
    let us = terms_at bank c.args.calls.now in
    let name = c.args.entry.now.name in
    let t = c.in-Lemma.t in
    let classes : List RuleClass = map class_of c.as_slice-classes-in-Lemma.result.now in
    let stands : Stands bank t = subst (λ (k : EntryKind). KindStands bank name k) c.in-Lemma.is c.requires.entry.kind in
    let same : event_at bank c.args.entry.now ≡ Lemma (text_at bank name) classes (term_at bank t) =
    ap (event_of bank name) c.in-Lemma.is ∙ ap (λ (cs : List Class). Lemma (text_at bank name) (map class_of cs) (term_at bank t)) (sym c.as_slice-classes-in-Lemma.ensures.value) in
    subst (λ (e : Event). MatchOption c.candidate_of-in-Lemma.result (EventServesNone h hints g us e) (IsCandidate bank h hints g (e ∷ []))) (sym same)
    (lemma_found bank h hints g us name c.requires.entry.name t stands classes c.in_ok-found-in-Lemma.found c.candidate_of-in-Lemma.result c.candidate_of-in-Lemma.ensures c.in_ok-found-in-Lemma.ensures)
