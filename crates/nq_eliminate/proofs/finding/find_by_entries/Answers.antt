use Rattle.std.proofs.Common.{◌∷◌, [], subst}
use Rattle.std.specs.Prelude.{MatchOption, Option}
use Rattle.nq_bank.specs.Content.{terms_at}
use Rattle.nq_event.specs.EventsAt.{hints_at}
use Rattle.nq_history.specs.declared.entry.Entry.{Entry}
use Rattle.nq_history.specs.Events.{event_at, events_at}
use Rattle.nq_eliminate.specs.Finding.{EventServesNone, IsCandidate}
use Rattle.nq_eliminate.specs.declared.finding.Candidate.{Candidate}
use Rattle.nq_eliminate.proofs.FindingLemmas.{entry_found}
use Rattle.nq_eliminate.proofs.ServingLemmas.{each_all, each_more}
use Rattle.nq_eliminate.proofs.finding.find_by_entries.Goals as goal

pub loop-entry-preserved : goal.loop-entry-preserved
loop-entry-preserved c =
    let bank = c.args.bank.now in
    let h = events_at bank c.args.history.now in
    let hints = hints_at bank c.args.hints.now in
    let g = terms_at bank c.args.goal.now in
    let P = EventServesNone h hints g (terms_at bank c.args.calls.now) in
    let e = c.entry-item.result in
    let none = subst (λ (o : Option Candidate). MatchOption o (P (event_at bank e)) (IsCandidate bank h hints g (event_at bank e ∷ []))) c.in_default.is c.in_ok-found.ensures in
    each_more P (event_at bank) c.args.entries.now c.loop-entry.entry-index e c.loop-entry-test.true c.loop-entry.invariant (subst (λ (k : Entry). P (event_at bank k)) c.entry-item.is none)

pub returns-in-Some : goal.returns-in-Some
returns-in-Some c =
    let bank = c.args.bank.now in
    let h = events_at bank c.args.history.now in
    let hints = hints_at bank c.args.hints.now in
    let g = terms_at bank c.args.goal.now in
    let P = EventServesNone h hints g (terms_at bank c.args.calls.now) in
    let e = c.entry-item.result in
    entry_found bank h hints g c.args.entries.now c.loop-entry.entry-index e c.in-Some.candidate c.loop-entry-test.true c.entry-item.is
    (subst (λ (o : Option Candidate). MatchOption o (P (event_at bank e)) (IsCandidate bank h hints g (event_at bank e ∷ []))) c.in-Some.is c.in_ok-found.ensures)

pub returns : goal.returns
returns c =
    let bank = c.args.bank.now in
    each_all (EventServesNone (events_at bank c.args.history.now) (hints_at bank c.args.hints.now) (terms_at bank c.args.goal.now) (terms_at bank c.args.calls.now)) (event_at bank) c.args.entries.now c.loop-entry.entry-index c.loop-entry-test.false c.loop-entry.invariant
