use Rattle.std.proofs.Common.{◌≡◌, List, sym, ap, subst}
use Rattle.std.specs.Prelude.{All, MatchOption}
use Rattle.nq_logic.specs.Terms.{Each}
use Rattle.nq_logic.specs.Histories.{Event}
use Rattle.nq_bank.specs.declared.node.TermId.{TermId}
use Rattle.nq_bank.specs.Content.{Stands, terms_at}
use Rattle.nq_event.specs.EventsAt.{hints_at}
use Rattle.nq_history.specs.Events.{EntryStands, all_events_at, events_at}
use Rattle.nq_rule.proofs.Made.{for_ok}
use Rattle.nq_eliminate.specs.Finding.{EventServesNone, HasNoneOfEvents, IsCandidate}
use Rattle.nq_eliminate.proofs.FindingLemmas.{dropped_stand, match_mapped, none_of_events}
use Rattle.nq_eliminate.proofs.finding.find_candidate.Goals as goal

pub find_by_entries-requires-clause-calls : goal.find_by_entries-requires-clause-calls
find_by_entries-requires-clause-calls c = subst (All (Stands c.args.bank.now)) (sym c.as_slice.ensures.value) c.in_ok-calls.ensures.stand

pub find_by_entries-requires-clause-entries : goal.find_by_entries-requires-clause-entries
find_by_entries-requires-clause-entries c = subst (All (EntryStands c.args.bank.now)) (sym c.past_ground.ensures) (dropped_stand (EntryStands c.args.bank.now) c.args.history.now c.requires.history.entries)

pub returns : goal.returns
returns c =
    let bank = c.args.bank.now in
    let history = c.args.history.now in
    let h = events_at bank history in
    let hints = hints_at bank c.args.hints.now in
    let g = terms_at bank c.args.goal.now in
    let us = terms_at bank c.as_slice.result.now in
    let es = all_events_at bank c.past_ground.result.now in
    let same : es ≡ h = ap (all_events_at bank) c.past_ground.ensures in
    for_ok c.find_by_entries.result (λ found. MatchOption found (Each (EventServesNone h hints g us) es) (IsCandidate bank h hints g es)) (λ found. MatchOption found (HasNoneOfEvents h hints g) (IsCandidate bank h hints g h))
    (λ found told. match_mapped (Each (EventServesNone h hints g us) es) (HasNoneOfEvents h hints g) (IsCandidate bank h hints g es) (IsCandidate bank h hints g h) found
    (λ none.
    none_of_events bank h hints g c.in_ok-calls.calls.items c.in_ok-calls.ensures.holds
    (subst (λ (ids : List TermId). Each (EventServesNone h hints g (terms_at bank ids)) h) c.as_slice.ensures.value (subst (Each (EventServesNone h hints g us)) same none)))
    (λ x is. subst (λ (fs : List Event). IsCandidate bank h hints g fs x) same is) told) c.find_by_entries.ensures
