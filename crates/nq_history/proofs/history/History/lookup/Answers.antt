use Rattle.std.proofs.Common.{length, sym, ap, ◌∙◌, arith}
use Rattle.std.specs.Option.{option_map}
use Rattle.std.proofs.lemmas.List.{length-map}
use Rattle.nq_history.specs.Events.{event_at}
use Rattle.nq_history.specs.Lookups.{entry_named}
use Rattle.nq_history.specs.Places.{place_in}
use Rattle.nq_history.proofs.PlaceLemmas.{place_within}
use Rattle.nq_history.proofs.LookupLemmas.{entry_at_place, no_entry, named_event}
use Rattle.nq_history.proofs.history.History.lookup.Goals as goal

pub index-requires : goal.index-requires
index-requires c =
    let name = c.args.name in
    let entries = c.self.inside.entries in
    let below = place_within name c.self.inside.index.events c.in-Some.place (sym c.place.ensures ∙ c.in-Some.is) in
    let size = ap length c.self.invariant.1.events ∙ length-map entries.items (λ e. e.name) in
    omega (arith, below, size, entries.ok.0)

pub returns-in-Some-clause-entry : goal.returns-in-Some-clause-entry
returns-in-Some-clause-entry c =
    let name = c.args.name in
    let entries = c.self.inside.entries.items in
    let found = ap (place_in name) (sym c.self.invariant.1.events) ∙ sym c.place.ensures ∙ c.in-Some.is in
    sym (ap (entry_named name) (sym c.self.view_is) ∙ entry_at_place name entries c.in-Some.place found c.index.result.now c.index.ensures)

pub returns-in-Some-clause-event : goal.returns-in-Some-clause-event
returns-in-Some-clause-event c =
    λ bank sound stands named.
    let name = c.args.name in
    let entries = c.self.inside.entries.items in
    let found = ap (place_in name) (sym c.self.invariant.1.events) ∙ sym c.place.ensures ∙ c.in-Some.is in
    ap (option_map (event_at bank)) (sym (ap (entry_named name) (sym c.self.view_is) ∙ entry_at_place name entries c.in-Some.place found c.index.result.now c.index.ensures)) ∙
    named_event bank name c.args.self.now sound named stands

pub returns-in-None-clause-entry : goal.returns-in-None-clause-entry
returns-in-None-clause-entry c =
    let name = c.args.name in
    let entries = c.self.inside.entries.items in
    let absent = ap (place_in name) (sym c.self.invariant.1.events) ∙ sym c.place.ensures ∙ c.in-None.is in
    sym (ap (entry_named name) (sym c.self.view_is) ∙ no_entry name entries absent)

pub returns-in-None-clause-event : goal.returns-in-None-clause-event
returns-in-None-clause-event c =
    λ bank sound stands named.
    let name = c.args.name in
    let entries = c.self.inside.entries.items in
    let absent = ap (place_in name) (sym c.self.invariant.1.events) ∙ sym c.place.ensures ∙ c.in-None.is in
    ap (option_map (event_at bank)) (sym (ap (entry_named name) (sym c.self.view_is) ∙ no_entry name entries absent)) ∙ named_event bank name c.args.self.now sound named stands
