-- The definitions of a history's entries.
use Rattle.std.proofs.Common.{◌≡◌, List, [], ◌∷◌, ◌++◌, append_assoc, refl, sym, ap, ◌∙◌}
use Rattle.nq_logic.specs.Histories.{Event, event_definitions, events_definitions}
use Rattle.nq_logic.specs.Ground.{ground_definitions, ground_history}
use Rattle.nq_bank.specs.Content.{Content}
use Rattle.nq_history.specs.declared.entry.Entry.{Entry}
use Rattle.nq_history.specs.Events.{all_events_at, events_at, HistoryStands}
use Rattle.nq_history.proofs.LookupLemmas.{all_events_are}

pub definitions_join : (xs ys : List Event) → events_definitions (xs ++ ys) ≡ events_definitions xs ++ events_definitions ys
definitions_join [] ys = refl
definitions_join (x ∷ xs) ys = ap (λ ds. event_definitions x ++ ds) (definitions_join xs ys) ∙ sym (append_assoc (event_definitions x) (events_definitions xs) (events_definitions ys))

pub definitions_are : (bank : Content) (history : List Entry) → HistoryStands bank history → events_definitions (all_events_at bank history) ≡ ground_definitions ++ events_definitions (events_at bank history)
definitions_are bank history stands = ap events_definitions (sym (all_events_are bank history stands)) ∙ definitions_join ground_history (events_at bank history)
