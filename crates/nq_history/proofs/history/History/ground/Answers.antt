use Rattle.std.proofs.Common.{◌≡◌, length, drop, refl, sym, ap, ◌∙◌, subst, arith}
use Rattle.std.proofs.lemmas.List.{drop-map, length-map}
use Rattle.nq_logic.specs.Ground.{ground_history}
use Rattle.nq_history.specs.Events.{event_at, ground_length}
use Rattle.nq_history.specs.Functions.{IsIndexOf}
use Rattle.nq_history.proofs.history.History.ground.Goals as goal

pub invariant_of-result : goal.invariant_of-result
invariant_of-result c =
    let entries = c.in_ok-entries.entries.items in
    let ground_size : length ground_history ≡ ground_length = refl in
    let size = sym (length-map entries (event_at c.ground_entries.new.bank)) ∙ ap length c.in_ok-entries.ensures.events ∙ ground_size in
    (omega (arith, size), subst (λ es. IsIndexOf es c.in_ok-index.index) c.as_slice.ensures.value c.in_ok-index.ensures)

pub returns-clause-past : goal.returns-clause-past
returns-clause-past c =
    sym (drop-map (event_at c.ground_entries.new.bank) ground_length c.in_ok-entries.entries.items) ∙ ap (drop ground_length) c.in_ok-entries.ensures.events
