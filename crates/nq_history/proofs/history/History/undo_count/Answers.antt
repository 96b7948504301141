use Rattle.std.proofs.Common.{◌≡◌, ◌-◌, ℕ, length, sym, ap, ap₂, subst, ◌∙◌, arith}
use Rattle.nq_bank.specs.Content.{text_at}
use Rattle.nq_history.specs.Events.{events_at}
use Rattle.nq_history.specs.Lookups.{IsUndo, entries_before, undo_fault, undo_result}
use Rattle.nq_history.proofs.LookupLemmas.{undo_place}
use Rattle.nq_history.proofs.UndoLemmas.{undo_told}
use Rattle.nq_history.proofs.history.History.undo_count.Goals as goal

pub overflow_sub-result : goal.overflow_sub-result
overflow_sub-result c =
    let history = c.args.self.now in
    let name = c.args.name in
    let kept : c.count_before-kept.result ≡ length (entries_before name history) = c.count_before-kept.ensures in
    let all : c.len.result ≡ length history = c.len.ensures ∙ c.self.inside.entries.ok.0 ∙ ap length c.self.view_is in
    let again : c.len-in-None.result ≡ length history = c.len-in-None.ensures ∙ c.self.inside.entries.ok.0 ∙ ap length c.self.view_is in
    let place = undo_place name history c.count_before-kept.result c.len.result kept all (sym c.undo_fault.ensures ∙ c.in-None.is) in
    omega (arith, place.0, again)

pub returns-in-Some-clause-events : goal.returns-in-Some-clause-events
returns-in-Some-clause-events c =
    λ bank sound stands named.
    let history = c.args.self.now in
    let name = c.args.name in
    let kept : c.count_before-kept.result ≡ length (entries_before name history) = c.count_before-kept.ensures in
    let all : c.len.result ≡ length history = c.len.ensures ∙ c.self.inside.entries.ok.0 ∙ ap length c.self.view_is in
    let told = ap₂ undo_fault (sym kept) (sym all) ∙ sym c.undo_fault.ensures ∙ c.in-Some.is in
    subst (IsUndo (text_at bank name) (events_at bank history)) (ap (λ o. undo_result o (length history - length (entries_before name history))) told)
    (undo_told bank name history sound stands named)

pub returns-in-None-clause-events : goal.returns-in-None-clause-events
returns-in-None-clause-events c =
    λ bank sound stands named.
    let history = c.args.self.now in
    let name = c.args.name in
    let kept : c.count_before-kept.result ≡ length (entries_before name history) = c.count_before-kept.ensures in
    let all : c.len.result ≡ length history = c.len.ensures ∙ c.self.inside.entries.ok.0 ∙ ap length c.self.view_is in
    let again : c.len-in-None.result ≡ length history = c.len-in-None.ensures ∙ c.self.inside.entries.ok.0 ∙ ap length c.self.view_is in
    let told = ap₂ undo_fault (sym kept) (sym all) ∙ sym c.undo_fault.ensures ∙ c.in-None.is in
    subst (IsUndo (text_at bank name) (events_at bank history)) (ap₂ undo_result told (sym (ap₂ (λ (a b : ℕ). a - b) again kept)))
    (undo_told bank name history sound stands named)
