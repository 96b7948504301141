-- What is known of a term, as the work grows and as it is asked for.
use Rattle.std.proofs.Common.{◌≡◌, ◌<◌, ℕ, true, Some, List, refl, ap, ◌∙◌, subst, inl, inr, arith}
use Rattle.std.specs.Prelude.{nat_eq}
use Rattle.std.specs.HashMap.{Updates}
use Rattle.nq_bank.specs.declared.node.TermId.{TermId}
use Rattle.nq_bank.specs.Content.{term_at}
use Rattle.nq_bank.proofs.Growth.{term_at-grown}
use Rattle.nq_clause.proofs.Lookups.{kept_or_stood}
use Rattle.nq_history.specs.declared.entry.Entry.{Entry}
use Rattle.nq_history.specs.Events.{events_at}
use Rattle.nq_history.proofs.HistoryLemmas.{events_at-grown}
use Rattle.nq_kernel.specs.declared.work.Work.{Work}
use Rattle.nq_kernel.specs.Growing.{WorkStands, WorkGrows}
use Rattle.nq_fragments.specs.Outcomes.{Reached, OutOfFuel, is_small}
use Rattle.nq_eval.specs.Lines.{IsUsable}
use Rattle.nq_eval.specs.declared.found.Known.{Known}
use Rattle.nq_eval.specs.Known.{IsKnown, IsReached, Memo, Knows, outcome_at}
use Rattle.nq_eval.proofs.CostLemmas.{granted_few, granted_flat, small_takes}
use Rattle.nq_eval.proofs.LineLemmas.{usable_grown, equates_grown}

module _ (history : List Entry) (work : Work) where
  pub own_reached : (t : TermId) (n left : ℕ) → IsUsable work.bank history t → is_small (term_at work.bank t) ≡ true → IsReached history work t n left (record { value = t; calls = 0; nesting = 0; line = 0 })
  own_reached t n left usable small =
      record {
        known = record { value = usable; small = small; takes = small_takes (events_at work.bank history) (term_at work.bank t) small; line = λ differs. absurd (differs refl) };
        calls = omega arith;
        nesting = omega arith;
      }

  pub few_fuel : (t : TermId) (k : Known) (n left : ℕ) → IsKnown history work t k → left < k.calls → outcome_at history work t n left ≡ OutOfFuel
  few_fuel t k n left known h = known.takes.within n left ∙ granted_few k.calls k.nesting n left (Reached (term_at work.bank k.value)) h

  pub flat_fuel : (t : TermId) (k : Known) (n left : ℕ) → IsKnown history work t k → n < k.nesting → outcome_at history work t n left ≡ OutOfFuel
  flat_fuel t k n left known h = known.takes.within n left ∙ granted_flat k.calls k.nesting n left (Reached (term_at work.bank k.value)) h

-- what is known stays known
pub known_grown : (history : List Entry) (old new : Work) (t : TermId) (k : Known) → WorkStands history old → WorkGrows history old new → IsUsable old.bank history t → IsKnown history old t k → IsKnown history new t k
known_grown history old new t k stands grows usable known =
    let here : term_at new.bank t ≡ term_at old.bank t = term_at-grown old.bank new.bank t grows.bank usable.stands in
    let value : term_at new.bank k.value ≡ term_at old.bank k.value = term_at-grown old.bank new.bank k.value grows.bank known.value.stands in
    let events : events_at new.bank history ≡ events_at old.bank history = events_at-grown old.bank new.bank grows.bank history stands.history.entries in
    record {
      value = usable_grown old.bank new.bank history k.value grows.bank stands.history known.value;
      small = ap is_small value ∙ known.small;
      takes = rw (here, value, events) known.takes;
      line = λ differs. equates_grown history old new k.line t k.value stands grows usable known.value (known.line differs);
    }

pub knows_grown : (history : List Entry) (old new : Work) (memo : Memo) → WorkStands history old → WorkGrows history old new → Knows history old memo → Knows history new memo
knows_grown history old new memo stands grows knows =
    record {
      usable = λ t k found. usable_grown old.bank new.bank history t grows.bank stands.history (knows.usable t k found);
      known = λ t k found. known_grown history old new t k stands grows (knows.usable t k found) (knows.known t k found);
    }

-- one more term is known
pub knows_kept : (history : List Entry) (work : Work) (old new : Memo) (t : TermId) (k : Known) → Knows history work old → Updates nat_eq old new t.0 (Some k) → IsUsable work.bank history t → IsKnown history work t k → Knows history work new
knows_kept history work old new t k knows updates usable known =
    record {
      usable = λ u j found.
          elim (kept_or_stood old new t.0 u.0 k j updates found) [
            | inl here ↦ subst (λ n. IsUsable work.bank history (record { 0 = n })) here.0 usable
            | inr there ↦ knows.usable u j there
          ];
      known = λ u j found.
          elim (kept_or_stood old new t.0 u.0 k j updates found) [
            | inl here ↦ subst (λ l. IsKnown history work u l) here.1 (subst (λ n. IsKnown history work (record { 0 = n }) k) here.0 known)
            | inr there ↦ knows.known u j there
          ];
    }
