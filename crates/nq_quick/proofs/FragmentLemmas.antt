-- What the first pass answers in work that grew, and the answer that a value gives.
use Rattle.std.proofs.Common.{◌≡◌, ◌∷◌, [], ℕ, Option, Some, None, List, sym, subst}
use Rattle.nq_logic.specs.Terms.{Term}
use Rattle.nq_logic.specs.Histories.{History}
use Rattle.nq_bank.specs.declared.node.TermId.{TermId}
use Rattle.nq_bank.specs.Content.{Stands, term_at}
use Rattle.nq_bank.proofs.Growth.{term_at-grown}
use Rattle.nq_history.specs.declared.entry.Entry.{Entry}
use Rattle.nq_history.specs.Events.{events_at}
use Rattle.nq_history.proofs.HistoryLemmas.{events_at-grown}
use Rattle.nq_fragments.specs.Tautologies.{IsSmallTautology}
use Rattle.nq_fragments.specs.Fragments.{IsInNoFragment}
use Rattle.nq_kernel.specs.declared.work.Work.{Work}
use Rattle.nq_kernel.specs.declared.verdict.Quick.{Quick}
use Rattle.nq_kernel.specs.declared.verdict.Quick.TheVariants.{Eval}
use Rattle.nq_kernel.specs.Growing.{WorkGrows, WorkStands}
use Rattle.nq_kernel.specs.Proving.{IsFirstFragment}
use Rattle.nq_evaluated.specs.Values.{IsValueLine}
use Rattle.nq_eval.specs.Lines as evaluating
use Rattle.nq_quick.specs.Lines.{LineHasOnly, GrowsUncounted}
use Rattle.nq_quick.specs.Answers.{IsQuickProof, IsQuickAnswer}
use Rattle.nq_quick.proofs.LineLemmas.{one_only}

-- the proof of a goal that has a value other than F
pub value_proof : (history : List Entry) (old new : Work) (goal : TermId) (line : ℕ) → (IsSmallTautology (term_at old.bank goal) → ⊥) → IsValueLine history old new goal line → IsQuickProof history old new goal Eval line
value_proof history old new goal line no_tautology k =
    record {
      first = record { no_tautology = no_tautology; value = k.value };
      holds = one_only new line (term_at old.bank goal) [] k.holds;
    }

module _ (history : List Entry) (old mid : Work) (goal : TermId) (grows : WorkGrows history old mid) (stands : WorkStands history old) (stand : Stands old.bank goal) where
  events_same : events_at mid.bank history ≡ events_at old.bank history
  events_same = events_at-grown old.bank mid.bank grows.bank history stands.history.entries

  term_same : term_at mid.bank goal ≡ term_at old.bank goal
  term_same = term_at-grown old.bank mid.bank goal grows.bank stand

  -- what holds of the history and the goal holds of them in the bank that grew
  pub carried : (P : History → Term → Type 0) → P (events_at old.bank history) (term_at old.bank goal) → P (events_at mid.bank history) (term_at mid.bank goal)
  carried P k = subst (λ h. P h (term_at mid.bank goal)) (sym events_same) (subst (P (events_at old.bank history)) (sym term_same) k)

  pub carried_back : (P : History → Term → Type 0) → P (events_at mid.bank history) (term_at mid.bank goal) → P (events_at old.bank history) (term_at old.bank goal)
  carried_back P k = subst (λ h. P h (term_at old.bank goal)) events_same (subst (P (events_at mid.bank history)) term_same k)

  -- an answer in the work that grew is one in the work before
  pub answer_back : (new : Work) (o : Option (Quick × ℕ)) → IsQuickAnswer history mid new goal o → IsQuickAnswer history old new goal o
  answer_back new None k = carried_back IsInNoFragment k
  answer_back new (Some found) k =
      record {
        first = carried_back (λ h t. IsFirstFragment h t found.0) k.first;
        holds = subst (λ u. LineHasOnly new found.1 (u ∷ [])) term_same k.holds;
      }

-- growth as the lines of values tell it
pub grown_by_value : (history : List Entry) (old new : Work) → evaluating.GrowsUncounted history old new → GrowsUncounted history old new
grown_by_value history old new k = record { grows = k.grows; uncounted = k.uncounted }
