-- What the first pass and the search say of a goal, as the work grows.
use Rattle.std.proofs.Common.{◌≡◌, true, Option, List, [], ◌∷◌, sym, subst}
use Rattle.std.specs.Prelude.{Result, IfOk}
use Rattle.std.specs.declared.alloc.AllocError.{AllocError}
use Rattle.nq_logic.specs.Terms.{Term}
use Rattle.nq_logic.specs.Histories.{History}
use Rattle.nq_proof.specs.Clauses.{Clause}
use Rattle.nq_proof.specs.Rules.{has_only}
use Rattle.nq_bank.specs.declared.node.TermId.{TermId}
use Rattle.nq_bank.specs.Content.{Stands, term_at}
use Rattle.nq_bank.proofs.Growth.{term_at-grown}
use Rattle.nq_history.specs.declared.entry.Entry.{Entry}
use Rattle.nq_history.specs.Events.{events_at}
use Rattle.nq_history.proofs.HistoryLemmas.{events_at-grown}
use Rattle.nq_fragments.specs.Fragments.{IsInNoFragment}
use Rattle.nq_kernel.specs.declared.verdict.Verdict.{Verdict}
use Rattle.nq_kernel.specs.declared.work.Work.{Work}
use Rattle.nq_kernel.specs.Growing.{WorkStands, WorkGrows}
use Rattle.nq_kernel.specs.Proving.{IsFirstPass}
use Rattle.nq_lines.specs.Lines.{HasOnly}
use Rattle.nq_quick.proofs.FirstPassLemmas.{only_told}

-- a line that has only a term is told as such by the test
pub told_only : (o : Option Clause) (u : Term) → HasOnly o (u ∷ []) → has_only o (u ∷ []) ≡ true
told_only o u only = only_told o u (record { literals = only.literals; stands = only.stands; only = only.only })

module _ (history : List Entry) (old new : Work) (stands : WorkStands history old) (grows : WorkGrows history old new) where
  same_events : events_at new.bank history ≡ events_at old.bank history
  same_events = events_at-grown old.bank new.bank grows.bank history stands.history.entries

  -- a goal that is in no fragment stays so
  pub none_grown : (goal : TermId) → Stands old.bank goal → IsInNoFragment (events_at old.bank history) (term_at old.bank goal) → IsInNoFragment (events_at new.bank history) (term_at new.bank goal)
  none_grown goal k none =
      subst (λ es. IsInNoFragment es (term_at new.bank goal)) (sym same_events)
      (subst (λ t. IsInNoFragment (events_at old.bank history) t) (sym (term_at-grown old.bank new.bank goal grows.bank k)) none)

  -- what an answer says of the first pass is said of the work before
  pub first_before : (goal : TermId) → Stands old.bank goal → (r : Result Verdict AllocError) → IfOk r (λ v. IsFirstPass (events_at new.bank history) (term_at new.bank goal) v) → IfOk r (λ v. IsFirstPass (events_at old.bank history) (term_at old.bank goal) v)
  first_before goal k r first =
      subst (λ es. IfOk r (λ v. IsFirstPass es (term_at old.bank goal) v)) same_events
      (subst (λ t. IfOk r (λ v. IsFirstPass (events_at new.bank history) t v)) (term_at-grown old.bank new.bank goal grows.bank k) first)
