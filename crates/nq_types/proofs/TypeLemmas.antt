-- What is told of types, in a work that grew.
use Rattle.std.proofs.Common.{◌≡◌, ◌≤◌, ℕ, suc, Option, Some, None, List, [], ◌∷◌, length, get_or, refl, sym, ap₂, subst, arith}
use Rattle.std.specs.Prelude.{All, IfOk, IsSome, Result}
use Rattle.nq_logic.specs.Terms.{Term}
use Rattle.nq_logic.specs.ShellPrinciple.{shells_of}
use Rattle.nq_bank.specs.declared.node.TermId.{TermId}
use Rattle.nq_bank.specs.Content.{term_at, terms_at}
use Rattle.nq_proof.specs.Clauses.{Clause}
use Rattle.nq_history.specs.declared.entry.Entry.{Entry}
use Rattle.nq_history.specs.Events.{events_at}
use Rattle.nq_history.proofs.HistoryLemmas.{events_at-grown}
use Rattle.nq_kernel.specs.declared.work.Work.{Work}
use Rattle.nq_kernel.specs.declared.work.Stop.{Stop}
use Rattle.nq_kernel.specs.Growing.{LineStands, WorkGrows, WorkStands}
use Rattle.nq_kernel.specs.Ready.{IsReady}
use Rattle.nq_lines.specs.Lines.{IsTermIn, LineHasOnly}
use Rattle.nq_lines.proofs.LineLemmas.{only_stands}
use Rattle.nq_lines.proofs.TermLemmas.{same_term_grown, term_grown}
use Rattle.nq_types.specs.declared.sets.TypeSet.{TypeSet}
use Rattle.nq_types.specs.Shown.{IsShown}

module _ (history : List Entry) (old one : Work) (stands : WorkStands history old) (grows : WorkGrows history old one) where
  pub all_grown : (ids : List TermId) → All (IsTermIn history old) ids → All (IsTermIn history one) ids
  all_grown ids h = λ k d below. term_grown history old one (get_or ids k d) stands grows (h k d below)

  same_terms : (ids : List TermId) → All (IsTermIn history old) ids → terms_at one.bank ids ≡ terms_at old.bank ids
  same_terms [] h = refl
  same_terms (t ∷ ids) h = ap₂ ◌∷◌ (same_term_grown history old one t grows (h 0 t (omega arith))) (same_terms ids (λ k d below. h (suc k) d (omega (arith, below))))

  same_events : events_at one.bank history ≡ events_at old.bank history
  same_events = events_at-grown old.bank one.bank grows.bank history stands.history.entries

  pub room_grown : length (shells_of (events_at old.bank history)) ≤ 61 → length (shells_of (events_at one.bank history)) ≤ 61
  room_grown room = subst (λ h. length (shells_of h) ≤ 61) (sym same_events) room

  pub ready_grown : IsReady (events_at old.bank history) → IsReady (events_at one.bank history)
  ready_grown ready = subst IsReady (sym same_events) ready

  pub shown_before : (new : Work) (assumed : List TermId) (t : TermId) (r : Result (TypeSet × ℕ) Stop) → All (IsTermIn history old) assumed → IsTermIn history old t → IfOk r (IsShown (events_at one.bank history) new (terms_at one.bank assumed) (term_at one.bank t)) → IfOk r (IsShown (events_at old.bank history) new (terms_at old.bank assumed) (term_at old.bank t))
  shown_before new assumed t r each there h =
      subst (λ es. IfOk r (IsShown es new (terms_at old.bank assumed) (term_at old.bank t))) same_events (
      subst (λ ts. IfOk r (IsShown (events_at one.bank history) new ts (term_at old.bank t))) (same_terms assumed each) (
      subst (λ u. IfOk r (IsShown (events_at one.bank history) new (terms_at one.bank assumed) u)) (same_term_grown history old one t grows there) h))

-- an instance of a row that is there stands
pub row_stands : (work : Work) (n : ℕ) (o : Option Clause) (f : Clause → List Term) → IsSome o → ((c : Clause) → o ≡ Some c → LineHasOnly work n (f c)) → LineStands work n
row_stands work n None f some h = absurd cc
row_stands work n (Some c) f some h = only_stands work n (f c) (h c refl)
