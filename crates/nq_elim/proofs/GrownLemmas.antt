-- Terms of goals, however the work grows.
use Rattle.std.proofs.Common.{◌≡◌, List, [], ◌∷◌, get_or, refl, ap₂}
use Rattle.std.specs.Prelude.{All}
use Rattle.nq_logic.specs.Terms.{Term}
use Rattle.nq_bank.specs.declared.node.TermId.{TermId}
use Rattle.nq_bank.specs.Content.{terms_at}
use Rattle.nq_bank.proofs.NodesLemmas.{All-head, All-tail}
use Rattle.nq_history.specs.declared.entry.Entry.{Entry}
use Rattle.nq_kernel.specs.declared.work.Work.{Work}
use Rattle.nq_kernel.specs.Growing.{WorkStands, WorkGrows}
use Rattle.nq_lines.specs.Lines.{IsTermIn}
use Rattle.nq_lines.proofs.TermLemmas.{term_grown, same_term_grown}

module _ (history : List Entry) (old new : Work) (stands : WorkStands history old) (grows : WorkGrows history old new) where
  -- they stay in
  pub terms_grown : (ids : List TermId) → All (IsTermIn history old) ids → All (IsTermIn history new) ids
  terms_grown ids h = λ i d below. term_grown history old new (get_or ids i d) stands grows (h i d below)

  -- and denote the same
  pub same_terms : (ids : List TermId) → All (IsTermIn history old) ids → terms_at new.bank ids ≡ terms_at old.bank ids
  same_terms [] h = refl
  same_terms (t ∷ ids) h =
      ap₂ (λ (u : Term) (us : List Term). u ∷ us) (same_term_grown history old new t grows (All-head (IsTermIn history old) t ids h)) (same_terms ids (All-tail (IsTermIn history old) t ids h))
