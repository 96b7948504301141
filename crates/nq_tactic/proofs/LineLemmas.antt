-- Lines of goals, as each way back asks for them.
use Rattle.std.proofs.Common.{◌≡◌, ◌<◌, ℕ, zero, suc, List, [], ◌∷◌, length, get_or, sym, inl, inr, ap, subst, arith}
use Rattle.nq_logic.specs.Terms.{IsAmong}
use Rattle.nq_logic.specs.Words.{true_term}
use Rattle.nq_bank.specs.declared.node.TermId.{TermId}
use Rattle.nq_bank.specs.Content.{Content, IsIdOf, term_at, terms_at}
use Rattle.nq_bank.proofs.Standing.{id_grown}
use Rattle.nq_history.specs.declared.entry.Entry.{Entry}
use Rattle.nq_kernel.specs.declared.work.Work.{Work}
use Rattle.nq_kernel.specs.Growing.{WorkGrows, LineHolds}
use Rattle.nq_lines.specs.Lines.{LineHasOnly}
use Rattle.nq_lines.proofs.Among.{and_among, none_among}

-- an element of a list is among it
pub among_get : (xs : List TermId) (i : ℕ) (t d : TermId) → i < length xs → (get_or xs i d).0 ≡ t.0 → IsAmong t xs
among_get [] i t d below e = absurd (omega (arith, below))
among_get (x ∷ xs) zero t d below e = inl (ap (λ (n : ℕ). record { 0 = n }) (sym e))
among_get (x ∷ xs) (suc i) t d below e = inr (among_get xs i t d (omega (arith, below)) e)

pub term_among : (bank : Content) (t : TermId) (goal : List TermId) → IsAmong t goal → IsAmong (term_at bank t) (terms_at bank goal)
term_among bank t [] m = absurd m
term_among bank t (u ∷ us) (inl e) = inl (ap (term_at bank) e)
term_among bank t (u ∷ us) (inr m) = inr (term_among bank t us m)

-- the line of T has only literals of a goal with T
pub truth_has : (history : List Entry) (old new : Work) (n : ℕ) (shown : TermId) (goal : List TermId) → WorkGrows history old new → IsIdOf old.bank shown true_term → IsAmong shown goal → LineHolds new n (true_term ∷ []) → LineHasOnly new n (terms_at new.bank goal)
truth_has history old new n shown goal grows is among holds =
    let id : IsIdOf new.bank shown true_term = id_grown old.bank new.bank shown true_term grows.bank is in
    let here : IsAmong true_term (terms_at new.bank goal) = subst (λ t. IsAmong t (terms_at new.bank goal)) id.denotes (term_among new.bank shown goal among) in
    record { literals = true_term ∷ []; stands = holds; only = and_among true_term [] (terms_at new.bank goal) here (none_among (terms_at new.bank goal)) }
