-- The terms of a goal of linear arithmetic, and equations that it shows.
use Rattle.std.proofs.Common.{◌≡◌, ◌∷◌, ◌++◌, ◌∙◌, [], ℕ, List, Some, get_or, ap, sym, subst, arith}
use Rattle.std.specs.Prelude.{All}
use Rattle.nq_logic.specs.Words.{equal_term}
use Rattle.nq_bank.specs.Content.{term_at, terms_at}
use Rattle.nq_bank.specs.declared.node.TermId.{TermId}
use Rattle.nq_bank.proofs.Standing.{All-push}
use Rattle.nq_history.specs.declared.entry.Entry.{Entry}
use Rattle.nq_kernel.specs.declared.work.Work.{Work}
use Rattle.nq_kernel.specs.Growing.{WorkStands, WorkGrows}
use Rattle.nq_lines.specs.Lines.{IsTermIn, LineHasOnly}
use Rattle.nq_lines.proofs.TermLemmas.{term_grown, same_term_grown}
use Rattle.nq_reduce.specs.Rewriting.{CanRewrite, IsRewritten, denials}

-- terms stay so
pub terms_grown : (history : List Entry) (old new : Work) → WorkStands history old → WorkGrows history old new → (xs : List TermId) → All (IsTermIn history old) xs → All (IsTermIn history new) xs
terms_grown history old new stands grows xs all = λ k d below. term_grown history old new (get_or xs k d) stands grows (all k d below)

-- one more
pub term_pushed : (history : List Entry) (work : Work) (xs ys : List TermId) (t : TermId) → ys ≡ xs ++ t ∷ [] → All (IsTermIn history work) xs → IsTermIn history work t → All (IsTermIn history work) ys
term_pushed history work xs ys t e all there = subst (All (IsTermIn history work)) (sym e) (All-push (IsTermIn history work) xs t all there)

-- none
pub no_terms : (history : List Entry) (work : Work) (xs : List TermId) → xs ≡ [] → All (IsTermIn history work) xs
no_terms history work xs e = subst (All (IsTermIn history work)) (sym e) (λ k d below. absurd (omega (arith, below)))

-- an equation just made
pub equation_now : (history : List Entry) (old new : Work) (t u equation : TermId) → WorkGrows history old new → IsTermIn history old t → IsTermIn history old u → term_at new.bank equation ≡ equal_term (term_at old.bank t) (term_at old.bank u) → term_at new.bank equation ≡ equal_term (term_at new.bank t) (term_at new.bank u)
equation_now history old new t u equation grows left right e =
    e ∙ (ap (λ x. equal_term x (term_at old.bank u)) (sym (same_term_grown history old new t grows left)) ∙ ap (equal_term (term_at new.bank t)) (sym (same_term_grown history old new u grows right)))

-- a line of an equation shows what its first side is rewritten to
pub equation_told : (history : List Entry) (old new : Work) (assumed : List TermId) (t u equation : TermId) (line : ℕ) → WorkGrows history old new → CanRewrite history old assumed t → IsTermIn history old u → term_at old.bank equation ≡ equal_term (term_at old.bank t) (term_at old.bank u) → LineHasOnly new line (term_at old.bank equation ∷ denials (terms_at old.bank assumed)) → IsRewritten history new (terms_at old.bank assumed) (term_at old.bank t) (record { term = u; line = Some line })
equation_told history old new assumed t u equation line grows can there e h =
    let D = denials (terms_at old.bank assumed) in
    record {
      new = term_grown history old new u can.stands grows there;
      shown = subst (λ x. LineHasOnly new line (x ∷ D)) (e ∙ ap (equal_term (term_at old.bank t)) (sym (same_term_grown history old new u grows there))) h;
    }
