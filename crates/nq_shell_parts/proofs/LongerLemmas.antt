-- A law that stands on three lines.
use Rattle.std.proofs.Common.{◌≡◌, ◌<◌, ◌∙◌, ℕ, zero, suc, [], ◌∷◌, length, get_or, ap, arith}
use Rattle.nq_proof.specs.Clauses.{Clause}
use Rattle.nq_kernel.specs.declared.work.Work.{Work}
use Rattle.nq_kernel.specs.Growing.{LineHolds, LineStands, held}
use Rattle.nq_kernel.proofs.HeldLines.{holds_held, holds_stands}
use Rattle.nq_replay.specs.Parts.{lines_held}

module _ (work : Work) (a b c : ℕ) (p q r : Clause) (h : LineHolds work a p) (i : LineHolds work b q) (j : LineHolds work c r) where
  pub three_held : lines_held work (a ∷ b ∷ c ∷ []) ≡ p ∷ q ∷ r ∷ []
  three_held =
      ap (λ (x : Clause). x ∷ held work b ∷ held work c ∷ []) (holds_held work a p h) ∙ ap (λ (x : Clause). p ∷ x ∷ held work c ∷ []) (holds_held work b q i) ∙ ap (λ (x : Clause). p ∷ q ∷ x ∷ []) (holds_held work c r j)

  pub three_stand : (k d : ℕ) → k < length (a ∷ b ∷ c ∷ []) → LineStands work (get_or (a ∷ b ∷ c ∷ []) k d)
  three_stand zero d l = holds_stands work a p h
  three_stand (suc zero) d l = holds_stands work b q i
  three_stand (suc (suc zero)) d l = holds_stands work c r j
  three_stand (suc (suc (suc k))) d l = absurd (omega (arith, l))
