-- Multiples of atoms, one after the other.
use Rattle.std.proofs.Common.{◌≡◌, ℕ, ◌+◌, ◌<◌, ◌≤◌, Option, Some, None, List, [], ◌∷◌, ◌++◌, length, get_or, drop, refl, ap, ◌∙◌, sym, append_assoc, drop-cons, suc, arith}
use Rattle.std.proofs.lemmas.List.{drop_all, append-nil}
use Rattle.std.specs.Prelude.{ℤ, ◌*ℤ◌}
use Rattle.nq_logic.specs.Terms.{Term}
use Rattle.nq_bank.specs.Content.{Content, term_at}
use Rattle.nq_proof.specs.Linear.{and_then, bounded, scaled_atoms}
use Rattle.nq_linear_rule.specs.declared.form.Multiple.{Multiple}
use Rattle.nq_linear_rule.specs.Forms.{pair_at, pairs_at}

abbrev pub Pairs : Type 0
Pairs = List (Term × ℤ)

module _ (bank : Content) (z : ℤ) where
  -- the multiples so far, and then those of the rest
  abbrev pub from_here : Pairs → List Multiple → Option Pairs
  from_here done ms = and_then (scaled_atoms z (pairs_at bank ms)) (λ rest. Some (done ++ rest))

  regroup : (done : Pairs) (e : Term × ℤ) (o : Option Pairs) → and_then (and_then o (λ rest. Some (e ∷ rest))) (λ rest. Some (done ++ rest)) ≡ and_then o (λ rest. Some ((done ++ (e ∷ [])) ++ rest))
  regroup done e None = refl
  regroup done e (Some xs) = ap Some (sym (append_assoc done (e ∷ []) xs))

  one_more : (done : Pairs) (m : Multiple) (ms : List Multiple) (n : ℤ) → bounded (z *ℤ m.factor) ≡ Some n → from_here done (m ∷ ms) ≡ from_here (done ++ ((term_at bank m.atom, n) ∷ [])) ms
  one_more done m ms n h =
      ap (λ o. and_then (and_then o (λ n. and_then (scaled_atoms z (pairs_at bank ms)) (λ rest. Some ((term_at bank m.atom, n) ∷ rest)))) (λ rest. Some (done ++ rest))) h ∙
      regroup done (term_at bank m.atom, n) (scaled_atoms z (pairs_at bank ms))

  none_here : (done : Pairs) (m : Multiple) (ms : List Multiple) → bounded (z *ℤ m.factor) ≡ None → from_here done (m ∷ ms) ≡ None
  none_here done m ms h = ap (λ o. and_then (and_then o (λ n. and_then (scaled_atoms z (pairs_at bank ms)) (λ rest. Some ((term_at bank m.atom, n) ∷ rest)))) (λ rest. Some (done ++ rest))) h

  pushed : (ms : List Multiple) (m : Multiple) → pairs_at bank (ms ++ (m ∷ [])) ≡ pairs_at bank ms ++ (pair_at bank m ∷ [])
  pushed [] m = refl
  pushed (n ∷ ms) m = ap (λ xs. pair_at bank n ∷ xs) (pushed ms m)

  -- at the start nothing is done
  pub begun : (o : Option Pairs) → o ≡ and_then o (λ rest. Some ([] ++ rest))
  begun None = refl
  begun (Some xs) = refl

  module _ (ms : List Multiple) (i : ℕ) (d : Multiple) (below : i < length ms) where
    here : drop i ms ≡ get_or ms i d ∷ drop (i + 1) ms
    here = let next : suc i ≡ i + 1 = omega arith in drop-cons ms i d below ∙ ap (λ k. get_or ms i d ∷ drop k ms) next

    -- one more is done
    pub more_at : (done new : List Multiple) (m : Multiple) → bounded (z *ℤ (get_or ms i d).factor) ≡ Some m.factor → m.atom ≡ (get_or ms i d).atom → new ≡ done ++ (m ∷ []) → from_here (pairs_at bank done) (drop i ms) ≡ from_here (pairs_at bank new) (drop (i + 1) ms)
    more_at done new m h atom becomes =
        ap (from_here (pairs_at bank done)) here ∙ one_more (pairs_at bank done) (get_or ms i d) (drop (i + 1) ms) m.factor h ∙
        ap (λ a. from_here (pairs_at bank done ++ ((term_at bank a, m.factor) ∷ [])) (drop (i + 1) ms)) (sym atom) ∙
        ap (λ xs. from_here xs (drop (i + 1) ms)) (sym (ap (pairs_at bank) becomes ∙ pushed done m))

    -- a factor leaves the bounds
    pub none_at : (done : List Multiple) → bounded (z *ℤ (get_or ms i d).factor) ≡ None → from_here (pairs_at bank done) (drop i ms) ≡ None
    none_at done h = ap (from_here (pairs_at bank done)) here ∙ none_here (pairs_at bank done) (get_or ms i d) (drop (i + 1) ms) h

  whole : (o : Option Pairs) (done : Pairs) → and_then o (λ rest. Some (done ++ rest)) ≡ None → o ≡ None
  whole None done h = refl
  whole (Some xs) done h = absurd cc

  -- all are done
  pub ended : (ms done : List Multiple) (i : ℕ) → length ms ≤ i → from_here (pairs_at bank done) (drop i ms) ≡ Some (pairs_at bank done)
  ended ms done i above = ap (from_here (pairs_at bank done)) (drop_all i ms above) ∙ ap Some (append-nil (pairs_at bank done))
