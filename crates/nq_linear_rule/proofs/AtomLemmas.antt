-- Atoms that are added.
use Rattle.std.proofs.Common.{◌≡◌, ℕ, suc, ◌<◌, ◌≤◌, Bool, true, false, cond, Option, Some, None, List, [], ◌∷◌, ◌++◌, length, get_or, set, refl, ap, ◌∙◌, sym, subst, arith}
use Rattle.std.specs.Prelude.{ℤ, ◌+ℤ◌}
use Rattle.nq_logic.specs.Terms.{Term}
use Rattle.nq_bank.specs.Content.{Content, term_at}
use Rattle.nq_proof.specs.Clauses.{same_term}
use Rattle.nq_proof.specs.Linear.{and_then, bounded, with_atom}
use Rattle.nq_linear_rule.specs.declared.form.Multiple.{Multiple}
use Rattle.nq_linear_rule.specs.Forms.{pair_at, pairs_at}
use Rattle.nq_linear_rule.specs.Places.{place_of}

module _ (bank : Content) (t : Term) (z : ℤ) (d : Multiple) where
  abbrev place : List Multiple → ℕ
  place ms = place_of t (pairs_at bank ms)

  abbrev with_it : List Multiple → Option (List (Term × ℤ))
  with_it ms = with_atom t z (pairs_at bank ms)

  -- the choice at the first atom
  abbrev chosen : Bool → Multiple → List Multiple → Option (List (Term × ℤ))
  chosen b m ms =
      elim b as (λ b. Option (List (Term × ℤ))) [
        | true ↦ and_then (bounded (m.factor +ℤ z)) (λ n. Some ((term_at bank m.atom, n) ∷ pairs_at bank ms))
        | false ↦ and_then (with_it ms) (λ rest. Some (pair_at bank m ∷ rest))
      ]

  after : (b : Bool) (m : Multiple) (ms : List Multiple) → (length ms ≤ place ms → with_it ms ≡ Some (pairs_at bank ms ++ ((t, z) ∷ []))) → length (m ∷ ms) ≤ cond b 0 (suc (place ms)) → chosen b m ms ≡ Some (pairs_at bank (m ∷ ms) ++ ((t, z) ∷ []))
  after true m ms ih h = absurd (omega arith)
  after false m ms ih h = ap (λ o. and_then o (λ rest. Some (pair_at bank m ∷ rest))) (ih (omega arith))

  -- an atom that is not among them is put at the end
  pub with_new : (ms : List Multiple) → length ms ≤ place_of t (pairs_at bank ms) → with_atom t z (pairs_at bank ms) ≡ Some (pairs_at bank ms ++ ((t, z) ∷ []))
  with_new [] h = refl
  with_new (m ∷ ms) h = after (same_term t (term_at bank m.atom)) m ms (with_new ms) h

  abbrev factor_at : List Multiple → ℕ → ℤ
  factor_at ms p = (get_or ms p d).factor

  there : (b : Bool) (m : Multiple) (ms : List Multiple) (n : ℤ) → (place ms < length ms → bounded (factor_at ms (place ms) +ℤ z) ≡ Some n → with_it ms ≡ Some (pairs_at bank (set ms (place ms) (record { atom = (get_or ms (place ms) d).atom; factor = n }))))
      → cond b 0 (suc (place ms)) < length (m ∷ ms) → bounded (factor_at (m ∷ ms) (cond b 0 (suc (place ms))) +ℤ z) ≡ Some n
      → chosen b m ms ≡ Some (pairs_at bank (set (m ∷ ms) (cond b 0 (suc (place ms))) (record { atom = (get_or (m ∷ ms) (cond b 0 (suc (place ms))) d).atom; factor = n })))
  there true m ms n ih below h = ap (λ o. and_then o (λ n. Some ((term_at bank m.atom, n) ∷ pairs_at bank ms))) h
  there false m ms n ih below h = ap (λ o. and_then o (λ rest. Some (pair_at bank m ∷ rest))) (ih (omega arith) h)

  -- the factor of an atom that is among them is raised
  pub with_raised : (ms : List Multiple) (n : ℤ) → place_of t (pairs_at bank ms) < length ms → bounded ((get_or ms (place_of t (pairs_at bank ms)) d).factor +ℤ z) ≡ Some n
      → with_atom t z (pairs_at bank ms) ≡ Some (pairs_at bank (set ms (place_of t (pairs_at bank ms)) (record { atom = (get_or ms (place_of t (pairs_at bank ms)) d).atom; factor = n })))
  with_raised [] n below h = absurd (omega arith)
  with_raised (m ∷ ms) n below h = there (same_term t (term_at bank m.atom)) m ms n (with_raised ms n) below h

  beyond : (b : Bool) (m : Multiple) (ms : List Multiple) → (place ms < length ms → bounded (factor_at ms (place ms) +ℤ z) ≡ None → with_it ms ≡ None) → cond b 0 (suc (place ms)) < length (m ∷ ms)
      → bounded (factor_at (m ∷ ms) (cond b 0 (suc (place ms))) +ℤ z) ≡ None → chosen b m ms ≡ None
  beyond true m ms ih below h = ap (λ o. and_then o (λ n. Some ((term_at bank m.atom, n) ∷ pairs_at bank ms))) h
  beyond false m ms ih below h = ap (λ o. and_then o (λ rest. Some (pair_at bank m ∷ rest))) (ih (omega arith) h)

  -- no sum where the factor leaves the bounds
  pub with_none : (ms : List Multiple) → place_of t (pairs_at bank ms) < length ms → bounded ((get_or ms (place_of t (pairs_at bank ms)) d).factor +ℤ z) ≡ None → with_atom t z (pairs_at bank ms) ≡ None
  with_none [] below h = absurd (omega arith)
  with_none (m ∷ ms) below h = beyond (same_term t (term_at bank m.atom)) m ms (with_none ms) below h

  -- the same, where the place and what stands there are known by equations
  raised_at : (ms : List Multiple) (p : ℕ) (n : ℤ) → p ≡ place ms → p < length ms → bounded (factor_at ms p +ℤ z) ≡ Some n → with_it ms ≡ Some (pairs_at bank (set ms p (record { atom = (get_or ms p d).atom; factor = n })))
  raised_at ms p n at =
      subst (λ q. q < length ms → bounded (factor_at ms q +ℤ z) ≡ Some n → with_it ms ≡ Some (pairs_at bank (set ms q (record { atom = (get_or ms q d).atom; factor = n })))) (sym at) (with_raised ms n)

  pub sum_raised : (ms slice again new : List Multiple) (p : ℕ) (n : ℤ) (o : Option ℤ) → slice ≡ ms → again ≡ ms → p ≡ place_of t (pairs_at bank slice) → p < length ms → o ≡ bounded ((get_or again p d).factor +ℤ z) → o ≡ Some n
      → new ≡ set ms p (record { atom = (get_or ms p d).atom; factor = n }) → with_atom t z (pairs_at bank ms) ≡ Some (pairs_at bank new)
  sum_raised ms slice again new p n o same same2 at below is was becomes =
      raised_at ms p n (at ∙ ap place same) below (ap (λ xs. bounded (factor_at xs p +ℤ z)) (sym same2) ∙ sym is ∙ was) ∙ ap (λ xs. Some (pairs_at bank xs)) (sym becomes)

  none_at : (ms : List Multiple) (p : ℕ) → p ≡ place ms → p < length ms → bounded (factor_at ms p +ℤ z) ≡ None → with_it ms ≡ None
  none_at ms p at = subst (λ q. q < length ms → bounded (factor_at ms q +ℤ z) ≡ None → with_it ms ≡ None) (sym at) (with_none ms)

  pub sum_none : (ms slice again : List Multiple) (p : ℕ) (o : Option ℤ) → slice ≡ ms → again ≡ ms → p ≡ place_of t (pairs_at bank slice) → p < length ms → o ≡ bounded ((get_or again p d).factor +ℤ z) → o ≡ None → with_atom t z (pairs_at bank ms) ≡ None
  sum_none ms slice again p o same same2 at below is was = none_at ms p (at ∙ ap place same) below (ap (λ xs. bounded (factor_at xs p +ℤ z)) (sym same2) ∙ sym is ∙ was)

  pub sum_new : (ms slice new : List Multiple) (p : ℕ) (m : Multiple) → slice ≡ ms → p ≡ place_of t (pairs_at bank slice) → length ms ≤ p → new ≡ ms ++ (m ∷ []) → pair_at bank m ≡ (t, z) → with_atom t z (pairs_at bank ms) ≡ Some (pairs_at bank new)
  sum_new ms slice new p m same at above becomes is =
      let beyond : length ms ≤ place ms = subst (λ q. length ms ≤ q) (at ∙ ap place same) above in
      with_new ms beyond ∙ ap (λ e. Some (pairs_at bank ms ++ (e ∷ []))) (sym is) ∙ ap Some (sym (ap (pairs_at bank) becomes ∙ map_pushed ms m))
    where
      map_pushed : (ms : List Multiple) (m : Multiple) → pairs_at bank (ms ++ (m ∷ [])) ≡ pairs_at bank ms ++ (pair_at bank m ∷ [])
      map_pushed [] m = refl
      map_pushed (n ∷ ms) m = ap (λ xs. pair_at bank n ∷ xs) (map_pushed ms m)
