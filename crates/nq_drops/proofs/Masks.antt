-- Lines of which some were dropped: those that stand are told by a test of their numbers.
use Rattle.std.proofs.Common.{◌≡◌, ℕ, zero, suc, ◌+◌, ◌<◌, ◌≤◌, Bool, true, false, Option, Some, None, List, [], ◌∷◌, ◌++◌, length, refl, sym, ap, ◌∙◌, arith}
use Rattle.std.specs.Prelude.{nat_eq, ⊤, is_some, slice_get, if◌then◌else◌}
use Rattle.std.proofs.lemmas.Bool.Decides.{Decides-eqb}
use Rattle.nq_proof.specs.Clauses.{Clause}
use Rattle.nq_log.specs.States.{numbered, is_empty}
use Rattle.nq_log.specs.RuleLines.{dropped}
use Rattle.nq_log.proofs.Options.{found_same}

abbrev pub kept_if : Bool → Clause → Option Clause
kept_if b c = if b then Some c else None

-- the clauses of lines from number k on, of which those stand that pass
abbrev pub masked : (ℕ → Bool) → ℕ → List Clause → List (Option Clause)
masked p k [] = []
masked p k (c ∷ cs) = kept_if (p k) c ∷ masked p (suc k) cs

pub masked_end : (p : ℕ → Bool) (k : ℕ) (cs : List Clause) (c : Clause) → masked p k (cs ++ (c ∷ [])) ≡ masked p k cs ++ (kept_if (p (k + length cs)) c ∷ [])
masked_end p k [] c = ap (λ n. kept_if (p n) c ∷ []) (plus_none k)
  where
    plus_none : (k : ℕ) → k ≡ k + 0
    plus_none k = omega arith
masked_end p k (d ∷ cs) c = ap (λ rest. kept_if (p k) d ∷ rest) (masked_end p (suc k) cs c ∙ ap (λ n. masked p (suc k) cs ++ (kept_if (p n) c ∷ [])) (longer k (length cs)))
  where
    longer : (k m : ℕ) → suc k + m ≡ k + suc m
    longer k m = omega arith

pub masked_same : (p q : ℕ → Bool) (k : ℕ) (cs : List Clause) → ((l : ℕ) → k ≤ l → l < k + length cs → p l ≡ q l) → masked p k cs ≡ masked q k cs
masked_same p q k [] same = refl
masked_same p q k (c ∷ cs) same =
    ap (λ b. kept_if b c ∷ masked p (suc k) cs) (same k (omega arith) (omega arith))
    ∙ ap (λ rest. kept_if (q k) c ∷ rest) (masked_same p q (suc k) cs (λ l low high. same l (omega (arith, low)) (omega (arith, high))))

pub masked_at : (p : ℕ → Bool) (k : ℕ) (cs : List Clause) (j : ℕ) (c : Clause) → slice_get cs j ≡ Some c → slice_get (masked p k cs) j ≡ Some (kept_if (p (k + j)) c)
masked_at p k [] j c e = absurd cc
masked_at p k (d ∷ cs) zero c e = ap (λ d. Some (kept_if (p k) d)) (found_same d c e) ∙ ap (λ n. Some (kept_if (p n) c)) (plus_none k)
  where
    plus_none : (k : ℕ) → k ≡ k + 0
    plus_none k = omega arith
masked_at p k (d ∷ cs) (suc j) c e = masked_at p (suc k) cs j c e ∙ ap (λ n. Some (kept_if (p n) c)) (longer k j)
  where
    longer : (k m : ℕ) → suc k + m ≡ k + suc m
    longer k m = omega arith

-- the test but for one number
abbrev pub but : ℕ → (ℕ → Bool) → ℕ → Bool
but j p l = if nat_eq l j then false else p l

-- a line that is dropped is lost
pub masked_dropped : (p : ℕ → Bool) (k : ℕ) (cs : List Clause) (j : ℕ) → dropped (masked p k cs) j ≡ masked (but (k + j) p) k cs
masked_dropped p k [] j = refl
masked_dropped p k (c ∷ cs) zero = by_first (nat_eq k (k + 0)) ((Decides-eqb k (k + 0)).1 (plus_none k)) ∙ ap (λ rest. kept_if (but (k + 0) p k) c ∷ rest) (masked_same p (but (k + 0) p) (suc k) cs (λ l low high. sym (other l low)))
  where
    plus_none : (k : ℕ) → k ≡ k + 0
    plus_none k = omega arith

    by_first : (b : Bool) → b ≡ true → None ∷ masked p (suc k) cs ≡ kept_if (if b then false else p k) c ∷ masked p (suc k) cs
    by_first true e = refl
    by_first false e = absurd cc

    by_other : (b : Bool) (l : ℕ) → (b ≡ true → ⊥) → (if b then false else p l) ≡ p l
    by_other true l other_is = absurd (other_is refl)
    by_other false l other_is = refl

    other : (l : ℕ) → suc k ≤ l → but (k + 0) p l ≡ p l
    other l low = by_other (nat_eq l (k + 0)) l (λ e. let same = (Decides-eqb l (k + 0)).0 e in omega (arith, low, same))
masked_dropped p k (c ∷ cs) (suc j) = by_first (nat_eq k (k + suc j)) (λ e. let same = (Decides-eqb k (k + suc j)).0 e in omega (arith, same)) ∙ ap (λ rest. kept_if (but (k + suc j) p k) c ∷ rest) (masked_dropped p (suc k) cs j ∙ ap (λ n. masked (but n p) (suc k) cs) (longer k j))
  where
    longer : (k m : ℕ) → suc k + m ≡ k + suc m
    longer k m = omega arith

    by_first : (b : Bool) → (b ≡ true → ⊥) → kept_if (p k) c ∷ dropped (masked p (suc k) cs) j ≡ kept_if (if b then false else p k) c ∷ dropped (masked p (suc k) cs) j
    by_first true other_is = absurd (other_is refl)
    by_first false other_is = refl

-- ---- lines each of which stands with its clause, or does not

abbrev pub Below : List (Option Clause) → List Clause → Type 0
Below [] [] = ⊤
Below [] (c ∷ cs) = ⊥
Below (o ∷ lines) [] = ⊥
Below (None ∷ lines) (c ∷ cs) = Below lines cs
Below (Some d ∷ lines) (c ∷ cs) = (d ≡ c) × Below lines cs

pub below_end : (lines : List (Option Clause)) (cs : List Clause) (c : Clause) → Below lines cs → Below (lines ++ (Some c ∷ [])) (cs ++ (c ∷ []))
below_end [] [] c w = (refl, tt)
below_end [] (d ∷ cs) c w = absurd w
below_end (o ∷ lines) [] c w = absurd w
below_end (None ∷ lines) (d ∷ cs) c w = below_end lines cs c w
below_end (Some e ∷ lines) (d ∷ cs) c w = (w.0, below_end lines cs c w.1)

pub below_dropped : (lines : List (Option Clause)) (cs : List Clause) (j : ℕ) → Below lines cs → Below (dropped lines j) cs
below_dropped [] [] j w = tt
below_dropped [] (d ∷ cs) j w = absurd w
below_dropped (o ∷ lines) [] j w = absurd w
below_dropped (None ∷ lines) (d ∷ cs) zero w = w
below_dropped (Some e ∷ lines) (d ∷ cs) zero w = w.1
below_dropped (None ∷ lines) (d ∷ cs) (suc j) w = below_dropped lines cs j w
below_dropped (Some e ∷ lines) (d ∷ cs) (suc j) w = (w.0, below_dropped lines cs j w.1)

pub below_found : (lines : List (Option Clause)) (cs : List Clause) (j : ℕ) (c : Clause) → Below lines cs → slice_get lines j ≡ Some (Some c) → slice_get cs j ≡ Some c
below_found [] cs j c w e = absurd cc
below_found (o ∷ lines) [] j c w e = absurd w
below_found (None ∷ lines) (d ∷ cs) zero c w e = absurd (found_none (found_same None (Some c) e))
  where
    found_none : None ≡ Some c → ⊥
    found_none e = cc
below_found (Some f ∷ lines) (d ∷ cs) zero c w e = ap Some (sym w.0 ∙ found_same f c (found_same (Some f) (Some c) e))
below_found (None ∷ lines) (d ∷ cs) (suc j) c w e = below_found lines cs j c w e
below_found (Some f ∷ lines) (d ∷ cs) (suc j) c w e = below_found lines cs j c w.1 e

-- they are as many as those that are masked
pub same_empty : (lines : List (Option Clause)) (cs : List Clause) (p : ℕ → Bool) (k : ℕ) → Below lines cs → is_empty (masked p k cs) ≡ is_empty lines
same_empty [] [] p k w = refl
same_empty [] (d ∷ cs) p k w = absurd w
same_empty (o ∷ lines) [] p k w = absurd w
same_empty (o ∷ lines) (d ∷ cs) p k w = refl

pub same_there : (lines : List (Option Clause)) (cs : List Clause) (p : ℕ → Bool) (k j : ℕ) → Below lines cs → is_some (slice_get (masked p k cs) j) ≡ is_some (slice_get lines j)
same_there [] [] p k j w = refl
same_there [] (d ∷ cs) p k j w = absurd w
same_there (o ∷ lines) [] p k j w = absurd w
same_there (o ∷ lines) (d ∷ cs) p k zero w = refl
same_there (None ∷ lines) (d ∷ cs) p k (suc j) w = same_there lines cs p (suc k) j w
same_there (Some e ∷ lines) (d ∷ cs) p k (suc j) w = same_there lines cs p (suc k) j w.1

pub same_numbered : (lines : List (Option Clause)) (cs : List Clause) (p : ℕ → Bool) (l : ℕ) → Below lines cs → is_some (numbered (masked p 1 cs) l) ≡ is_some (numbered lines l)
same_numbered lines cs p zero w = refl
same_numbered lines cs p (suc j) w = same_there lines cs p 1 j w
