-- The order in which two elements stand in a list.
use Rattle.std.proofs.Common.{◌≡◌, ℕ, suc, List, [], ◌∷◌, ◌++◌, ◌⊎◌, inl, inr, sym, ap, ◌∙◌}
use Rattle.std.specs.Prelude.{Some, slice_get}
use Rattle.nq_logic.specs.Terms.{IsAmong}

module _ {X : Type 0} where
  -- x stands in the list before y
  abbrev pub IsBefore : X → X → List X → Type 0
  IsBefore x y xs = (earlier : List X) × (later : List X) × (k : ℕ) × (xs ≡ earlier ++ (y ∷ later)) × (slice_get earlier k ≡ Some x)

  pub split_at : (y : X) (xs : List X) → IsAmong y xs → (earlier : List X) × (later : List X) × (xs ≡ earlier ++ (y ∷ later))
  split_at y [] m = absurd m
  split_at y (z ∷ zs) (inl e) = ([], zs, ap (λ w. w ∷ zs) (sym e))
  split_at y (z ∷ zs) (inr m) = let rest = split_at y zs m in (z ∷ rest.0, rest.1, ap (λ ws. z ∷ ws) rest.2)

  first_before : (x y z : X) (zs : List X) → x ≡ z → IsAmong y zs → IsBefore x y (z ∷ zs)
  first_before x y z zs e m = let rest = split_at y zs m in (z ∷ rest.0, rest.1, 0, ap (λ ws. z ∷ ws) rest.2, ap Some (sym e))

  later_before : (x y z : X) (zs : List X) → IsBefore x y zs → IsBefore x y (z ∷ zs)
  later_before x y z zs b = (z ∷ b.0, b.1, suc b.2, ap (λ ws. z ∷ ws) b.3, b.4)

  pub ordered : (x y : X) (xs : List X) → IsAmong x xs → IsAmong y xs → (x ≡ y) ⊎ (IsBefore x y xs ⊎ IsBefore y x xs)
  ordered x y [] m n = absurd m
  ordered x y (z ∷ zs) (inl e) (inl f) = inl (e ∙ sym f)
  ordered x y (z ∷ zs) (inl e) (inr n) = inr (inl (first_before x y z zs e n))
  ordered x y (z ∷ zs) (inr m) (inl f) = inr (inr (first_before y x z zs f m))
  ordered x y (z ∷ zs) (inr m) (inr n) = further (ordered x y zs m n)
    where
      further : (x ≡ y) ⊎ (IsBefore x y zs ⊎ IsBefore y x zs) → (x ≡ y) ⊎ (IsBefore x y (z ∷ zs) ⊎ IsBefore y x (z ∷ zs))
      further (inl e) = inl e
      further (inr (inl b)) = inr (inl (later_before x y z zs b))
      further (inr (inr b)) = inr (inr (later_before y x z zs b))

  -- at which place an element stands
  pub found_at : (x : X) (xs : List X) → IsAmong x xs → (k : ℕ) × (slice_get xs k ≡ Some x)
  found_at x [] m = absurd m
  found_at x (y ∷ ys) (inl e) = (0, ap Some (sym e))
  found_at x (y ∷ ys) (inr m) = let rest = found_at x ys m in (suc rest.0, rest.1)
