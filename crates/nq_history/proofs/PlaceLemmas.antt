-- The places of names in a list that grows or shrinks at its end.
use Rattle.std.proofs.Common.{◌≡◌, ◌<◌, ℕ, zero, suc, Bool, true, false, cond, List, [], ◌∷◌, ◌++◌, Option, Some, None, length, refl, sym, ap, ◌∙◌, arith, if◌then◌else◌}
use Rattle.std.specs.Prelude.{nat_eq}
use Rattle.std.specs.Option.{option_map}
use Rattle.std.proofs.lemmas.Bool.{eqb-true, eq-eqb}
use Rattle.std.specs.HashMap.{get, Updates}
use Rattle.nq_bank.specs.declared.node.Sym.{Sym}
use Rattle.nq_history.specs.Places.{place_in, FindsPlaces, Places}

-- where a name stands first, after one more name, which is this one or another, was put at this place
abbrev placed : Option ℕ → Bool → ℕ → Option ℕ
placed (Some i) b n = Some i
placed None true n = Some n
placed None false n = None

place_push : (name s : Sym) (names : List Sym) → place_in name (names ++ s ∷ []) ≡ placed (place_in name names) (nat_eq name.0 s.0) (length names)
place_push name s [] = alone (nat_eq name.0 s.0)
  where
    alone : (b : Bool) → (if b then Some 0 else option_map suc None) ≡ placed None b 0
    alone true = refl
    alone false = refl
place_push name s (other ∷ names) = pick (nat_eq name.0 other.0) (place_push name s names)
  where
    later : (o : Option ℕ) (b : Bool) → option_map suc (placed o b (length names)) ≡ placed (option_map suc o) b (suc (length names))
    later (Some i) b = refl
    later None true = refl
    later None false = refl

    pick : (c : Bool) → place_in name (names ++ s ∷ []) ≡ placed (place_in name names) (nat_eq name.0 s.0) (length names)
        → (if c then Some 0 else option_map suc (place_in name (names ++ s ∷ []))) ≡ placed (if c then Some 0 else option_map suc (place_in name names)) (nat_eq name.0 s.0) (suc (length names))
    pick true h = refl
    pick false h = ap (option_map suc) h ∙ later (place_in name names) (nat_eq name.0 s.0)

-- a place is less than the length
pub place_within : (name : Sym) (names : List Sym) (i : ℕ) → place_in name names ≡ Some i → i < length names
place_within name [] i h = cc
place_within name (s ∷ names) i h = pick (nat_eq name.0 s.0) (place_in name names) i h (place_within name names)
  where
    pick : (b : Bool) (o : Option ℕ) (i : ℕ) → (if b then Some 0 else option_map suc o) ≡ Some i → ((j : ℕ) → o ≡ Some j → j < length names) → i < suc (length names)
    pick true o zero k less = omega arith
    pick true o (suc i) k less = cc
    pick false None i k less = cc
    pick false (Some j) zero k less = cc
    pick false (Some j) (suc i) k less = let below = less i cc in omega (arith, below)

-- one number is another, or is not
either_way : (a b : ℕ) (P : Bool → Bool → Type 0) → (a ≡ b → P true true) → (nat_eq a b ≡ false → P false false) → P (nat_eq a b) (nat_eq b a)
either_way a b P same other = pick (nat_eq a b) refl (nat_eq b a) refl
  where
    pick : (c : Bool) → nat_eq a b ≡ c → (d : Bool) → nat_eq b a ≡ d → P c d
    pick true k true m = same (eqb-true a b k)
    pick true k false m = let swapped = eq-eqb b a (sym (eqb-true a b k)) in cc
    pick false k true m = let swapped = eq-eqb a b (sym (eqb-true b a m)) in cc
    pick false k false m = other k

other_placed : (o : Option ℕ) (n : ℕ) → placed o false n ≡ o
other_placed None n = refl
other_placed (Some i) n = refl

module _ (names : List Sym) (s : Sym) where
  -- what a map has for a name of the same number
  found_at : (places : Places) (found : Option ℕ) (name : Sym) → get nat_eq places s.0 ≡ found → name.0 ≡ s.0 → get nat_eq places name.0 ≡ found
  found_at places found name is same = ap (get nat_eq places) same ∙ is

  -- a name that stands in the list already
  pub finds_again : (places : Places) (i : ℕ) → FindsPlaces names places → get nat_eq places s.0 ≡ Some i → FindsPlaces (names ++ s ∷ []) places
  finds_again places i finds there name =
      finds name ∙
      either_way name.0 s.0 (λ b c. place_in name names ≡ placed (place_in name names) b (length names))
      (λ same. stays (place_in name names) (sym (finds name) ∙ found_at places (Some i) name there same))
      (λ other. sym (other_placed (place_in name names) (length names))) ∙
      sym (place_push name s names)
    where
      stays : (o : Option ℕ) → o ≡ Some i → o ≡ placed o true (length names)
      stays None k = cc
      stays (Some j) k = refl

  -- a name that is new
  pub finds_new : (old new : Places) → FindsPlaces names old → get nat_eq old s.0 ≡ None → Updates nat_eq old new s.0 (Some (length names)) → FindsPlaces (names ++ s ∷ []) new
  finds_new old new finds absent puts name =
      puts.0 name.0 ∙
      ap (cond (nat_eq s.0 name.0) (Some (length names))) (finds name) ∙
      either_way name.0 s.0 (λ b c. cond c (Some (length names)) (place_in name names) ≡ placed (place_in name names) b (length names))
      (λ same. comes (place_in name names) (sym (finds name) ∙ found_at old None name absent same))
      (λ other. sym (other_placed (place_in name names) (length names))) ∙
      sym (place_push name s names)
    where
      comes : (o : Option ℕ) → o ≡ None → Some (length names) ≡ placed o true (length names)
      comes None k = refl
      comes (Some j) k = cc

  -- the last name goes, which stands nowhere before
  pub finds_without : (old new : Places) → FindsPlaces (names ++ s ∷ []) old → get nat_eq old s.0 ≡ Some (length names) → Updates nat_eq old new s.0 None → FindsPlaces names new
  finds_without old new finds last goes name =
      let found = finds name ∙ place_push name s names in
      goes.0 name.0 ∙
      ap (cond (nat_eq s.0 name.0) None) found ∙
      either_way name.0 s.0 (λ b c. (get nat_eq old name.0 ≡ placed (place_in name names) b (length names)) → cond c None (placed (place_in name names) b (length names)) ≡ place_in name names)
      (λ same is. nowhere (place_in name names) refl (sym is ∙ found_at old (Some (length names)) name last same))
      (λ other is. other_placed (place_in name names) (length names))
      found
    where
      nowhere : (o : Option ℕ) → place_in name names ≡ o → placed o true (length names) ≡ Some (length names) → None ≡ o
      nowhere None k h = refl
      nowhere (Some i) k h =
          let below = place_within name names i k in
          let at : i ≡ length names = cc in
          absurd (omega (arith, below, at))

  -- the last name goes, and stands before too
  pub finds_before : (places : Places) → FindsPlaces (names ++ s ∷ []) places → (get nat_eq places s.0 ≡ Some (length names) → ⊥) → FindsPlaces names places
  finds_before places finds earlier name =
      let found = finds name ∙ place_push name s names in
      found ∙
      either_way name.0 s.0 (λ b c. (get nat_eq places name.0 ≡ placed (place_in name names) b (length names)) → placed (place_in name names) b (length names) ≡ place_in name names)
      (λ same is. stays (place_in name names) (sym (ap (get nat_eq places) same) ∙ is))
      (λ other is. other_placed (place_in name names) (length names))
      found
    where
      stays : (o : Option ℕ) → get nat_eq places s.0 ≡ placed o true (length names) → placed o true (length names) ≡ o
      stays None is = absurd (earlier is)
      stays (Some i) is = refl
