-- Where a function stands in the measure at the arguments of a call.
use Rattle.std.proofs.Common.{◌≡◌, ℕ, suc, ◌+◌, ◌<◌, ◌≤◌, ◌⊎◌, inl, inr, Bool, true, false, ◌||◌, ◌&&◌, not, List, [], ◌∷◌, length, get_or, drop, drop-cons, map, refl, sym, ap, ap₂, ◌∙◌, add-one}
use Rattle.std.specs.Prelude.{bytes_eq, if◌then◌else◌}
use Rattle.std.proofs.lemmas.List.{at_drop_all}
use Rattle.nq_logic.specs.Terms.{Name, Term, Variable, Function, Applied, value_at, substituted}
use Rattle.nq_logic.specs.Names.{has_name, are_distinct}
use Rattle.nq_logic.specs.Admissible.{mentions, matched}
use Rattle.nq_bank.specs.Parts.{occurs}
use Rattle.nq_bank.proofs.Texts.{bytes_eq-true, eq-bytes_eq}
use Rattle.nq_bank.specs.declared.node.TermId.{TermId}
use Rattle.nq_bank.specs.Content.{Content, term_at, terms_at}
use Rattle.nq_calls.specs.Falls.{uses_of, is_in_used}

or_false : (a : Bool) → (a || false) ≡ a
or_false true = refl
or_false false = refl

-- no formal is used
unused : (f : Name) (xs : List Name) (ts : List Term) → is_in_used f (map (λ x. false) xs) ts ≡ false
unused f [] ts = refl
unused f (x ∷ xs) [] = refl
unused f (x ∷ xs) (t ∷ ts) = unused f xs ts

one_use : (f : Name) (b : Bool) (uses : List Bool) (t : Term) (ts : List Term) → is_in_used f (b ∷ uses) (t ∷ ts) ≡ ((b && mentions f t) || is_in_used f uses ts)
one_use f true uses t ts = refl
one_use f false uses t ts = refl

-- a variable that is none of the formals
other_name : (f x : Name) (xs : List Name) (ts : List Term) → has_name x xs ≡ false → is_in_used f (map (λ y. bytes_eq y x) xs) ts ≡ false
other_name f x [] ts h = refl
other_name f x (y ∷ xs) [] h = refl
other_name f x (y ∷ xs) (t ∷ ts) h =
    let both = neither (bytes_eq x y) (has_name x xs) h in
    one_use f (bytes_eq y x) (map (λ z. bytes_eq z x) xs) t ts ∙
    ap₂ (λ a b. (a && mentions f t) || b) (turned x y both.0) (other_name f x xs ts both.1)
  where
    neither : (a b : Bool) → (a || b) ≡ false → (a ≡ false) × (b ≡ false)
    neither true b e = absurd cc
    neither false b e = (refl, e)

    turned : (x y : Name) → bytes_eq x y ≡ false → bytes_eq y x ≡ false
    turned x y h = by_test (bytes_eq y x) refl
      where
        by_test : (b : Bool) → bytes_eq y x ≡ b → b ≡ false
        by_test false e = refl
        by_test true e = let same : bytes_eq x y ≡ true = eq-bytes_eq x y (sym (bytes_eq-true y x e)) in sym same ∙ h

-- a variable
of_variable : (f : Name) (xs : List Name) (ts : List Term) (y : Name) → are_distinct xs ≡ true → mentions f (value_at (matched xs ts) y) ≡ is_in_used f (map (λ x. bytes_eq x y) xs) ts
of_variable f [] ts y d = refl
of_variable f (x ∷ xs) [] y d = refl
of_variable f (x ∷ xs) (t ∷ ts) y d =
    by_test (of_variable f xs ts y rest.1) (bytes_eq y x) refl ∙ sym (one_use f (bytes_eq x y) (map (λ z. bytes_eq z y) xs) t ts)
  where
    both_true : (a b : Bool) → (not a && b) ≡ true → (a ≡ false) × (b ≡ true)
    both_true true b e = absurd cc
    both_true false b e = (refl, e)

    rest : (has_name x xs ≡ false) × (are_distinct xs ≡ true)
    rest = both_true (has_name x xs) (are_distinct xs) d

    by_test : mentions f (value_at (matched xs ts) y) ≡ is_in_used f (map (λ z. bytes_eq z y) xs) ts → (b : Bool) → bytes_eq y x ≡ b →
        mentions f (if b then t else value_at (matched xs ts) y) ≡ ((bytes_eq x y && mentions f t) || is_in_used f (map (λ z. bytes_eq z y) xs) ts)
    by_test later true e =
        let same : y ≡ x = bytes_eq-true y x e in
        let here : bytes_eq x y ≡ true = eq-bytes_eq x y (sym same) in
        let none : is_in_used f (map (λ z. bytes_eq z y) xs) ts ≡ false = other_name f y xs ts (ap (λ z. has_name z xs) same ∙ rest.0) in
        sym (ap₂ (λ a b. (a && mentions f t) || b) here none ∙ or_false (mentions f t))
    by_test later false e =
        later ∙ sym (ap (λ a. (a && mentions f t) || is_in_used f (map (λ z. bytes_eq z y) xs) ts) (turned (bytes_eq x y) refl))
      where
        turned : (b : Bool) → bytes_eq x y ≡ b → bytes_eq x y ≡ false
        turned false e2 = e2
        turned true e2 = let both : bytes_eq y x ≡ true = eq-bytes_eq y x (sym (bytes_eq-true x y e2)) in absurd (no_truth (sym e ∙ both))
          where
            no_truth : false ≡ true → ⊥
            no_truth k = cc

-- formals that are used by one of two terms
shuffled : (a b c d e : Bool) → (((a || b) && c) || (d || e)) ≡ (((a && c) || d) || ((b && c) || e))
shuffled true true true d e = refl
shuffled true true false d e = refl
shuffled true false true d e = refl
shuffled true false false d e = refl
shuffled false true true true e = refl
shuffled false true true false e = refl
shuffled false true false d e = refl
shuffled false false c d e = refl

by_either : (f : Name) (p q : Name → Bool) (xs : List Name) (ts : List Term) → is_in_used f (map (λ x. p x || q x) xs) ts ≡ (is_in_used f (map p xs) ts || is_in_used f (map q xs) ts)
by_either f p q [] ts = refl
by_either f p q (x ∷ xs) [] = refl
by_either f p q (x ∷ xs) (t ∷ ts) =
    one_use f (p x || q x) (map (λ y. p y || q y) xs) t ts ∙
    ap (λ b. ((p x || q x) && mentions f t) || b) (by_either f p q xs ts) ∙
    shuffled (p x) (q x) (mentions f t) (is_in_used f (map p xs) ts) (is_in_used f (map q xs) ts) ∙
    sym (ap₂ (λ a b. a || b) (one_use f (p x) (map p xs) t ts) (one_use f (q x) (map q xs) t ts))

four : (a b c d : Bool) → ((a || b) || (c || d)) ≡ ((a || c) || (b || d))
four true b c d = refl
four false true true d = refl
four false true false d = refl
four false false true d = refl
four false false false d = refl

-- The measure at the arguments mentions the function where the measure does, or the argument of a formal that it uses.
pub smaller_mentions : (f : Name) (xs : List Name) (ts : List Term) (m : Term) → are_distinct xs ≡ true → mentions f (substituted (matched xs ts) m) ≡ (mentions f m || is_in_used f (uses_of xs m) ts)
unfolding occurs
smaller_mentions f xs ts (Variable y) d = of_variable f xs ts y d
smaller_mentions f xs ts (Function g) d = sym (ap (λ b. bytes_eq f g || b) (unused f xs ts) ∙ or_false (bytes_eq f g))
smaller_mentions f xs ts (Applied t u) d =
    ap₂ (λ a b. a || b) (smaller_mentions f xs ts t d) (smaller_mentions f xs ts u d) ∙
    four (mentions f t) (is_in_used f (uses_of xs t) ts) (mentions f u) (is_in_used f (uses_of xs u) ts) ∙
    ap (λ b. (mentions f t || mentions f u) || b) (sym (by_either f (λ x. occurs x t) (λ x. occurs x u) xs ts))

-- the arguments that are left
module _ (f : Name) (bank : Content) (uses : List Bool) (ids : List TermId) where
  abbrev pub used_from : ℕ → Bool
  used_from i = is_in_used f (drop i uses) (terms_at bank (drop i ids))

  at_place : (i : ℕ) (b : Bool) (d : TermId) → i < length uses → i < length ids → used_from i ≡ ((get_or uses i b && mentions f (term_at bank (get_or ids i d))) || used_from (suc i))
  at_place i b d first second =
      ap₂ (λ (us : List Bool) (ts : List TermId). is_in_used f us (terms_at bank ts)) (drop-cons uses i b first) (drop-cons ids i d second) ∙
      one_use f (get_or uses i b) (drop (suc i) uses) (term_at bank (get_or ids i d)) (terms_at bank (drop (suc i) ids))

  pub used_here : (i : ℕ) (b : Bool) (d : TermId) → i < length uses → i < length ids → true ≡ (get_or uses i b && mentions f (term_at bank (get_or ids i d))) → used_from i ≡ used_from 0 → true ≡ used_from 0
  used_here i b d first second here so_far = ap (λ b. b || used_from (suc i)) here ∙ sym (at_place i b d first second) ∙ so_far

  pub not_used_here : (i : ℕ) (b : Bool) (d : TermId) → i < length uses → i < length ids → false ≡ (get_or uses i b && mentions f (term_at bank (get_or ids i d))) → used_from i ≡ used_from 0 → used_from (i + 1) ≡ used_from 0
  not_used_here i b d first second here so_far = ap used_from (add-one i) ∙ ap (λ b. b || used_from (suc i)) here ∙ sym (at_place i b d first second) ∙ so_far

  none_given : (us : List Bool) → is_in_used f us [] ≡ false
  none_given [] = refl
  none_given (u ∷ us) = refl

  pub none_used : (i : ℕ) → (length uses ≤ i) ⊎ (length ids ≤ i) → used_from i ≡ used_from 0 → false ≡ used_from 0
  none_used i (inl past) so_far = sym (at_drop_all (λ us. is_in_used f us (terms_at bank (drop i ids))) uses i past) ∙ so_far
  none_used i (inr past) so_far = sym (none_given (drop i uses)) ∙ sym (at_drop_all (λ ts. is_in_used f (drop i uses) (terms_at bank ts)) ids i past) ∙ so_far
