-- What the functions on places within a term tell.
use Prim.Native.String.{String as Text}
use Rattle.std.proofs.Common.{◌≡◌, true, ℕ, zero, suc, List, [], ◌∷◌, ◌⊎◌, ◌==◌, inl, inr, refl, sym, ap, ap₂, subst}
use Rattle.std.specs.Prelude.{Option, Some, None, codes}
use Rattle.nq_logic.specs.Terms.{Term, Variable, Function, Applied, Symbol, Takes, IsTerm}
use Rattle.nq_logic.specs.Words.{not_term, if_term}
use Rattle.nq_logic.specs.Laws.{IsReplaced, here, same, parts}
use Rattle.nq_logic.specs.Numerals.{is_numeral}
use Rattle.nq_proof.specs.Paths.{is_function, argument_count, around, in_argument, replaced_at, IfParts, if_parts, under_not, under_twice, under_two_nots}
use Rattle.nq_proof.proofs.Tests.{names_same, chosen_some, none_is_not_some, some_same}

pub function_is : (f : Text) (t : Term) → is_function f t ≡ true → t ≡ Function (codes f)
function_is f (Variable x) e = absurd cc
function_is f (Function g) e = ap Function (sym (names_same (codes f) g e))
function_is f (Applied t u) e = absurd cc

-- what a change around a place tells of the change there
around_some : (wrap : Term → Term) (o : Option (Term × Term)) (u b : Term) → around wrap o ≡ Some (u, b) → (v : Term) × (o ≡ Some (u, v)) × (wrap v ≡ b)
around_some wrap None u b e = absurd cc
around_some wrap (Some change) u b e =
    let both = some_same (change.0, wrap change.1) (u, b) e in
    (change.1, ap (λ w. Some (w, change.1)) (ap (λ pair. pair.0) both), ap (λ pair. pair.1) both)

module _ (symbols : List Symbol) (t : Term) where
  -- the replacement is one, and what stood there is a term
  abbrev pub IsChange : ℕ → Term → Term → Term → Type 0
  IsChange n a u b = IsReplaced u t n a b × (Takes symbols a n → IsTerm symbols u)

  in_argument_is : (place : ℕ) (change : Term → Option (Term × Term)) → ((a u b : Term) → change a ≡ Some (u, b) → IsChange zero a u b) →
      (n : ℕ) (a u b : Term) → in_argument place change a ≡ Some (u, b) → IsChange n a u b
  in_argument_is place change f n (Variable x) u b e = absurd cc
  in_argument_is place change f n (Function g) u b e = absurd cc
  in_argument_is place change f n (Applied g v) u b e =
      by_place (λ n u b e. in_argument_is place change f n g u b e)
      (chosen_some (suc (argument_count g) == place) (around (λ w. Applied g w) (change v)) (around (λ w. Applied w v) (in_argument place change g)) (u, b) e)
    where
      by_place : ((n : ℕ) (u b : Term) → in_argument place change g ≡ Some (u, b) → IsChange n g u b) → ((suc (argument_count g) == place ≡ true) × (around (λ w. Applied g w) (change v) ≡ Some (u, b))) ⊎ (around (λ w. Applied w v) (in_argument place change g) ≡ Some (u, b)) →
          IsChange n (Applied g v) u b
      by_place again (inl p) =
          let inner = around_some (λ w. Applied g w) (change v) u b p.1 in
          let rest = f v u inner.0 inner.1 in
          subst (λ b. IsChange n (Applied g v) u b) inner.2 (parts (same (suc n) g) rest.0, λ o. rest.1 o.1)
      by_place again (inr p) =
          let inner = around_some (λ w. Applied w v) (in_argument place change g) u b p in
          let rest = again (suc n) u inner.0 inner.1 in
          subst (λ b. IsChange n (Applied g v) u b) inner.2 (parts rest.0 (same zero v), λ o. rest.1 o.0)

  pub replaced_is : (path : List ℕ) (a u b : Term) → replaced_at path t a ≡ Some (u, b) → IsChange zero a u b
  replaced_is [] a u b e =
      let both = some_same (a, t) (u, b) e in
      let first : a ≡ u = ap (λ pair. pair.0) both in
      let second : t ≡ b = ap (λ pair. pair.1) both in
      subst (λ u. IsChange zero a u b) first (subst (λ b. IsChange zero a a b) second (here, λ o. o))
  replaced_is (place ∷ path) a u b e = by_test (λ a u b e. replaced_is path a u b e) (chosen_some (is_numeral a) None (in_argument place (replaced_at path t) a) (u, b) e)
    where
      by_test : ((a u b : Term) → replaced_at path t a ≡ Some (u, b) → IsChange zero a u b) → ((is_numeral a ≡ true) × ◌≡◌ {A = Option (Term × Term)} None (Some (u, b))) ⊎ (in_argument place (replaced_at path t) a ≡ Some (u, b)) → IsChange zero a u b
      by_test again (inl p) = absurd (none_is_not_some (u, b) p.1)
      by_test again (inr p) = in_argument_is place (replaced_at path t) again zero a u b p

pub if_parts_are : (a : Term) (found : IfParts) → if_parts a ≡ Some found → a ≡ if_term found.test found.first found.second
if_parts_are (Variable z) found e = absurd cc
if_parts_are (Function f) found e = absurd cc
if_parts_are (Applied (Variable z) d) found e = absurd cc
if_parts_are (Applied (Function f) d) found e = absurd cc
if_parts_are (Applied (Applied (Variable z) c) d) found e = absurd cc
if_parts_are (Applied (Applied (Function f) c) d) found e = absurd cc
if_parts_are (Applied (Applied (Applied f b) c) d) found e = by_test (chosen_some (is_function "IF" f) (Some (record { test = b; first = c; second = d })) None found e)
  where
    by_test : ((is_function "IF" f ≡ true) × (Some (record { test = b; first = c; second = d }) ≡ Some found)) ⊎ (None ≡ Some found) →
        Applied (Applied (Applied f b) c) d ≡ if_term found.test found.first found.second
    by_test (inl q) =
        subst (λ (parts : IfParts). Applied (Applied (Applied f b) c) d ≡ if_term parts.test parts.first parts.second)
        (some_same (record { test = b; first = c; second = d }) found q.1) (ap (λ g. Applied (Applied (Applied g b) c) d) (function_is "IF" f q.0))
    by_test (inr q) = absurd (none_is_not_some found q)

under_not_is : (a t : Term) → under_not a ≡ Some t → a ≡ not_term t
under_not_is (Variable x) t e = absurd cc
under_not_is (Function f) t e = absurd cc
under_not_is (Applied f u) t e = by_test (chosen_some (is_function "NOT" f) (Some u) None t e)
  where
    by_test : ((is_function "NOT" f ≡ true) × (Some u ≡ Some t)) ⊎ (None ≡ Some t) → Applied f u ≡ not_term t
    by_test (inl q) = ap₂ Applied (function_is "NOT" f q.0) (some_same u t q.1)
    by_test (inr q) = absurd (none_is_not_some t q)

pub two_nots_are : (a t : Term) → under_two_nots a ≡ Some t → a ≡ not_term (not_term t)
two_nots_are a t e = by_first (under_not a) refl e
  where
    by_first : (o : Option Term) → under_not a ≡ o → under_twice o ≡ Some t → a ≡ not_term (not_term t)
    by_first None f g = absurd (none_is_not_some t g)
    by_first (Some b) f g = subst (λ c. a ≡ not_term c) (under_not_is b t g) (under_not_is a b f)
