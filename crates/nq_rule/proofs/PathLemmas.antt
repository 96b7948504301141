-- Places within the calls of a bank.
use Rattle.std.proofs.Common.{◌≡◌, ℕ, zero, suc, ◌+◌, ◌-◌, ◌<◌, ◌≤◌, ◌⊎◌, Bool, true, false, Option, Some, None, List, [], ◌∷◌, length, get_or, refl, sym, ap, ◌∙◌, subst, inl, inr, arith}
use Rattle.std.specs.Prelude.{◌==◌, is_some, IsSome, slice_get, slice_set, if◌then◌else◌}
use Rattle.std.proofs.lemmas.Bool.Decides.{nat_tests}
use Rattle.nq_logic.specs.Terms.{Term, Variable, Function, Applied, applied, call}
use Rattle.nq_logic.specs.Numerals.{number_of, is_numeral}
use Rattle.nq_bank.specs.Parts.{arguments_before, parts_of}
use Rattle.std.proofs.lemmas.Option.{slice_get_cases}
use Rattle.nq_proof.specs.Clauses.{literal_at}
use Rattle.nq_proof.specs.Linear.{and_then}
use Rattle.nq_logic.specs.Sizes.{depth_of, depth_limit}
use Rattle.nq_bank.proofs.DeepLemmas.{deep_argument}
use Rattle.nq_rule.specs.Places.{part_at}
use Rattle.nq_rule.specs.Results.{second_or, with_argument, with_part}
use Rattle.nq_proof.specs.Paths.{argument_count, around, in_argument, replaced_at}

around-same : (o : Option (Term × Term)) → around (λ v. v) o ≡ o
around-same None = refl
around-same (Some change) = refl

around-around : (f g : Term → Term) (o : Option (Term × Term)) → around f (around g o) ≡ around (λ v. f (g v)) o
around-around f g None = refl
around-around f g (Some change) = refl

differs : (a b : ℕ) → (a ≡ b → ⊥) → (a == b) ≡ false
differs a b h = grind (arith, nat_tests)

same_number : (a b : ℕ) → a ≡ b → (a == b) ≡ true
same_number a b h = grind (arith, nat_tests)

module _ (change : Term → Option (Term × Term)) where
  step_past : (place : ℕ) (t u : Term) → (suc (argument_count t) ≡ place → ⊥) → in_argument place change (Applied t u) ≡ around (λ v. Applied v u) (in_argument place change t)
  step_past place t u h = ap (λ b. elim b as (λ b. Option (Term × Term)) [ true ↦ around (λ v. Applied t v) (change u) | false ↦ around (λ v. Applied v u) (in_argument place change t) ]) (differs (suc (argument_count t)) place h)

  step_here : (place : ℕ) (t u : Term) → suc (argument_count t) ≡ place → in_argument place change (Applied t u) ≡ around (λ v. Applied t v) (change u)
  step_here place t u h = ap (λ b. elim b as (λ b. Option (Term × Term)) [ true ↦ around (λ v. Applied t v) (change u) | false ↦ around (λ v. Applied v u) (in_argument place change t) ]) (same_number (suc (argument_count t)) place h)

  -- a place among the first arguments
  place_before : (place : ℕ) (t : Term) (us : List Term) → place ≤ argument_count t → in_argument place change (applied t us) ≡ around (λ v. applied v us) (in_argument place change t)
  place_before place t [] h = sym (around-same (in_argument place change t))
  place_before place t (u ∷ us) h =
      place_before place (Applied t u) us (omega arith) ∙
      ap (around (λ v. applied v us)) (step_past place t u (λ e. omega arith)) ∙
      around-around (λ v. applied v us) (λ v. Applied v u) (in_argument place change t)

  place_among : (i place : ℕ) (t : Term) (us : List Term) (d : Term) → i < length us → place ≡ argument_count t + suc i → in_argument place change (applied t us) ≡ around (λ v. applied t (slice_set us i v)) (change (get_or us i d))
  place_among i place t [] d below at = absurd (omega arith)
  place_among zero place t (u ∷ us) d below at =
      place_before place (Applied t u) us (omega arith) ∙
      ap (around (λ v. applied v us)) (step_here place t u (omega arith)) ∙
      around-around (λ v. applied v us) (λ v. Applied t v) (change u)
  place_among (suc i) place t (u ∷ us) d below at = place_among i place (Applied t u) us d (omega arith) (omega arith)

  place_past : (place : ℕ) (t : Term) (us : List Term) → (place ≡ 0) ⊎ (argument_count t + length us < place) → in_argument place change t ≡ None → in_argument place change (applied t us) ≡ None
  place_past place t [] h none = none
  place_past place t (u ∷ us) h none =
      place_past place (Applied t u) us
      (elim h as (λ o. (place ≡ 0) ⊎ (suc (argument_count t) + length us < place)) [ inl z ↦ inl z | inr m ↦ inr (omega arith) ])
      (step_past place t u (elim h as (λ o. suc (argument_count t) ≡ place → ⊥) [ inl z ↦ λ e. omega arith | inr m ↦ λ e. omega arith ]) ∙ ap (around (λ v. Applied v u)) none)

-- the change in an argument of a call, counted from 1
pub in_argument-call : (change : Term → Option (Term × Term)) (f : List ℕ) (ts : List Term) (i : ℕ) (d : Term) → i < length ts → in_argument (suc i) change (call f ts) ≡ around (λ v. call f (slice_set ts i v)) (change (get_or ts i d))
in_argument-call change f ts i d below = place_among change i (suc i) (Function f) ts d below (omega arith)

pub in_argument-none : (change : Term → Option (Term × Term)) (f : List ℕ) (ts : List Term) (place : ℕ) → (place ≡ 0) ⊎ (length ts < place) → in_argument place change (call f ts) ≡ None
in_argument-none change f ts place h = place_past change place (Function f) ts (elim h as (λ o. (place ≡ 0) ⊎ (0 + length ts < place)) [ inl z ↦ inl z | inr m ↦ inr (omega arith) ]) refl

abbrev pub head_of : Term → Term
head_of (Variable x) = Variable x
head_of (Function f) = Function f
head_of (Applied t u) = head_of t

applied-head : (t : Term) (others : List Term) → applied (head_of t) (arguments_before t others) ≡ applied t others
applied-head (Variable x) others = refl
applied-head (Function f) others = refl
applied-head (Applied t u) others = applied-head t (u ∷ others)

no_argument_before : (place : ℕ) (change : Term → Option (Term × Term)) (t : Term) → in_argument place change (head_of t) ≡ None
no_argument_before place change (Variable x) = refl
no_argument_before place change (Function f) = refl
no_argument_before place change (Applied t u) = no_argument_before place change t

none_before : (t : Term) → argument_count (head_of t) ≡ 0
none_before (Variable x) = refl
none_before (Function f) = refl
none_before (Applied t u) = none_before t

is_some-around : (f : Term → Term) (o : Option (Term × Term)) → is_some (around f o) ≡ is_some o
is_some-around f None = refl
is_some-around f (Some change) = refl

-- a numeral has no arguments
no_argument_of_number : (place : ℕ) (o : Option ℕ) (ts : List Term) (u : Term) → literal_at place (if is_some o then [] else ts) ≡ Some u → o ≡ None
no_argument_of_number place None ts u h = refl
no_argument_of_number zero (Some n) ts u h = absurd cc
no_argument_of_number (suc k) (Some n) ts u h = absurd cc

plain_place : (place : ℕ) (t u : Term) → literal_at place (parts_of t) ≡ Some u → (number_of t ≡ None) × (literal_at place (arguments_before t []) ≡ Some u)
plain_place place t u h =
    let none = no_argument_of_number place (number_of t) (arguments_before t []) u h in (none, sym (ap (λ o. literal_at place (if is_some o then [] else arguments_before t [])) none) ∙ h)

literal_is_get : (i : ℕ) (ts : List Term) (u : Term) → slice_get ts i ≡ Some u → (i < length ts) × (get_or ts i u ≡ u)
literal_is_get i [] u h = absurd cc
literal_is_get zero (t ∷ ts) u h = let same : t ≡ u = cc in (omega arith, same)
literal_is_get (suc i) (t ∷ ts) u h = let rest = literal_is_get i ts u h in (omega (arith, rest.0), rest.1)

-- the change in the argument that stands at a place
in_argument-at : (place : ℕ) (change : Term → Option (Term × Term)) (t u : Term) → literal_at place (arguments_before t []) ≡ Some u → in_argument place change t ≡ around (λ v. applied (head_of t) (slice_set (arguments_before t []) (place - 1) v)) (change u)
in_argument-at zero change t u h = absurd cc
in_argument-at (suc i) change t u h =
    let at = literal_is_get i (arguments_before t []) u h in
    let less : i ≡ suc i - 1 = omega arith in
    ap (in_argument (suc i) change) (sym (applied-head t [])) ∙
    place_among change i (suc i) (head_of t) (arguments_before t []) u at.0 (omega (arith, none_before t)) ∙
    ap (λ w. around (λ v. applied (head_of t) (slice_set (arguments_before t []) i v)) (change w)) at.1 ∙
    ap (λ j. around (λ v. applied (head_of t) (slice_set (arguments_before t []) j v)) (change u)) less

-- a term with another in an argument is the call with the other argument
pub with_part-step : (place : ℕ) (path : List ℕ) (t whole u : Term) → literal_at place (parts_of whole) ≡ Some u → IsSome (replaced_at path t u) → with_part (place ∷ path) t whole ≡ with_argument place (with_part path t u) whole
with_part-step place path t whole u at leads =
    let plain = plain_place place whole u at in
    let test : is_numeral whole ≡ false = ap is_some plain.0 in
    ap (λ b. second_or whole (elim b as (λ b. Option (Term × Term)) [ true ↦ None | false ↦ in_argument place (replaced_at path t) whole ])) test ∙
    ap (second_or whole) (in_argument-at place (replaced_at path t) whole u plain.1) ∙
    by_change (replaced_at path t u) leads ∙
    sym (ap (second_or whole) (in_argument-at place (λ w. Some (w, with_part path t u)) whole u plain.1))
  where
    by_change : (o : Option (Term × Term)) → IsSome o → second_or whole (around (λ v. applied (head_of whole) (slice_set (arguments_before whole []) (place - 1) v)) o) ≡ applied (head_of whole) (slice_set (arguments_before whole []) (place - 1) (second_or u o))
    by_change None h = absurd cc
    by_change (Some change) h = refl

-- the call with another argument, told by its function
pub with_argument-call : (place : ℕ) (f : List ℕ) (v whole u : Term) → whole ≡ call f (parts_of whole) → literal_at place (parts_of whole) ≡ Some u → with_argument place v whole ≡ call f (slice_set (parts_of whole) (place - 1) v)
with_argument-call zero f v whole u is at = absurd cc
with_argument-call (suc i) f v whole u is at =
    let found = literal_is_get i (parts_of whole) u at in
    let less : i ≡ suc i - 1 = omega arith in
    second_of whole (in_argument (suc i) (λ w. Some (w, v)) whole) (get_or (parts_of whole) i u) (call f (slice_set (parts_of whole) i v))
    (ap (in_argument (suc i) (λ w. Some (w, v))) is ∙ in_argument-call (λ w. Some (w, v)) f (parts_of whole) i u found.0) ∙
    ap (λ j. call f (slice_set (parts_of whole) j v)) less
  where
    second_of : (other : Term) (o : Option (Term × Term)) (w b : Term) → o ≡ Some (w, b) → second_or other o ≡ b
    second_of other o w b e = ap (second_or other) e

set_there : (ts : List Term) (i : ℕ) (v d : Term) → i < length ts → (i < length (slice_set ts i v)) × (get_or (slice_set ts i v) i d ≡ v)
set_there [] i v d below = absurd (omega arith)
set_there (t ∷ ts) zero v d below = (omega arith, refl)
set_there (t ∷ ts) (suc i) v d below = let rest = set_there ts i v d (omega arith) in (omega (arith, rest.0), rest.1)

-- a call with an argument that is too deep is too deep
pub deep_with_argument : (place : ℕ) (f : List ℕ) (whole u v : Term) → whole ≡ call f (parts_of whole) → literal_at place (parts_of whole) ≡ Some u → depth_limit < depth_of v → depth_limit < depth_of (with_argument place v whole)
deep_with_argument zero f whole u v is at deep = absurd cc
deep_with_argument (suc i) f whole u v is at deep =
    let found = literal_is_get i (parts_of whole) u at in
    let less : suc i - 1 ≡ i = omega arith in
    let there = set_there (parts_of whole) i v u found.0 in
    subst (λ t. depth_limit < depth_of t) (sym (with_argument-call (suc i) f v whole u is at ∙ ap (λ j. call f (slice_set (parts_of whole) j v)) less))
    (deep_argument f (slice_set (parts_of whole) i v) i u there.0 (subst (λ t. depth_limit < depth_of t) (sym there.1) deep))

-- whether a change in an argument is one
argument_is_some : (place : ℕ) (change : Term → Option (Term × Term)) (next : Term → Option Term) (h : Term) (us : List Term) → argument_count h ≡ 0 → in_argument place change h ≡ None → ((u : Term) → is_some (next u) ≡ is_some (change u)) → is_some (and_then (literal_at place us) next) ≡ is_some (in_argument place change (applied h us))
argument_is_some zero change next h us count none same = ap is_some (sym (place_past change zero h us (inl refl) none))
argument_is_some (suc i) change next h us count none same = by_element (slice_get_cases us i).1
  where
    by_element : ((x : Term) × (i < length us) × (slice_get us i ≡ Some x) × (get_or us i x ≡ x)) ⊎ ((length us ≤ i) × (slice_get us i ≡ None)) → is_some (and_then (slice_get us i) next) ≡ is_some (in_argument (suc i) change (applied h us))
    by_element (inl found) =
        ap (λ o. is_some (and_then o next)) found.2 ∙ same found.0 ∙ ap (λ u. is_some (change u)) (sym found.3) ∙
        sym (is_some-around (λ v. applied h (slice_set us i v)) (change (get_or us i found.0))) ∙
        sym (ap is_some (place_among change i (suc i) h us found.0 found.1 (omega (arith, count))))
    by_element (inr past) =
        ap (λ o. is_some (and_then o next)) past.1 ∙ sym (ap is_some (place_past change (suc i) h us (inr (omega (arith, count, past.0))) none))

-- a path leads to a part exactly where something can be replaced there
pub part_at-replaced_at : (path : List ℕ) (by t : Term) → is_some (part_at path t) ≡ is_some (replaced_at path by t)
part_at-replaced_at [] by t = refl
part_at-replaced_at (place ∷ path) by t =
    by_number (number_of t) (is_numeral t) refl
    (argument_is_some place (replaced_at path by) (part_at path) (head_of t) (arguments_before t []) (none_before t) (no_argument_before place (replaced_at path by) t) (λ u. part_at-replaced_at path by u) ∙
    ap (λ u. is_some (in_argument place (replaced_at path by) u)) (applied-head t []))
  where
    no_part : (place : ℕ) (next : Term → Option Term) → is_some (and_then (literal_at place []) next) ≡ false
    no_part zero next = refl
    no_part (suc k) next = refl

    by_number : (o : Option ℕ) (b : Bool) → b ≡ is_some o → is_some (and_then (literal_at place (arguments_before t [])) (part_at path)) ≡ is_some (in_argument place (replaced_at path by) t) →
        is_some (and_then (literal_at place (if is_some o then [] else arguments_before t [])) (part_at path)) ≡ is_some (elim b as (λ b. Option (Term × Term)) [ true ↦ None | false ↦ in_argument place (replaced_at path by) t ])
    by_number None true e rest = absurd cc
    by_number None false e rest = rest
    by_number (Some n) true e rest = no_part place (part_at path)
    by_number (Some n) false e rest = absurd cc

-- the part at a path, where something can be replaced there
pub part_at_first : (path : List ℕ) (by t u : Term) → part_at path t ≡ Some u → IsSome (replaced_at path by t)
part_at_first path by t u e = sym (part_at-replaced_at path by t) ∙ ap is_some e

pub part_after : (place : ℕ) (path : List ℕ) (whole u : Term) (o : Option Term) → o ≡ literal_at place (parts_of whole) → o ≡ Some u → IsSome (part_at (place ∷ path) whole) → (literal_at place (parts_of whole) ≡ Some u) × IsSome (part_at path u)
part_after place path whole u o is found leads =
    let at = sym is ∙ found in (at, sym (ap (λ o. is_some (and_then o (λ v. part_at path v))) at) ∙ leads)

-- what stands at a path is what a replacement there tells
pub replaced_at-part : (path : List ℕ) (by t u : Term) → part_at path t ≡ Some u → (b : Term) × (replaced_at path by t ≡ Some (u, b))
replaced_at-part [] by t u e = let same : t ≡ u = cc in (by, ap (λ w. Some (w, by)) same)
replaced_at-part (place ∷ path) by t u e = by_literal (literal_at place (parts_of t)) refl e (λ w e. replaced_at-part path by w u e)
  where
    by_literal : (o : Option Term) → literal_at place (parts_of t) ≡ o → and_then o (λ w. part_at path w) ≡ Some u → ((w : Term) → part_at path w ≡ Some u → (b : Term) × (replaced_at path by w ≡ Some (u, b))) → (b : Term) × (replaced_at (place ∷ path) by t ≡ Some (u, b))
    by_literal None at e again = absurd cc
    by_literal (Some w) at e again =
        let inner = again w e in
        let plain = plain_place place t w at in
        let test : is_numeral t ≡ false = ap is_some plain.0 in (
          applied (head_of t) (slice_set (arguments_before t []) (place - 1) inner.0),
          ap (λ b. elim b as (λ b. Option (Term × Term)) [ true ↦ None | false ↦ in_argument place (replaced_at path by) t ]) test ∙
              in_argument-at place (replaced_at path by) t w plain.1 ∙
              ap (around (λ v. applied (head_of t) (slice_set (arguments_before t []) (place - 1) v))) inner.1,
        )
