-- Lists of the parts of a shell, and terms joined to the right.
use Rattle.std.proofs.Common.{◌≡◌, ◌<◌, ◌+◌, ℕ, zero, suc, List, [], ◌∷◌, length, refl, sym, ap, arith, Bool, true, false}
use Rattle.std.specs.Prelude.{codes, nat_eq, if◌then◌else◌, slice_set}
use Rattle.std.proofs.lemmas.Bool.{eq-eqb, eqb-true}
use Rattle.nq_logic.specs.Words.{call2, false_term, or_term, zero_term}
use Rattle.nq_logic.specs.Histories.{Part}
use Rattle.nq_logic.specs.Shells.{part_variable, part_variables, accessed, recognized, part_sizes, either_of, sum_of}
use Rattle.nq_logic.specs.Terms.{Name, Term}
use Rattle.nq_steps.specs.Steps.{nest}
use Rattle.nq_shell.specs.Drafts.{argument_at, variables_with}

pub length-part_variables : (k : ℕ) (parts : List Part) → length (part_variables k parts) ≡ length parts
length-part_variables k [] = refl
length-part_variables k (part ∷ parts) = ap suc (length-part_variables (suc k) parts)

pub length-variables_with : (k place : ℕ) (t : Term) (parts : List Part) → length (variables_with k place t parts) ≡ length parts
length-variables_with k place t [] = refl
length-variables_with k place t (part ∷ parts) = ap suc (length-variables_with (suc k) place t parts)

pub length-accessed : (t : Term) (parts : List Part) → length (accessed t parts) ≡ length parts
length-accessed t [] = refl
length-accessed t (part ∷ parts) = ap suc (length-accessed t parts)

pub length-recognized : (rs : List Name) (t : Term) → length (recognized rs t) ≡ length rs
length-recognized [] t = refl
length-recognized (r ∷ rs) t = ap suc (length-recognized rs t)

pub length-part_sizes : (k : ℕ) (parts : List Part) → length (part_sizes k parts) ≡ length parts
length-part_sizes k [] = refl
length-part_sizes k (part ∷ parts) = ap suc (length-part_sizes (suc k) parts)

pub either-nest : (ts : List Term) → nest (codes "OR") false_term ts ≡ either_of ts
either-nest [] = refl
either-nest (t ∷ []) = refl
either-nest (t ∷ u ∷ rest) = ap (or_term t) (either-nest (u ∷ rest))

pub sum-nest : (ts : List Term) → nest (codes "PLUS") zero_term ts ≡ sum_of ts
sum-nest [] = refl
sum-nest (t ∷ []) = refl
sum-nest (t ∷ u ∷ rest) = ap (call2 "PLUS" t) (sum-nest (u ∷ rest))

if_is : {X : Type 0} (b : Bool) (t u : X) → b ≡ true → (if b then t else u) ≡ t
if_is true t u h = refl
if_is false t u h = cc

if_not : {X : Type 0} (b : Bool) (t u : X) → b ≡ false → (if b then t else u) ≡ u
if_not true t u h = cc
if_not false t u h = refl

not_true : (b : Bool) → (b ≡ true → ⊥) → b ≡ false
not_true true h = absurd (h refl)
not_true false h = refl

here_is : (k place : ℕ) (t : Term) → place ≡ k → argument_at k place t ≡ t
here_is k place t same = if_is (nat_eq k place) t (part_variable k) (eq-eqb k place (sym same))

other_is : (k place : ℕ) (t : Term) → (k ≡ place → ⊥) → argument_at k place t ≡ part_variable k
other_is k place t differ = if_not (nat_eq k place) t (part_variable k) (not_true (nat_eq k place) (λ h. differ (eqb-true k place h)))

none_replaced : (k place : ℕ) (t : Term) (parts : List Part) → place < k → variables_with k place t parts ≡ part_variables k parts
none_replaced k place t [] less = refl
none_replaced k place t (part ∷ parts) less =
    let here = other_is k place t (λ same. omega (arith, same, less)) in
    let rest = none_replaced (suc k) place t parts (omega (arith, less)) in
    rw (here, rest) refl

pub one_replaced : (k j place : ℕ) (t : Term) (parts : List Part) → place ≡ k + j → variables_with k place t parts ≡ slice_set (part_variables k parts) j t
one_replaced k j place t [] is = refl
one_replaced k zero place t (part ∷ parts) is =
    let here = here_is k place t (omega (arith, is)) in
    let rest = none_replaced (suc k) place t parts (omega (arith, is)) in
    rw (here, rest) refl
one_replaced k (suc j) place t (part ∷ parts) is =
    let here = other_is k place t (λ same. omega (arith, same, is)) in
    let rest = one_replaced (suc k) j place t parts (omega (arith, is)) in
    rw (here, rest) refl
