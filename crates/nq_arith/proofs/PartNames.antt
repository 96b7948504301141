-- The variables of a shell's parts, and the parts of X in their places.
use Rattle.std.proofs.Common.{◌≡◌, ℕ, zero, suc, ◌+◌, ◌*◌, ◌-◌, ◌/◌, ◌%◌, ◌<◌, ◌≤◌, nat_lt, Bool, true, false, if◌then◌else◌, List, [], ◌∷◌, ◌++◌, map, refl, sym, ap, ap₂, subst, arith}
use Rattle.std.specs.Prelude.{codes, Some, slice_get, bytes_eq}
use Rattle.std.proofs.lemmas.Bool.Decides.{nat_tests}
use Rattle.std.proofs.lemmas.Slice.Eq.{bytes_eq-Decides}
use Rattle.nq_logic.specs.Terms.{Term, Function, Applied, Substitution, applied, value_at, substituted}
use Rattle.nq_logic.specs.Words.{call1, call2, if_term, or_term, not_term, zero_term}
use Rattle.nq_logic.specs.Histories.{Part, Restriction, OneOf, NoneOf}
use Rattle.nq_logic.specs.Shells.{either_of, recognized, restricted, digits_of, part_variable, part_variables, accessed, whole, part_sizes, sum_of}
use Rattle.nq_proof.proofs.Tests.{names_same, some_same, none_is_not_some}

-- digits read back
read_back : ℕ → List ℕ → ℕ
read_back n [] = n
read_back n (d ∷ ds) = read_back (n * 10 + (d - 48)) ds

read_last : (n d : ℕ) (ds : List ℕ) → read_back n (ds ++ (d ∷ [])) ≡ read_back n ds * 10 + (d - 48)
unfolding read_back
read_last n d [] = refl
read_last n d (c ∷ ds) = read_last (n * 10 + (c - 48)) d ds

digits_read : (places n : ℕ) → n ≤ places → read_back 0 (digits_of places n) ≡ n
unfolding read_back
digits_read zero n l = omega arith
digits_read (suc places) n l = by_size (λ m. digits_read places (n / 10) m) (nat_lt n 10) refl
  where
    by_size : (n / 10 ≤ places → read_back 0 (digits_of places (n / 10)) ≡ n / 10) → (b : Bool) → nat_lt n 10 ≡ b → read_back 0 (if b then (48 + n) ∷ [] else digits_of places (n / 10) ++ ((48 + n % 10) ∷ [])) ≡ n
    by_size again true e = omega arith
    by_size again false e =
        let more : 10 ≤ n = grind (arith, nat_tests) in
        let fewer : n / 10 ≤ places = omega arith in
        let rest = again fewer in
        let last = read_last 0 (48 + n % 10) (digits_of places (n / 10)) in
        subst (λ m. m ≡ n) (sym last) (subst (λ m. m * 10 + (48 + n % 10 - 48) ≡ n) (sym rest) (omega arith))

abbrev pub part_name : ℕ → List ℕ
part_name k = codes "X" ++ digits_of (k + 1) (k + 1)

tail_same : (x : ℕ) (xs ys : List ℕ) → ◌≡◌ {A = List ℕ} (x ∷ xs) (x ∷ ys) → xs ≡ ys
tail_same x xs ys e = cc

names_differ : (j k : ℕ) → k < j → bytes_eq (part_name j) (part_name k) ≡ false
names_differ j k l = by_test (bytes_eq (part_name j) (part_name k)) refl
  where
    by_test : (b : Bool) → bytes_eq (part_name j) (part_name k) ≡ b → b ≡ false
    by_test false e = refl
    by_test true e =
        let same = tail_same 88 (digits_of (j + 1) (j + 1)) (digits_of (k + 1) (k + 1)) (names_same (part_name j) (part_name k) e) in
        let lj : j + 1 ≤ j + 1 = omega arith in
        let lk : k + 1 ≤ k + 1 = omega arith in
        let rj = digits_read (j + 1) (j + 1) lj in
        let rk = digits_read (k + 1) (k + 1) lk in
        let numbers : j + 1 ≡ k + 1 = subst (λ n. n ≡ k + 1) rj (subst (λ ds. read_back 0 ds ≡ k + 1) (sym same) rk) in
        absurd (omega (arith, numbers))

abbrev part_at : Part → Term
part_at p = Applied (Function p.accessor) whole

-- each part's variable with that part of X
abbrev pub part_pairs : ℕ → List Part → Substitution
part_pairs k [] = []
part_pairs k (p ∷ parts) = (part_name k, Applied (Function p.accessor) whole) ∷ part_pairs (suc k) parts

-- the substitution gives each part, of which the first stands at place k
Gives : Substitution → ℕ → List Part → Type 0
Gives s k [] = Unit {0}
Gives s k (p ∷ parts) = (value_at s (part_name k) ≡ part_at p) × Gives s (suc k) parts

name_itself : (xs : List ℕ) → bytes_eq xs xs ≡ true
name_itself xs = (bytes_eq-Decides xs xs).1 refl

gives_more : (s : Substitution) (k : ℕ) (t : Term) (j : ℕ) (parts : List Part) → k < j → Gives s j parts → Gives ((part_name k, t) ∷ s) j parts
unfolding Gives
gives_more s k t j [] l g = tt
gives_more s k t j (p ∷ parts) l g =
    let more : k < suc j = omega arith in
    (subst (λ b. (if b then t else value_at s (part_name j)) ≡ part_at p) (sym (names_differ j k l)) g.0, gives_more s k t (suc j) parts more g.1)

gives_all : (k : ℕ) (parts : List Part) → Gives (part_pairs k parts) k parts
unfolding Gives
gives_all k [] = tt
gives_all k (p ∷ parts) =
    let more : k < suc k = omega arith in
    (subst (λ b. (if b then part_at p else value_at (part_pairs (suc k) parts) (part_name k)) ≡ part_at p) (sym (name_itself (part_name k))) refl, gives_more (part_pairs (suc k) parts) k (part_at p) (suc k) parts more (gives_all (suc k) parts))

given_part : (s : Substitution) (k : ℕ) (parts : List Part) → Gives s k parts → (i : ℕ) (part : Part) → slice_get parts i ≡ Some part → value_at s (part_name (k + i)) ≡ part_at part
unfolding Gives
given_part s k [] g i part e = absurd (none_is_not_some part e)
given_part s k (p ∷ parts) g zero part e =
    let n : k ≡ k + zero = omega arith in
    subst (λ m. value_at s (part_name m) ≡ part_at part) n (subst (λ q. value_at s (part_name k) ≡ part_at q) (some_same p part e) g.0)
given_part s k (p ∷ parts) g (suc i) part e =
    let n : suc k + i ≡ k + suc i = omega arith in
    subst (λ m. value_at s (part_name m) ≡ part_at part) n (given_part s (suc k) parts g.1 i part e)

pub part_of_whole : (parts : List Part) (i : ℕ) (part : Part) → slice_get parts i ≡ Some part → substituted (part_pairs 0 parts) (part_variable i) ≡ Applied (Function part.accessor) whole
part_of_whole parts i part e =
    let n : 0 + i ≡ i = omega arith in
    subst (λ m. value_at (part_pairs 0 parts) (part_name m) ≡ part_at part) n (given_part (part_pairs 0 parts) 0 parts (gives_all 0 parts) i part e)

-- substitution within calls, sums and restrictions
pub applied_at : (s : Substitution) (t : Term) (us : List Term) → substituted s (applied t us) ≡ applied (substituted s t) (map (substituted s) us)
applied_at s t [] = refl
applied_at s t (u ∷ us) = applied_at s (Applied t u) us

pub sum_at : (s : Substitution) (ts : List Term) → substituted s (sum_of ts) ≡ sum_of (map (substituted s) ts)
sum_at s [] = refl
sum_at s (t ∷ []) = refl
sum_at s (t ∷ u ∷ rest) = ap (λ x. call2 "PLUS" (substituted s t) x) (sum_at s (u ∷ rest))

either_at : (s : Substitution) (ts : List Term) → substituted s (either_of ts) ≡ either_of (map (substituted s) ts)
either_at s [] = refl
either_at s (t ∷ []) = refl
either_at s (t ∷ u ∷ rest) = ap (λ x. or_term (substituted s t) x) (either_at s (u ∷ rest))

recognized_at : (s : Substitution) (rs : List (List ℕ)) (t : Term) → map (substituted s) (recognized rs t) ≡ recognized rs (substituted s t)
recognized_at s [] t = refl
recognized_at s (r ∷ rs) t = ap (λ x. Applied (Function r) (substituted s t) ∷ x) (recognized_at s rs t)

either_recognized_at : (s : Substitution) (rs : List (List ℕ)) (t : Term) → substituted s (either_of (recognized rs t)) ≡ either_of (recognized rs (substituted s t))
either_recognized_at s rs t = subst (λ x. substituted s (either_of (recognized rs t)) ≡ either_of x) (recognized_at s rs t) (either_at s (recognized rs t))

pub restricted_at : (s : Substitution) (restriction : Restriction) (t : Term) → substituted s (restricted restriction t) ≡ restricted restriction (substituted s t)
restricted_at s (OneOf rs) t = either_recognized_at s rs t
restricted_at s (NoneOf []) t = refl
restricted_at s (NoneOf (r ∷ rs)) t = ap (λ x. not_term x) (either_recognized_at s (r ∷ rs) t)

-- what each part of X adds to its size
abbrev pub size_of_part : Part → Term
size_of_part p = if_term (restricted p.restriction (Applied (Function p.accessor) whole)) (call1 "COUNT" (Applied (Function p.accessor) whole)) zero_term

abbrev pub sizes_of_parts : List Part → List Term
sizes_of_parts [] = []
sizes_of_parts (p ∷ parts) = size_of_part p ∷ sizes_of_parts parts

variables_given : (s : Substitution) (k : ℕ) (parts : List Part) → Gives s k parts → map (substituted s) (part_variables k parts) ≡ accessed whole parts
unfolding Gives
variables_given s k [] g = refl
variables_given s k (p ∷ parts) g = ap₂ ◌∷◌ g.0 (variables_given s (suc k) parts g.1)

sizes_given : (s : Substitution) (k : ℕ) (parts : List Part) → Gives s k parts → map (substituted s) (part_sizes k parts) ≡ sizes_of_parts parts
unfolding Gives
sizes_given s k [] g = refl
sizes_given s k (p ∷ parts) g =
    let inner = subst (λ t. substituted s (restricted p.restriction (part_variable k)) ≡ restricted p.restriction t) g.0 (restricted_at s p.restriction (part_variable k)) in
    ap₂ ◌∷◌ (ap₂ (λ m t. if_term m (call1 "COUNT" t) zero_term) inner g.0) (sizes_given s (suc k) parts g.1)

pub variables_at : (parts : List Part) → map (substituted (part_pairs 0 parts)) (part_variables 0 parts) ≡ accessed whole parts
variables_at parts = variables_given (part_pairs 0 parts) 0 parts (gives_all 0 parts)

pub sizes_at : (parts : List Part) → map (substituted (part_pairs 0 parts)) (part_sizes 0 parts) ≡ sizes_of_parts parts
sizes_at parts = sizes_given (part_pairs 0 parts) 0 parts (gives_all 0 parts)

pub size_found : (parts : List Part) (i : ℕ) (part : Part) → slice_get parts i ≡ Some part → slice_get (sizes_of_parts parts) i ≡ Some (size_of_part part)
size_found [] i part e = absurd (none_is_not_some part e)
size_found (p ∷ parts) zero part e = ap (λ q. Some (size_of_part q)) (some_same p part e)
size_found (p ∷ parts) (suc i) part e = size_found parts i part e
