-- How many paths a term has, and how many the goals have at which splits end.
use Rattle.std.proofs.Common.{◌≡◌, ℕ, zero, suc, ◌+◌, ◌*◌, ◌≤◌, ◌==◌, ◌&&◌, ◌||◌, Bool, true, false, List, [], ◌∷◌, ◌++◌, length, map, refl, ap, ◌∙◌, ◌⊎◌, inl, inr, ltb, arith}
use Rattle.std.specs.Prelude.{Some, bytes_eq, codes, if◌then◌else◌, min}
use Rattle.std.proofs.Math.Nat.{mul-add, add-mul, mul-one, one-mul, one-le-mul, mul-le-mul_right, mul-le-mul_left, mul_comm, le-mul_of_pos_right}
use Rattle.std.proofs.lemmas.Bool.{eqb-true}
use Rattle.std.proofs.lemmas.Bool.Decides.{nat_tests}
use Rattle.nq_logic.specs.Terms.{Name, Term, Variable, Function, Applied, applied, call}
use Rattle.nq_logic.specs.Words.{not_term}
use Rattle.nq_proof.specs.Clauses.{Clause, literal_at, spliced}
use Rattle.nq_proof.proofs.Tests.{none_is_not_some, some_same}
use Rattle.nq_cases.specs.Paths.{product, branch_paths, call_paths, paths_before, paths_of, clause_paths, has_if_before, has_if, IsIfFree}
use Rattle.nq_cases.specs.Splits.{IsSplit, Stays, Splits}
use Rattle.nq_cases.specs.CountLaws.{SplitsCount}

-- a sum in one place of a product
pub product_linear : (before : List ℕ) (a b : ℕ) (after : List ℕ) → product (before ++ ((a + b) ∷ after)) ≡ product (before ++ (a ∷ after)) + product (before ++ (b ∷ after))
product_linear [] a b after = add-mul a b (product after)
product_linear (n ∷ before) a b after = ap (λ m. n * m) (product_linear before a b after) ∙ mul-add n (product (before ++ (a ∷ after))) (product (before ++ (b ∷ after)))

-- and in the test of an IF
pub test_linear : (a b x y : ℕ) → branch_paths ((a + b) ∷ x ∷ y ∷ []) ≡ branch_paths (a ∷ x ∷ y ∷ []) + branch_paths (b ∷ x ∷ y ∷ [])
test_linear a b x y = add-mul a b (x + y)

-- so many ones
abbrev ones : ℕ → List ℕ
ones zero = []
ones (suc n) = 1 ∷ ones n

product_ones : (n : ℕ) → product (ones n) ≡ 1
product_ones zero = refl
product_ones (suc n) = one-mul (product (ones n)) ∙ product_ones n

pub either_false : (a b : Bool) → (a || b) ≡ false → (a ≡ false) × (b ≡ false)
either_false true b e = absurd cc
either_false false b e = (refl, e)

branch_ones : (n : ℕ) → (n == 3) ≡ false → branch_paths (ones n) ≡ 1
branch_ones zero e = refl
branch_ones (suc zero) e = product_ones 1
branch_ones (suc (suc zero)) e = product_ones 2
branch_ones (suc (suc (suc zero))) e = absurd cc
branch_ones (suc (suc (suc (suc n)))) e = product_ones (suc (suc (suc (suc n))))

call_ones : (b : Bool) (n : ℕ) → (b && (n == 3)) ≡ false → (if b then branch_paths (ones n) else product (ones n)) ≡ 1
call_ones true n e = branch_ones n e
call_ones false n e = product_ones n

-- a term without IF has one path
one_path_before : (t : Term) (n : ℕ) → has_if_before t n ≡ false → paths_before t (ones n) ≡ 1
unfolding has_if_before paths_before
one_path_before (Variable x) n e = product_ones n
one_path_before (Function f) n e = call_ones (bytes_eq f (codes "IF")) n e
one_path_before (Applied t u) n e =
    let both = either_false (has_if_before t (suc n)) (has_if_before u 0) e in
    ap (λ m. paths_before t (m ∷ ones n)) (one_path_before u 0 both.1) ∙ one_path_before t (suc n) both.0

pub one_path : (t : Term) → IsIfFree t → paths_of t ≡ 1
one_path t h = one_path_before t 0 h.none

-- the paths of a call are those of its arguments together
pub call_paths_are : (f : Name) (ts : List Term) → paths_of (call f ts) ≡ call_paths f (map paths_of ts)
unfolding paths_before
call_paths_are f ts = after ts (Function f) [] ∙ ap (call_paths f) (append_none (map paths_of ts))
  where
    append_none : (ns : List ℕ) → ns ++ [] ≡ ns
    append_none [] = refl
    append_none (n ∷ ns) = ap (λ ms. n ∷ ms) (append_none ns)

    after : (ts : List Term) (t : Term) (counts : List ℕ) → paths_before (applied t ts) counts ≡ paths_before t (map paths_of ts ++ counts)
    after [] t counts = refl
    after (u ∷ ts) t counts = after ts (Applied t u) counts

pub denied_paths : (p : Term) → paths_of (not_term p) ≡ paths_of p
denied_paths p = call_paths_are (codes "NOT") (p ∷ []) ∙ mul-one (paths_of p)

-- in the place of literal k two choices of it, each beside a literal of one path
spliced_paths : (k : ℕ) (goal : Clause) (t p q l r : Term) → literal_at (suc k) goal ≡ Some t → paths_of p ≡ 1 → paths_of q ≡ 1 → paths_of l + paths_of r ≤ paths_of t →
    clause_paths (spliced k (p ∷ l ∷ []) goal) + clause_paths (spliced k (q ∷ r ∷ []) goal) ≤ clause_paths goal
spliced_paths k [] t p q l r at e f h = absurd (none_is_not_some t at)
spliced_paths zero (u ∷ goal) t p q l r at e f h =
    let same : u ≡ t = some_same u t at in
    let c : ℕ = clause_paths goal in
    let one : paths_of p * (paths_of l * c) ≡ paths_of l * c = ap (λ m. m * (paths_of l * c)) e ∙ one-mul (paths_of l * c) in
    let two : paths_of q * (paths_of r * c) ≡ paths_of r * c = ap (λ m. m * (paths_of r * c)) f ∙ one-mul (paths_of r * c) in
    let sum : (paths_of l + paths_of r) * c ≡ paths_of l * c + paths_of r * c = add-mul (paths_of l) (paths_of r) c in
    let more : (paths_of l + paths_of r) * c ≤ paths_of t * c = mul-le-mul_right c h in
    let whole : paths_of u * c ≡ paths_of t * c = ap (λ v. paths_of v * c) same in
    omega (arith, one, two, sum, more, whole)
spliced_paths (suc k) (u ∷ goal) t p q l r at e f h =
    let inner = spliced_paths k goal t p q l r at e f h in
    let a : ℕ = clause_paths (spliced k (p ∷ l ∷ []) goal) in
    let b : ℕ = clause_paths (spliced k (q ∷ r ∷ []) goal) in
    let sum : paths_of u * (a + b) ≡ paths_of u * a + paths_of u * b = mul-add (paths_of u) a b in
    let more : paths_of u * (a + b) ≤ paths_of u * clause_paths goal = mul-le-mul_left (paths_of u) inner in
    omega (arith, sum, more)

split_paths : (k : ℕ) (goal first second : Clause) → IsSplit k goal first second → clause_paths first + clause_paths second ≤ clause_paths goal
split_paths zero goal first second s = absurd (none_is_not_some s.literal s.at)
split_paths (suc k) goal first second s =
    let test = one_path s.parts.test s.choice.free in
    let inner = spliced_paths k goal s.literal (not_term s.parts.test) s.parts.test s.with_first s.with_second s.at (denied_paths s.parts.test ∙ test) test s.choice.no_more in
    let one : clause_paths first ≡ clause_paths (spliced k (not_term s.parts.test ∷ s.with_first ∷ []) goal) = ap clause_paths s.first_is in
    let two : clause_paths second ≡ clause_paths (spliced k (s.parts.test ∷ s.with_second ∷ []) goal) = ap clause_paths s.second_is in
    omega (arith, inner, one, two)

append_length : (cs ds : List Clause) → length (cs ++ ds) ≡ length cs + length ds
append_length [] ds = omega arith
append_length (c ∷ cs) ds = let e = append_length cs ds in omega (arith, e)

pub splits_count_law : ((goal : Clause) → 1 ≤ clause_paths goal) → SplitsCount
splits_count_law positive goal nexts (Stays g) = positive g
splits_count_law positive goal nexts (Splits k g first second cs ds s one two) =
    let a = splits_count_law positive first cs one in
    let b = splits_count_law positive second ds two in
    let c = split_paths k g first second s in
    let e = append_length cs ds in
    omega (arith, a, b, c, e)

-- each term has a path
data ArePositive : List ℕ → Type 0 where
  None_left : ArePositive []
  One_more : (n : ℕ) (ns : List ℕ) → 1 ≤ n → ArePositive ns → ArePositive (n ∷ ns)

product_positive : (ns : List ℕ) → ArePositive ns → 1 ≤ product ns
product_positive [] h = omega arith
product_positive (n ∷ ns) (One_more m ms a b) = one-le-mul a (product_positive ms b)

branch_positive : (ns : List ℕ) → ArePositive ns → 1 ≤ branch_paths ns
branch_positive [] h = product_positive [] h
branch_positive (p ∷ []) h = product_positive (p ∷ []) h
branch_positive (p ∷ x ∷ []) h = product_positive (p ∷ x ∷ []) h
branch_positive (p ∷ x ∷ y ∷ []) (One_more p' ns a (One_more x' ms b c)) = one-le-mul a (omega (arith, b))
branch_positive (p ∷ x ∷ y ∷ z ∷ ns) h = product_positive (p ∷ x ∷ y ∷ z ∷ ns) h

call_positive : (b : Bool) (ns : List ℕ) → ArePositive ns → 1 ≤ (if b then branch_paths ns else product ns)
call_positive true ns h = branch_positive ns h
call_positive false ns h = product_positive ns h

positive_before : (t : Term) (counts : List ℕ) → ArePositive counts → 1 ≤ paths_before t counts
unfolding paths_before
positive_before (Variable x) counts h = product_positive counts h
positive_before (Function f) counts h = call_positive (bytes_eq f (codes "IF")) counts h
positive_before (Applied t u) counts h = positive_before t (paths_before u [] ∷ counts) (One_more (paths_before u []) counts (positive_before u [] None_left) h)

pub clause_positive : (goal : Clause) → 1 ≤ clause_paths goal
clause_positive [] = omega arith
clause_positive (t ∷ goal) = one-le-mul (positive_before t [] None_left) (clause_positive goal)

-- one of the counts is at least two
HasTwo : List ℕ → Type 0
HasTwo [] = ⊥
HasTwo (n ∷ ns) = (2 ≤ n) ⊎ HasTwo ns

product_two : (ns : List ℕ) → ArePositive ns → HasTwo ns → 2 ≤ product ns
unfolding HasTwo
product_two [] h two = absurd two
product_two (n ∷ ns) (One_more m ms a b) (inl two) = let more : n ≤ n * product ns = le-mul_of_pos_right n (product_positive ns b) in omega (arith, more, two)
product_two (n ∷ ns) (One_more m ms a b) (inr two) =
    let rest = product_two ns b two in
    let more : product ns ≤ product ns * n = le-mul_of_pos_right (product ns) a in
    let turned : product ns * n ≡ n * product ns = mul_comm (product ns) n in
    omega (arith, rest, more, turned)

-- an IF has at least two paths
three_two : (p x y : ℕ) → 1 ≤ p → 1 ≤ x → 1 ≤ y → 2 ≤ p * (x + y)
three_two p x y a b c =
    let more : x + y ≤ (x + y) * p = le-mul_of_pos_right (x + y) a in
    let turned : (x + y) * p ≡ p * (x + y) = mul_comm (x + y) p in
    omega (arith, b, c, more, turned)

branch_two : (ns : List ℕ) → ArePositive ns → HasTwo ns ⊎ (length ns ≡ 3) → 2 ≤ branch_paths ns
branch_two ns h two = by_count ns h two
  where
    of_two : (ns : List ℕ) → ArePositive ns → (length ns ≡ 3 → ⊥) → HasTwo ns ⊎ (length ns ≡ 3) → 2 ≤ product ns
    of_two ns h n (inl two) = product_two ns h two
    of_two ns h n (inr e) = absurd (n e)

    by_count : (ns : List ℕ) → ArePositive ns → HasTwo ns ⊎ (length ns ≡ 3) → 2 ≤ branch_paths ns
    by_count [] h two = of_two [] h (λ e. omega (arith, e)) two
    by_count (p ∷ []) h two = of_two (p ∷ []) h (λ e. omega (arith, e)) two
    by_count (p ∷ x ∷ []) h two = of_two (p ∷ x ∷ []) h (λ e. omega (arith, e)) two
    by_count (p ∷ x ∷ y ∷ []) (One_more p' ns a (One_more x' ms b (One_more y' ls c d))) two = three_two p x y a b c
    by_count (p ∷ x ∷ y ∷ z ∷ ns) h two = of_two (p ∷ x ∷ y ∷ z ∷ ns) h (λ e. omega (arith, e)) two

call_two : (b : Bool) (ns : List ℕ) → ArePositive ns → HasTwo ns ⊎ ((b && (length ns == 3)) ≡ true) → 2 ≤ (if b then branch_paths ns else product ns)
call_two true ns h (inl two) = branch_two ns h (inl two)
call_two true ns h (inr three) = branch_two ns h (inr (eqb-true (length ns) 3 three))
call_two false ns h (inl two) = product_two ns h two
call_two false ns h (inr three) = absurd cc

either_true : (a b : Bool) → (a || b) ≡ true → (a ≡ true) ⊎ (b ≡ true)
either_true true b e = inl refl
either_true false b e = inr e

-- an IF in a call stands in its function or in the last argument
further_two : (t u : Term) (counts : List ℕ) → (has_if_before u 0 ≡ true → 2 ≤ paths_before u []) → HasTwo counts ⊎ (has_if_before (Applied t u) (length counts) ≡ true) → HasTwo (paths_before u [] ∷ counts) ⊎ (has_if_before t (suc (length counts)) ≡ true)
unfolding HasTwo has_if_before
further_two t u counts again (inl two) = inl (inr two)
further_two t u counts again (inr e) =
    elim (either_true (has_if_before t (suc (length counts))) (has_if_before u 0) e) as (λ o. HasTwo (paths_before u [] ∷ counts) ⊎ (has_if_before t (suc (length counts)) ≡ true)) [
      | inl here ↦ inr here
      | inr there ↦ inl (inl (again there))
    ]

two_before : (t : Term) (counts : List ℕ) → ArePositive counts → HasTwo counts ⊎ (has_if_before t (length counts) ≡ true) → 2 ≤ paths_before t counts
unfolding HasTwo has_if_before paths_before
two_before (Variable x) counts h (inl two) = product_two counts h two
two_before (Variable x) counts h (inr e) = absurd cc
two_before (Function f) counts h two = call_two (bytes_eq f (codes "IF")) counts h two
two_before (Applied t u) counts h two =
    two_before t (paths_before u [] ∷ counts) (One_more (paths_before u []) counts (positive_before u [] None_left) h) (further_two t u counts (λ e. two_before u [] None_left (inr e)) two)

-- a term with an IF has at least two paths
pub two_paths : (t : Term) → has_if t ≡ true → 2 ≤ paths_of t
two_paths t e = two_before t [] None_left (inr e)

pub paths_positive : (t : Term) → 1 ≤ paths_of t
paths_positive t = positive_before t [] None_left

-- whether a count that goes no further than a cap is above one
pub count_tells : (t : Term) (cap n : ℕ) → 2 ≤ cap → n ≡ min (paths_of t) cap → ltb 1 n ≡ has_if t
count_tells t cap n h e = by_if (has_if t) refl
  where
    by_if : (b : Bool) → has_if t ≡ b → ltb 1 n ≡ b
    by_if true is = let two = two_paths t is in grind (arith, nat_tests)
    by_if false is = let one = one_path t (record { none = is }) in grind (arith, nat_tests)
