-- How deep the terms of a shell's rows are.
use Rattle.std.proofs.Common.{◌≡◌, ◌≤◌, ◌+◌, ℕ, zero, suc, max, Option, Some, None, List, [], ◌∷◌, ◌++◌, length, refl, ap, arith}
use Rattle.std.specs.Prelude.{codes, slice_set}
use Rattle.nq_logic.specs.Terms.{Name, Term, Variable, Function, Applied, call, Each}
use Rattle.nq_logic.specs.Words.{call1, not_term, equal_term, if_term, zero_term, add1_term}
use Rattle.nq_logic.specs.Numerals.{number_of}
use Rattle.nq_logic.specs.Sizes.{depth_of, greatest_depth, tree_depth}
use Rattle.nq_logic.specs.Histories.{Part, Shell, Restriction, OneOf, NoneOf}
use Rattle.nq_logic.specs.ShellPrinciple.{listed}
use Rattle.nq_logic.specs.Shells.{made, made_with, remade, whole, part_sizes, part_variable, part_variables, restricted, recognized, recognizes, is_base, sum_of, either_of, accessed}
use Rattle.nq_logic.proofs.Lists.{each_append}
use Rattle.nq_bank.proofs.Numerals.{depth_of-number, depth_of-other}
use Rattle.nq_arith.specs.Nests.{accessor_of}
use Rattle.nq_part_lines.specs.Known.{allowed, size_is, row_room}
use Rattle.nq_part_lines.proofs.CallLemmas.{one_depth}

-- a call is at most one deeper than its arguments
pub call_low : (f : Name) (ts : List Term) → depth_of (call f ts) ≤ greatest_depth ts + 1
call_low f ts = by_number (number_of (call f ts)) refl
  where
    by_number : (o : Option ℕ) → number_of (call f ts) ≡ o → depth_of (call f ts) ≤ greatest_depth ts + 1
    by_number None e = let same = depth_of-other f ts e in omega (arith, same)
    by_number (Some n) e = let same = depth_of-number (call f ts) n e in omega (arith, same)

pub variable_low : (x : Name) → depth_of (Variable x) ≤ 1
unfolding number_of tree_depth
variable_low x = omega arith

pub constant_low : (f : Name) → depth_of (Function f) ≤ 1
constant_low f = let low : depth_of (Function f) ≤ 0 + 1 = call_low f [] in omega (arith, low)

pub two_low : (f : Name) (a b : Term) (d : ℕ) → depth_of a ≤ d → depth_of b ≤ d → depth_of (Applied (Applied (Function f) a) b) ≤ d + 1
two_low f a b d h k =
    let low : depth_of (Applied (Applied (Function f) a) b) ≤ max (depth_of a) (max (depth_of b) 0) + 1 = call_low f (a ∷ b ∷ []) in
    omega (arith, low, h, k)

pub either_low : (rs : List Name) (t : Term) → depth_of (either_of (recognized rs t)) ≤ length rs + depth_of t + 1
either_low [] t = let low = constant_low (codes "FALSE") in omega (arith, low)
either_low (r ∷ []) t = let low = one_depth r t in omega (arith, low)
either_low (r ∷ q ∷ rs) t =
    let first = one_depth r t in
    let rest : depth_of (either_of (recognized (q ∷ rs) t)) ≤ length (q ∷ rs) + depth_of t + 1 = either_low (q ∷ rs) t in
    let here : depth_of (Applied (Function r) t) ≤ length (q ∷ rs) + depth_of t + 1 = omega (arith, first) in
    let low = two_low (codes "OR") (Applied (Function r) t) (either_of (recognized (q ∷ rs) t)) (length (q ∷ rs) + depth_of t + 1) here rest in
    omega (arith, low)

pub restricted_low : (restriction : Restriction) (t : Term) → depth_of (restricted restriction t) ≤ length (listed restriction) + depth_of t + 2
restricted_low (OneOf rs) t = let low = either_low rs t in omega (arith, low)
restricted_low (NoneOf []) t = let low = constant_low (codes "TRUE") in omega (arith, low)
restricted_low (NoneOf (r ∷ rs)) t =
    let low = either_low (r ∷ rs) t in
    let whole = one_depth (codes "NOT") (either_of (recognized (r ∷ rs) t)) in
    omega (arith, low, whole)

-- a part with few recognizers
abbrev pub IsFew : Part → Type 0
IsFew part = length (listed part.restriction) ≤ 100

pub allowed_low : (k : ℕ) (part : Part) → IsFew part → depth_of (allowed k part) ≤ 103
allowed_low k part few =
    let low : depth_of (allowed k part) ≤ length (listed part.restriction) + depth_of (part_variable k) + 2 = restricted_low part.restriction (part_variable k) in
    let one : depth_of (part_variable k) ≤ 1 = variable_low _ in
    omega (arith, low, one, few)

size_low : (m x : Term) → depth_of m ≤ 103 → depth_of x ≤ 1 → depth_of (if_term m (call1 "COUNT" x) zero_term) ≤ 104
size_low m x h k =
    let count : depth_of (call1 "COUNT" x) ≤ depth_of x + 1 = one_depth (codes "COUNT") x in
    let none : depth_of zero_term ≤ 1 = constant_low (codes "ZERO") in
    let whole : depth_of (if_term m (call1 "COUNT" x) zero_term) ≤ max (depth_of m) (max (depth_of (call1 "COUNT" x)) (max (depth_of zero_term) 0)) + 1 = call_low (codes "IF") (m ∷ call1 "COUNT" x ∷ zero_term ∷ []) in
    omega (arith, whole, count, none, h, k)

sizes_low : (k : ℕ) (parts : List Part) → Each IsFew parts → Each (λ u. depth_of u ≤ 104) (part_sizes k parts)
sizes_low k [] few = tt
sizes_low k (part ∷ parts) few = (size_low (allowed k part) (part_variable k) (allowed_low k part few.0) (variable_low _), sizes_low (suc k) parts few.1)

sizes_many : (k : ℕ) (parts : List Part) → length (part_sizes k parts) ≡ length parts
sizes_many k [] = refl
sizes_many k (part ∷ parts) = ap suc (sizes_many (suc k) parts)

sum_low : (d : ℕ) (ts : List Term) → 1 ≤ d → Each (λ u. depth_of u ≤ d) ts → depth_of (sum_of ts) ≤ d + length ts
sum_low d [] one each = let low = constant_low (codes "ZERO") in omega (arith, low, one)
sum_low d (t ∷ []) one each = let low : depth_of t ≤ d = each.0 in omega (arith, low)
sum_low d (t ∷ u ∷ rest) one each =
    let low : depth_of t ≤ d + length (u ∷ rest) = (let first : depth_of t ≤ d = each.0 in omega (arith, first)) in
    let more : depth_of (sum_of (u ∷ rest)) ≤ d + length (u ∷ rest) = sum_low d (u ∷ rest) one each.1 in
    let whole = two_low (codes "PLUS") t (sum_of (u ∷ rest)) (d + length (u ∷ rest)) low more in
    omega (arith, whole)

variables_low : (k : ℕ) (parts : List Part) → greatest_depth (part_variables k parts) ≤ 1
variables_low k [] = omega arith
variables_low k (part ∷ parts) =
    let first : depth_of (part_variable k) ≤ 1 = variable_low _ in
    let rest = variables_low (suc k) parts in
    omega (arith, first, rest)

pub made_low : (s : Shell) → depth_of (made s) ≤ 2
made_low s =
    let whole = call_low s.constructor (part_variables 0 s.parts) in
    let rest = variables_low 0 s.parts in
    omega (arith, whole, rest)

-- with a constant in the place of one
set_low : (ts : List Term) (k : ℕ) (t : Term) → greatest_depth ts ≤ 1 → depth_of t ≤ 1 → greatest_depth (slice_set ts k t) ≤ 1
set_low [] k t h l = omega arith
set_low (u ∷ ts) zero t h l = omega (arith, h, l)
set_low (u ∷ ts) (suc k) t h l =
    let first : greatest_depth ts ≤ 1 = omega (arith, h) in
    let rest = set_low ts k t first l in
    omega (arith, h, rest)

pub made_with_low : (s : Shell) (k : ℕ) (t : Term) → depth_of t ≤ 1 → depth_of (made_with s k t) ≤ 2
made_with_low s k t l =
    let whole = call_low s.constructor (slice_set (part_variables 0 s.parts) k t) in
    let rest = set_low (part_variables 0 s.parts) k t (variables_low 0 s.parts) l in
    omega (arith, whole, rest)

accessed_low : (parts : List Part) → greatest_depth (accessed whole parts) ≤ 2
accessed_low [] = omega arith
accessed_low (part ∷ parts) =
    let one : depth_of whole ≤ 1 = variable_low _ in
    let first : depth_of (Applied (Function part.accessor) whole) ≤ depth_of whole + 1 = one_depth part.accessor whole in
    let rest = accessed_low parts in
    omega (arith, first, one, rest)

pub remade_low : (s : Shell) → depth_of (remade s) ≤ 3
remade_low s =
    let made = call_low s.constructor (accessed whole s.parts) in
    let rest = accessed_low s.parts in
    omega (arith, made, rest)

-- the rows
pub size_row_low : (s : Shell) → length s.parts ≤ 20 → Each IsFew s.parts → depth_of (size_is s) ≤ row_room
size_row_low s few parts =
    let many : length (part_sizes 0 s.parts) ≡ length s.parts = sizes_many 0 s.parts in
    let sum : depth_of (sum_of (part_sizes 0 s.parts)) ≤ 104 + length (part_sizes 0 s.parts) = sum_low 104 (part_sizes 0 s.parts) (omega arith) (sizes_low 0 s.parts parts) in
    let more : depth_of (add1_term (sum_of (part_sizes 0 s.parts))) ≤ depth_of (sum_of (part_sizes 0 s.parts)) + 1 = one_depth (codes "ADD1") (sum_of (part_sizes 0 s.parts)) in
    let right : depth_of (add1_term (sum_of (part_sizes 0 s.parts))) ≤ 125 = omega (arith, sum, more, many, few) in
    let object = made_low s in
    let count : depth_of (call1 "COUNT" (made s)) ≤ depth_of (made s) + 1 = one_depth (codes "COUNT") (made s) in
    let left : depth_of (call1 "COUNT" (made s)) ≤ 125 = omega (arith, object, count) in
    let low = two_low (codes "EQUAL") (call1 "COUNT" (made s)) (add1_term (sum_of (part_sizes 0 s.parts))) 125 left right in
    omega (arith, low)

pub equal_low : (a b : Term) → depth_of a ≤ 103 → depth_of b ≤ 103 → depth_of (equal_term a b) ≤ row_room
equal_low a b h k = let low = two_low (codes "EQUAL") a b 103 h k in omega (arith, low)

pub put_low : (s : Shell) (k : ℕ) (t : Term) → depth_of t ≤ 1 → depth_of (equal_term (made s) (made_with s k t)) ≤ row_room
put_low s k t l =
    let object = made_low s in
    let put = made_with_low s k t l in
    equal_low (made s) (made_with s k t) (omega (arith, object)) (omega (arith, put))

pub taken_low : (s : Shell) (part : Part) (t : Term) → depth_of t ≤ 1 → depth_of (equal_term (accessor_of part (made s)) t) ≤ row_room
taken_low s part t h =
    let object = made_low s in
    let taken : depth_of (accessor_of part (made s)) ≤ depth_of (made s) + 1 = one_depth part.accessor (made s) in
    let left : depth_of (accessor_of part (made s)) ≤ 103 = omega (arith, object, taken) in
    let right : depth_of t ≤ 103 = omega (arith, h) in
    equal_low (accessor_of part (made s)) t left right

pub denied_low : (t : Term) → depth_of t ≤ 103 → depth_of (not_term t) ≤ row_room
denied_low t h = let low = one_depth (codes "NOT") t in omega (arith, low, h)

-- that a constant is no object
pub recognizes_low : (s : Shell) (f : Name) → depth_of (not_term (recognizes s (Function f))) ≤ row_room
recognizes_low s f =
    let one = constant_low f in
    let low : depth_of (recognizes s (Function f)) ≤ depth_of (Function f) + 1 = one_depth s.recognizer (Function f) in
    denied_low (recognizes s (Function f)) (omega (arith, one, low))

pub allowed_row_low : (k : ℕ) (part : Part) → IsFew part → depth_of (allowed k part) ≤ row_room
allowed_row_low k part few = let low = allowed_low k part few in omega (arith, low)

base_low : (o : Option Name) → Each (λ t. depth_of t ≤ row_room) (is_base o)
base_low None = tt
base_low (Some b) =
    let left : depth_of whole ≤ 1 = variable_low _ in
    let right : depth_of (Function b) ≤ 1 = constant_low b in
    (equal_low whole (Function b) (omega (arith, left)) (omega (arith, right)), tt)

pub again_low : (s : Shell) → Each (λ t. depth_of t ≤ row_room) (not_term (recognizes s whole) ∷ (is_base s.base ++ (equal_term (remade s) whole ∷ [])))
again_low s =
    let x : depth_of whole ≤ 1 = variable_low _ in
    let r : depth_of (recognizes s whole) ≤ depth_of whole + 1 = one_depth s.recognizer whole in
    let c = remade_low s in
    let test : depth_of (recognizes s whole) ≤ 103 = omega (arith, x, r) in
    let left : depth_of (remade s) ≤ 103 = omega (arith, c) in
    let right : depth_of whole ≤ 103 = omega (arith, x) in
    (denied_low (recognizes s whole) test, each_append (λ t. depth_of t ≤ row_room) (is_base s.base) (equal_term (remade s) whole ∷ []) (base_low s.base) (equal_low (remade s) whole left right, tt))

pub zero_low : (d : Name) → depth_of (equal_term (call1 "COUNT" (Function d)) zero_term) ≤ row_room
zero_low d =
    let inner : depth_of (Function d) ≤ 1 = constant_low d in
    let count : depth_of (call1 "COUNT" (Function d)) ≤ depth_of (Function d) + 1 = one_depth (codes "COUNT") (Function d) in
    let none : depth_of zero_term ≤ 1 = constant_low (codes "ZERO") in
    let left : depth_of (call1 "COUNT" (Function d)) ≤ 103 = omega (arith, inner, count) in
    let right : depth_of zero_term ≤ 103 = omega (arith, none) in
    equal_low (call1 "COUNT" (Function d)) zero_term left right
