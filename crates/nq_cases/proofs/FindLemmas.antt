-- IFs that are found in terms.
use Rattle.std.proofs.Common.{◌≡◌, ℕ, zero, suc, ◌+◌, ◌*◌, ◌-◌, ◌≤◌, ◌<◌, ◌==◌, ◌&&◌, ◌||◌, ◌⊎◌, Bool, true, false, List, [], ◌∷◌, ◌++◌, length, map, take, get_or, Option, Some, None, refl, sym, ap, ◌∙◌, subst, inl, inr, arith}
use Rattle.std.specs.Prelude.{All, bytes_eq, codes, if◌then◌else◌, slice_set, slice_get}
use Rattle.std.proofs.lemmas.Bool.Decides.{nat_tests}
use Rattle.std.proofs.Math.Nat.{mul-add, add-mul, mul-le-mul_right, mul-le-mul_left, one-mul}
use Rattle.nq_logic.specs.Terms.{Name, Term, Variable, Function, Applied, applied, call}
use Rattle.nq_logic.specs.Words.{if_term, numeral}
use Rattle.nq_logic.specs.Numerals.{number_of}
use Rattle.nq_logic.specs.Sizes.{depth_of, greatest_depth}
use Rattle.std.proofs.lemmas.List.{take_all}
use Rattle.nq_bank.specs.declared.node.TermId.{TermId}
use Rattle.nq_bank.specs.Content.{Content, Stands, term_at, terms_at}
use Rattle.nq_bank.specs.Parts.{parts_of}
use Rattle.nq_bank.proofs.ArgumentLemmas.{terms_from-take}
use Rattle.nq_bank.proofs.Numerals.{depth_of-other, depth_of-number}
use Rattle.nq_bank.proofs.Texts.{bytes_eq-true}
use Rattle.std.proofs.lemmas.Option.{slice_get_cases}
use Rattle.nq_proof.proofs.Tests.{some_same, none_is_not_some}
use Rattle.nq_proof.specs.Clauses.{literal_at}
use Rattle.nq_proof.specs.Linear.{and_then}
use Rattle.nq_proof.specs.Paths.{IfParts}
use Rattle.nq_rule.specs.declared.branching.Branches.{Branches}
use Rattle.nq_rule.specs.Places.{part_at}
use Rattle.nq_rule.specs.Results.{second_or, with_part}
use Rattle.nq_rule.proofs.PathLemmas.{with_part-step, with_argument-call, part_at_first, replaced_at-part}
use Rattle.nq_cases.specs.Paths.{product, branch_paths, call_paths, paths_of, has_if_before, has_if, IsIfFree}
use Rattle.nq_cases.specs.Splits.{IsChoice}
use Rattle.nq_cases.specs.declared.finding.Inside.{Inside}
use Rattle.nq_cases.specs.declared.finding.Next.{Next}
use Rattle.nq_cases.specs.declared.finding.Next.TheVariants.{Free, Here, Within}
use Rattle.nq_cases.specs.Choices.{any_if, IsInside, IsFreeTest, IsNextOfIf, IsNextOfCall, IsNext, IsOpen, IsFound}
use Rattle.nq_cases.proofs.PathCounts.{call_paths_are, one_path, two_paths, either_false}
use Rattle.nq_cases.proofs.CapLemmas.{other_branches, paths_of_numeral}

neither : (a b : Bool) → a ≡ false → b ≡ false → (a || b) ≡ false
neither a b e f = rw (e, f) refl

no_if_after : (ts : List Term) (t : Term) (n : ℕ) → has_if_before t (length ts + n) ≡ false → any_if ts ≡ false → has_if_before (applied t ts) n ≡ false
unfolding has_if_before
no_if_after [] t n e f = let z : 0 + n ≡ n = omega arith in subst (λ k. has_if_before t k ≡ false) z e
no_if_after (u ∷ ts) t n e f =
    let both = either_false (has_if u) (any_if ts) f in
    let z : suc (length ts) + n ≡ suc (length ts + n) = omega arith in
    no_if_after ts (Applied t u) n (neither (has_if_before t (suc (length ts + n))) (has_if_before u 0) (subst (λ k. has_if_before t k ≡ false) z e) both.0) both.1

-- a call whose arguments have no IF has none, but where it is one
pub no_if_call : (f : Name) (ts : List Term) → (bytes_eq f (codes "IF") && (length ts == 3)) ≡ false → any_if ts ≡ false → IsIfFree (call f ts)
unfolding has_if_before
no_if_call f ts e g =
    let z : length ts ≡ length ts + 0 = omega arith in
    record { none = no_if_after ts (Function f) 0 (subst (λ k. (bytes_eq f (codes "IF") && (k == 3)) ≡ false) z e) g }

pub no_if_variable : (x : Name) → IsIfFree (Variable x)
unfolding has_if_before
no_if_variable x = record { none = refl }

-- two terms in the place of an argument have no more paths together than it: so have the products
set_linear : (ts : List Term) (i : ℕ) (d v w : Term) → i < length ts → paths_of v + paths_of w ≤ paths_of (get_or ts i d) →
    product (map paths_of (slice_set ts i v)) + product (map paths_of (slice_set ts i w)) ≤ product (map paths_of ts)
set_linear [] i d v w below h = absurd (omega (arith, below))
set_linear (t ∷ ts) zero d v w below h =
    let rest : ℕ = product (map paths_of ts) in
    let sum : (paths_of v + paths_of w) * rest ≡ paths_of v * rest + paths_of w * rest = add-mul (paths_of v) (paths_of w) rest in
    let more : (paths_of v + paths_of w) * rest ≤ paths_of t * rest = mul-le-mul_right rest h in
    omega (arith, sum, more)
set_linear (t ∷ ts) (suc i) d v w below h =
    let a : ℕ = product (map paths_of (slice_set ts i v)) in
    let b : ℕ = product (map paths_of (slice_set ts i w)) in
    let inner : a + b ≤ product (map paths_of ts) = set_linear ts i d v w (omega (arith, below)) h in
    let sum : paths_of t * (a + b) ≡ paths_of t * a + paths_of t * b = mul-add (paths_of t) a b in
    let more : paths_of t * (a + b) ≤ paths_of t * product (map paths_of ts) = mul-le-mul_left (paths_of t) inner in
    omega (arith, sum, more)

-- and in the test of an IF
first_linear : (ts : List Term) (d v w : Term) → 0 < length ts → paths_of v + paths_of w ≤ paths_of (get_or ts 0 d) →
    branch_paths (map paths_of (slice_set ts 0 v)) + branch_paths (map paths_of (slice_set ts 0 w)) ≤ branch_paths (map paths_of ts)
first_linear [] d v w below h = absurd (omega (arith, below))
first_linear (t ∷ []) d v w below h = set_linear (t ∷ []) 0 d v w below h
first_linear (t ∷ x ∷ []) d v w below h = set_linear (t ∷ x ∷ []) 0 d v w below h
first_linear (t ∷ x ∷ y ∷ []) d v w below h =
    let rest : ℕ = paths_of x + paths_of y in
    let sum : (paths_of v + paths_of w) * rest ≡ paths_of v * rest + paths_of w * rest = add-mul (paths_of v) (paths_of w) rest in
    let more : (paths_of v + paths_of w) * rest ≤ paths_of t * rest = mul-le-mul_right rest h in
    omega (arith, sum, more)
first_linear (t ∷ x ∷ y ∷ z ∷ ts) d v w below h = set_linear (t ∷ x ∷ y ∷ z ∷ ts) 0 d v w below h

set_length : (ts : List Term) (i : ℕ) (v : Term) → length (map paths_of (slice_set ts i v)) ≡ length ts
set_length [] i v = refl
set_length (t ∷ ts) zero v = ap suc (mapped ts)
  where
    mapped : (ts : List Term) → length (map paths_of ts) ≡ length ts
    mapped [] = refl
    mapped (t ∷ ts) = ap suc (mapped ts)
set_length (t ∷ ts) (suc i) v = ap suc (set_length ts i v)

plain_length : (ts : List Term) → length (map paths_of ts) ≡ length ts
plain_length [] = refl
plain_length (t ∷ ts) = ap suc (plain_length ts)

not_three : (n : ℕ) → (n == 3) ≡ false → n ≡ 3 → ⊥
not_three n e same = grind (arith, nat_tests)

-- and so has a call, where the argument is no branch of an IF
call_linear : (f : Name) (ts : List Term) (i : ℕ) (d v w : Term) → i < length ts → paths_of v + paths_of w ≤ paths_of (get_or ts i d) → (i ≡ 0) ⊎ ((bytes_eq f (codes "IF") && (length ts == 3)) ≡ false) →
    call_paths f (map paths_of (slice_set ts i v)) + call_paths f (map paths_of (slice_set ts i w)) ≤ call_paths f (map paths_of ts)
call_linear f ts i d v w below h place_open = by_name (bytes_eq f (codes "IF")) place_open
  where
    other : (length ts ≡ 3 → ⊥) → branch_paths (map paths_of (slice_set ts i v)) + branch_paths (map paths_of (slice_set ts i w)) ≤ branch_paths (map paths_of ts)
    other n =
        let a = other_branches (map paths_of (slice_set ts i v)) (λ e. n (sym (set_length ts i v) ∙ e)) in
        let b = other_branches (map paths_of (slice_set ts i w)) (λ e. n (sym (set_length ts i w) ∙ e)) in
        let c = other_branches (map paths_of ts) (λ e. n (sym (plain_length ts) ∙ e)) in
        let sum = set_linear ts i d v w below h in
        omega (arith, a, b, c, sum)

    by_name : (b : Bool) → (i ≡ 0) ⊎ ((b && (length ts == 3)) ≡ false) →
        (if b then branch_paths (map paths_of (slice_set ts i v)) else product (map paths_of (slice_set ts i v))) + (if b then branch_paths (map paths_of (slice_set ts i w)) else product (map paths_of (slice_set ts i w))) ≤
        (if b then branch_paths (map paths_of ts) else product (map paths_of ts))
    by_name false o = set_linear ts i d v w below h
    by_name true (inl z) =
        subst (λ k. branch_paths (map paths_of (slice_set ts k v)) + branch_paths (map paths_of (slice_set ts k w)) ≤ branch_paths (map paths_of ts)) (sym z)
        (first_linear ts d v w (omega (arith, below, z)) (subst (λ k. paths_of v + paths_of w ≤ paths_of (get_or ts k d)) z h))
    by_name true (inr n) = other (not_three (length ts) n)

greatest_set : (ts : List Term) (i : ℕ) (d v : Term) → i < length ts → depth_of v ≤ depth_of (get_or ts i d) → greatest_depth (slice_set ts i v) ≤ greatest_depth ts
greatest_set [] i d v below h = absurd (omega (arith, below))
greatest_set (t ∷ ts) zero d v below h = omega (arith, h)
greatest_set (t ∷ ts) (suc i) d v below h = let rest = greatest_set ts i d v (omega (arith, below)) h in omega (arith, rest)

greatest_has : (ts : List Term) (i : ℕ) (d : Term) → i < length ts → depth_of (get_or ts i d) ≤ greatest_depth ts
greatest_has [] i d below = absurd (omega (arith, below))
greatest_has (t ∷ ts) zero d below = omega arith
greatest_has (t ∷ ts) (suc i) d below = let rest = greatest_has ts i d (omega (arith, below)) in omega (arith, rest)

-- a call is one deeper than its arguments at most
pub call_depth : (f : Name) (ts : List Term) → depth_of (call f ts) ≤ greatest_depth ts + 1
call_depth f ts = by_number (number_of (call f ts)) refl
  where
    by_number : (o : Option ℕ) → number_of (call f ts) ≡ o → depth_of (call f ts) ≤ greatest_depth ts + 1
    by_number None e = let is = depth_of-other f ts e in omega (arith, is)
    by_number (Some n) e = let is = depth_of-number (call f ts) n e in omega (arith, is)

-- the call with another term at a place
with_call : (place : ℕ) (path : List ℕ) (head : Name) (x whole u top : Term) → whole ≡ call head (parts_of whole) → literal_at (suc place) (parts_of whole) ≡ Some u → part_at path u ≡ Some top →
    with_part (suc place ∷ path) x whole ≡ call head (slice_set (parts_of whole) place (with_part path x u))
with_call place path head x whole u top is at leads =
    let less : suc place - 1 ≡ place = omega arith in
    with_part-step (suc place) path x whole u at (part_at_first path x u top leads) ∙
    with_argument-call (suc place) head (with_part path x u) whole u is at ∙
    ap (λ i. call head (slice_set (parts_of whole) i (with_part path x u))) less

pub got : (i : ℕ) (ts : List Term) (u : Term) → slice_get ts i ≡ Some u → (i < length ts) × (get_or ts i u ≡ u)
got i ts u e = by_element (slice_get_cases ts i).1
  where
    by_element : ((x : Term) × (i < length ts) × (slice_get ts i ≡ Some x) × (get_or ts i x ≡ x)) ⊎ ((length ts ≤ i) × (slice_get ts i ≡ None)) → (i < length ts) × (get_or ts i u ≡ u)
    by_element (inl h) = let same : h.0 ≡ u = some_same h.0 u (sym h.2 ∙ e) in (h.1, subst (λ x. get_or ts i x ≡ x) same h.3)
    by_element (inr h) = absurd (none_is_not_some u (sym h.1 ∙ e))

-- what is found in an argument is found in the call, unless the argument is a branch of an IF
pub found_under : (place : ℕ) (path : List ℕ) (parts : IfParts) (whole u : Term) → IsOpen whole place → literal_at place (parts_of whole) ≡ Some u → IsFound path parts u → IsFound (place ∷ path) parts whole
found_under zero path parts whole u place_open at found = absurd cc
found_under (suc i) path parts whole u place_open at found =
    let f : Name = place_open.head in
    let ts : List Term = parts_of whole in
    let top : Term = if_term parts.test parts.first parts.second in
    let get = got i ts u at in
    let v : Term = with_part path parts.first u in
    let w : Term = with_part path parts.second u in
    let one = with_call i path f parts.first whole u top place_open.is at found.at in
    let two = with_call i path f parts.second whole u top place_open.is at found.at in
    let here : paths_of (get_or ts i u) ≡ paths_of u = ap paths_of get.1 in
    let deep : depth_of (get_or ts i u) ≡ depth_of u = ap depth_of get.1 in
    let zeroth : (i ≡ 0) ⊎ ((bytes_eq f (codes "IF") && (length ts == 3)) ≡ false) = elim place_open.place_is as (λ o. (i ≡ 0) ⊎ ((bytes_eq f (codes "IF") && (length ts == 3)) ≡ false)) [ inl e ↦ inl (omega (arith, e)) | inr n ↦ inr n ] in
    let sums = call_linear f ts i u v w get.0 (let h = found.no_more in omega (arith, h, here)) zeroth in
    let paths_one : paths_of (with_part (suc i ∷ path) parts.first whole) ≡ call_paths f (map paths_of (slice_set ts i v)) = ap paths_of one ∙ call_paths_are f (slice_set ts i v) in
    let paths_two : paths_of (with_part (suc i ∷ path) parts.second whole) ≡ call_paths f (map paths_of (slice_set ts i w)) = ap paths_of two ∙ call_paths_are f (slice_set ts i w) in
    let paths_whole : paths_of whole ≡ call_paths f (map paths_of ts) = ap paths_of place_open.is ∙ call_paths_are f ts in
    let number : number_of (call f ts) ≡ None = sym (ap number_of place_open.is) ∙ place_open.plain in
    let depth_whole : depth_of whole ≡ greatest_depth ts + 1 = ap depth_of place_open.is ∙ depth_of-other f ts number in
    let set_one = greatest_set ts i u v get.0 (let h = found.first_depth in omega (arith, h, deep)) in
    let set_two = greatest_set ts i u w get.0 (let h = found.second_depth in omega (arith, h, deep)) in
    let call_one = call_depth f (slice_set ts i v) in
    let call_two = call_depth f (slice_set ts i w) in
    let depth_one : depth_of (with_part (suc i ∷ path) parts.first whole) ≡ depth_of (call f (slice_set ts i v)) = ap depth_of one in
    let depth_two : depth_of (with_part (suc i ∷ path) parts.second whole) ≡ depth_of (call f (slice_set ts i w)) = ap depth_of two in
    let has = greatest_has ts i u get.0 in
    let test = found.test_depth in
    record {
      at = ap (λ o. and_then o (λ u. part_at path u)) at ∙ found.at;
      free = found.free;
      no_more = omega (arith, sums, paths_one, paths_two, paths_whole);
      first_depth = omega (arith, set_one, call_one, depth_one, depth_whole);
      second_depth = omega (arith, set_two, call_two, depth_two, depth_whole);
      test_depth = omega (arith, has, deep, test, depth_whole);
    }

if_no_number : (p x y : Term) → number_of (call (codes "IF") (p ∷ x ∷ y ∷ [])) ≡ None
unfolding number_of
if_no_number p x y = refl

-- an IF whose test has none is found at once
pub found_here : (p x y t : Term) → t ≡ if_term p x y → IsIfFree p → IsFound [] (record { test = p; first = x; second = y }) t
found_here p x y t is free =
    let ts : List Term = p ∷ x ∷ y ∷ [] in
    let paths_whole : paths_of t ≡ paths_of p * (paths_of x + paths_of y) = ap paths_of is ∙ call_paths_are (codes "IF") ts in
    let one : paths_of p * (paths_of x + paths_of y) ≡ paths_of x + paths_of y = ap (λ n. n * (paths_of x + paths_of y)) (one_path p free) ∙ one-mul (paths_of x + paths_of y) in
    let depth_whole : depth_of t ≡ greatest_depth ts + 1 = ap depth_of is ∙ depth_of-other (codes "IF") ts (if_no_number p x y) in
    record {
      at = ap (λ t. Some t) is;
      free = free;
      no_more = omega (arith, paths_whole, one);
      first_depth = omega (arith, depth_whole);
      second_depth = omega (arith, depth_whole);
      test_depth = omega (arith, depth_whole);
    }

-- what is found in a term is a choice of it
pub found_choice : (path : List ℕ) (parts : IfParts) (t first second : Term) → IsFound path parts t → first ≡ with_part path parts.first t → second ≡ with_part path parts.second t → IsChoice t path parts first second
found_choice path parts t first second found one two =
    let top : Term = if_term parts.test parts.first parts.second in
    let a = replaced_at-part path parts.first t top found.at in
    let b = replaced_at-part path parts.second t top found.at in
    let a_is : a.0 ≡ first = sym (ap (second_or t) a.1) ∙ sym one in
    let b_is : b.0 ≡ second = sym (ap (second_or t) b.1) ∙ sym two in
    let sums = found.no_more in
    let paths_one : paths_of first ≡ paths_of (with_part path parts.first t) = ap paths_of one in
    let paths_two : paths_of second ≡ paths_of (with_part path parts.second t) = ap paths_of two in
    record {
      at_first = a.1 ∙ ap (λ w. Some (top, w)) a_is;
      at_second = b.1 ∙ ap (λ w. Some (top, w)) b_is;
      free = found.free;
      no_more = omega (arith, sums, paths_one, paths_two);
    }

any_append : (ts : List Term) (t : Term) → any_if ts ≡ false → has_if t ≡ false → any_if (ts ++ (t ∷ [])) ≡ false
any_append [] t e f = neither (has_if t) false f refl
any_append (u ∷ ts) t e f = let both = either_false (has_if u) (any_if ts) e in neither (has_if u) (any_if (ts ++ (t ∷ []))) both.0 (any_append ts t both.1 f)

pub none_more : (bank : Content) (ids : List TermId) (i : ℕ) (d : TermId) → i < length ids → any_if (terms_at bank (take i ids)) ≡ false → has_if (term_at bank (get_or ids i d)) ≡ false → any_if (terms_at bank (take (i + 1) ids)) ≡ false
none_more bank ids i d below none here = ap any_if (terms_from-take bank.terms ids i d below) ∙ any_append (terms_at bank (take i ids)) (term_at bank (get_or ids i d)) none here

pub none_at_all : (bank : Content) (ids : List TermId) (i : ℕ) (ts : List Term) → terms_at bank ids ≡ ts → length ids ≤ i → any_if (terms_at bank (take i ids)) ≡ false → any_if ts ≡ false
none_at_all bank ids i ts are past none = ap any_if (sym are) ∙ ap (λ xs. any_if (terms_at bank xs)) (sym (take_all i ids past)) ∙ none

mapped_at : (bank : Content) (ids : List TermId) (i : ℕ) (d : TermId) → i < length ids → slice_get (terms_at bank ids) i ≡ Some (term_at bank (get_or ids i d))
mapped_at bank [] i d below = absurd (omega (arith, below))
mapped_at bank (u ∷ ids) zero d below = refl
mapped_at bank (u ∷ ids) (suc i) d below = mapped_at bank ids i d (omega (arith, below))

-- the argument at an index is inside
pub inside_at : (bank : Content) (t : TermId) (ids : List TermId) (i : ℕ) (d : TermId) (next : Inside) → Stands bank t → terms_at bank ids ≡ parts_of (term_at bank t) → All (λ a. a.0 < t.0) ids → i < length ids →
    next.place ≡ suc i → next.argument ≡ get_or ids i d → has_if (term_at bank next.argument) ≡ true → IsInside bank t next
inside_at bank t ids i d next stands are earlier below place is has =
    let less : next.argument.0 < t.0 = subst (λ a. a.0 < t.0) (sym is) (earlier i d below) in
    record {
      stands = omega (arith, less, stands);
      earlier = less;
      at = ap (λ p. literal_at p (parts_of (term_at bank t))) place ∙ ap (λ ts. slice_get ts i) (sym are) ∙ mapped_at bank ids i d below ∙ ap (λ a. Some (term_at bank a)) (sym is);
      has = has;
    }

pub terms_length : (bank : Content) (ids : List TermId) → length (terms_at bank ids) ≡ length ids
terms_length bank [] = refl
terms_length bank (t ∷ ids) = ap suc (terms_length bank ids)

-- three arguments
three_of : (bank : Content) (ids : List TermId) (d : TermId) → length ids ≡ 3 → terms_at bank ids ≡ term_at bank (get_or ids 0 d) ∷ term_at bank (get_or ids 1 d) ∷ term_at bank (get_or ids 2 d) ∷ []
three_of bank [] d e = absurd (omega (arith, e))
three_of bank (a ∷ []) d e = absurd (omega (arith, e))
three_of bank (a ∷ b ∷ []) d e = absurd (omega (arith, e))
three_of bank (a ∷ b ∷ c ∷ []) d e = refl
three_of bank (a ∷ b ∷ c ∷ f ∷ ids) d e = absurd (omega (arith, e))

pub free_test : (bank : Content) (t : TermId) (ids : List TermId) (d : TermId) (b : Branches) → Stands bank t → terms_at bank ids ≡ parts_of (term_at bank t) → All (λ a. a.0 < t.0) ids → length ids ≡ 3 →
    b.test ≡ get_or ids 0 d → b.first ≡ get_or ids 1 d → b.second ≡ get_or ids 2 d → has_if (term_at bank b.test) ≡ false → IsFreeTest bank (term_at bank t) b
free_test bank t ids d b stands are earlier three test first second none =
    let one : b.test.0 < t.0 = subst (λ a. a.0 < t.0) (sym test) (earlier 0 d (omega (arith, three))) in
    let two : b.first.0 < t.0 = subst (λ a. a.0 < t.0) (sym first) (earlier 1 d (omega (arith, three))) in
    let last : b.second.0 < t.0 = subst (λ a. a.0 < t.0) (sym second) (earlier 2 d (omega (arith, three))) in
    record {
      stand = record { test = omega (arith, one, stands); first = omega (arith, two, stands); second = omega (arith, last, stands) };
      are = sym are ∙ three_of bank ids d three ∙ rw (test, first, second) refl;
      free = record { none = none };
    }

-- where to look in a call, by whether it is an IF
pub next_if : (bank : Content) (t : TermId) (f : Name) (next : Next) → term_at bank t ≡ call f (parts_of (term_at bank t)) → number_of (term_at bank t) ≡ None → bytes_eq f (codes "IF") ≡ true → IsNextOfIf bank t next → IsNext bank t next
next_if bank t f Free is plain same h = absurd h
next_if bank t f (Here b) is plain same h =
    record { stand = h.stand; is = is ∙ ap (call f) h.are ∙ ap (λ g. call g (term_at bank b.test ∷ term_at bank b.first ∷ term_at bank b.second ∷ [])) (bytes_eq-true f (codes "IF") same); free = h.free }
next_if bank t f (Within next) is plain same h = (h.0, record { head = f; is = is; plain = plain; place_is = inl h.1 })

pub next_call : (bank : Content) (t : TermId) (f : Name) (next : Next) → term_at bank t ≡ call f (parts_of (term_at bank t)) → number_of (term_at bank t) ≡ None → (bytes_eq f (codes "IF") && (length (parts_of (term_at bank t)) == 3)) ≡ false → IsNextOfCall bank t next → IsNext bank t next
next_call bank t f Free is plain other h = subst IsIfFree (sym is) (no_if_call f (parts_of (term_at bank t)) other h)
next_call bank t f (Here b) is plain other h = absurd h
next_call bank t f (Within next) is plain other h = (h, record { head = f; is = is; plain = plain; place_is = inr other })

pub no_if_numeral : (n : ℕ) → IsIfFree (numeral n)
no_if_numeral n = by_if (has_if (numeral n)) refl
  where
    by_if : (b : Bool) → has_if (numeral n) ≡ b → IsIfFree (numeral n)
    by_if true e = let two = two_paths (numeral n) e in let one = paths_of_numeral n in absurd (omega (arith, two, one))
    by_if false e = record { none = e }

-- a term with an IF is not free of it
pub not_free : (t : Term) → has_if t ≡ true → IsIfFree t → ⊥
not_free t e h = true_not_false (sym e ∙ h.none)
  where
    true_not_false : true ≡ false → ⊥
    true_not_false e = cc

pub not_if_head : (b : Bool) (n : ℕ) → b ≡ false → (b && (n == 3)) ≡ false
not_if_head b n e = rw e refl

differs_three : (m : ℕ) → (m ≡ 3 → ⊥) → (m == 3) ≡ false
differs_three m h = grind (arith, nat_tests)

pub not_if_count : (b : Bool) (bank : Content) (ids : List TermId) (t : Term) → terms_at bank ids ≡ parts_of t → (length ids ≡ 3 → ⊥) → (b && (length (parts_of t) == 3)) ≡ false
not_if_count b bank ids t are n = by_head b
  where
    test : (length (parts_of t) == 3) ≡ false
    test = let count = ap length are in let same = terms_length bank ids in differs_three (length (parts_of t)) (λ e. n (omega (arith, count, same, e)))

    by_head : (b : Bool) → (b && (length (parts_of t) == 3)) ≡ false
    by_head true = test
    by_head false = refl
