-- Counts that go no further than a cap.
use Rattle.std.proofs.Common.{◌≡◌, ◌⊎◌, ℕ, zero, suc, ◌+◌, ◌*◌, ◌≤◌, ◌<◌, Bool, true, false, Some, List, [], ◌∷◌, ◌++◌, length, map, take, get_or, refl, sym, ap, ◌∙◌, subst, inl, inr, arith}
use Rattle.std.specs.Prelude.{min, nat_eq, bytes_eq, codes, if◌then◌else◌}
use Rattle.std.proofs.lemmas.List.{take_all}
use Rattle.std.proofs.Math.Seq.{take-suc}
use Rattle.std.specs.HashMap.{Updates}
use Rattle.std.proofs.Math.Nat.{mul_assoc, mul_comm, mul-one, one-mul, le-mul_of_pos_right}
use Rattle.nq_logic.specs.Terms.{Name, Term, Variable, call}
use Rattle.nq_logic.specs.Words.{numeral}
use Rattle.nq_bank.specs.declared.node.TermId.{TermId}
use Rattle.nq_bank.specs.Parts.{parts_of}
use Rattle.nq_bank.specs.Content.{Content, Stands, Grows, term_at, terms_at, term_from, terms_from}
use Rattle.nq_bank.proofs.Growth.{term_at-grown, Stands-grown}
use Rattle.nq_bank.proofs.ArgumentLemmas.{terms_from-take}
use Rattle.nq_clause.proofs.Lookups.{kept_or_stood}
use Rattle.nq_cases.specs.Paths.{product, branch_paths, call_paths, paths_before, paths_of}
use Rattle.nq_cases.specs.Counts.{KnownCounts, HasCounts}
use Rattle.nq_cases.proofs.PathCounts.{call_paths_are}

at_most : (a c : ℕ) → (a ≤ c) ⊎ (c < a)
at_most a c = search arith

-- a factor may be capped first
pub cap_left : (a b c : ℕ) → min (min a c * b) c ≡ min (a * b) c
cap_left a b c = by_size (at_most a c)
  where
    more : (b : ℕ) → c < a → min (c * b) c ≡ min (a * b) c
    more zero h = omega arith
    more (suc b) h =
        let one : c ≤ c * suc b = le-mul_of_pos_right c (omega arith) in
        let two : a ≤ a * suc b = le-mul_of_pos_right a (omega arith) in
        omega (arith, one, two, h)

    by_size : (a ≤ c) ⊎ (c < a) → min (min a c * b) c ≡ min (a * b) c
    by_size (inl h) = let e : min a c ≡ a = omega (arith, h) in ap (λ m. min (m * b) c) e
    by_size (inr h) = let e : min a c ≡ c = omega (arith, h) in ap (λ m. min (m * b) c) e ∙ more b h

pub cap_right : (a b c : ℕ) → min (a * min b c) c ≡ min (a * b) c
cap_right a b c = ap (λ m. min m c) (mul_comm a (min b c)) ∙ cap_left b a c ∙ ap (λ m. min m c) (mul_comm b a)

abbrev pub capped : ℕ → List ℕ → List ℕ
capped c ns = map (λ n. min n c) ns

product_capped : (c : ℕ) (ns : List ℕ) → min (product (capped c ns)) c ≡ min (product ns) c
product_capped c [] = refl
product_capped c (n ∷ ns) =
    cap_left n (product (capped c ns)) c ∙ sym (cap_right n (product (capped c ns)) c) ∙ ap (λ m. min (n * m) c) (product_capped c ns) ∙ cap_right n (product ns) c

branch_capped : (c : ℕ) (ns : List ℕ) → min (branch_paths (capped c ns)) c ≡ min (branch_paths ns) c
branch_capped c [] = product_capped c []
branch_capped c (p ∷ []) = product_capped c (p ∷ [])
branch_capped c (p ∷ x ∷ []) = product_capped c (p ∷ x ∷ [])
branch_capped c (p ∷ x ∷ y ∷ []) =
    let sums : min (min x c + min y c) c ≡ min (x + y) c = omega arith in
    cap_left p (min x c + min y c) c ∙ sym (cap_right p (min x c + min y c) c) ∙ ap (λ m. min (p * m) c) sums ∙ cap_right p (x + y) c
branch_capped c (p ∷ x ∷ y ∷ z ∷ ns) = product_capped c (p ∷ x ∷ y ∷ z ∷ ns)

pub call_capped : (f : Name) (c : ℕ) (ns : List ℕ) → min (call_paths f (capped c ns)) c ≡ min (call_paths f ns) c
call_capped f c ns = by_name (bytes_eq f (codes "IF"))
  where
    by_name : (b : Bool) → min (if b then branch_paths (capped c ns) else product (capped c ns)) c ≡ min (if b then branch_paths ns else product ns) c
    by_name true = branch_capped c ns
    by_name false = product_capped c ns

-- a product goes on from its first factors
product_append : (ns : List ℕ) (n : ℕ) → product (ns ++ (n ∷ [])) ≡ product ns * n
product_append [] n = mul-one n ∙ sym (one-mul n)
product_append (m ∷ ns) n = ap (λ k. m * k) (product_append ns n) ∙ sym (mul_assoc m (product ns) n)

pub product_on : (c : ℕ) (ns : List ℕ) (n so_far : ℕ) → so_far ≡ min (product ns) c → min (so_far * n) c ≡ min (product (ns ++ (n ∷ []))) c
product_on c ns n so_far e = ap (λ m. min (m * n) c) e ∙ cap_left (product ns) n c ∙ ap (λ m. min m c) (sym (product_append ns n))

-- an IF of three counts
pub three_branches : (c : ℕ) (ns : List ℕ) (d : ℕ) → length ns ≡ 3 → min (get_or ns 0 d * min (get_or ns 1 d + get_or ns 2 d) c) c ≡ min (branch_paths ns) c
three_branches c [] d e = absurd (omega (arith, e))
three_branches c (p ∷ []) d e = absurd (omega (arith, e))
three_branches c (p ∷ x ∷ []) d e = absurd (omega (arith, e))
three_branches c (p ∷ x ∷ y ∷ []) d e = cap_right p (x + y) c
three_branches c (p ∷ x ∷ y ∷ z ∷ ns) d e = absurd (omega (arith, e))

pub other_branches : (ns : List ℕ) → (length ns ≡ 3 → ⊥) → branch_paths ns ≡ product ns
other_branches [] n = refl
other_branches (p ∷ []) n = refl
other_branches (p ∷ x ∷ []) n = refl
other_branches (p ∷ x ∷ y ∷ []) n = absurd (n refl)
other_branches (p ∷ x ∷ y ∷ z ∷ ns) n = refl

-- the counts of the terms
abbrev pub counts_of : ℕ → List Term → List ℕ
counts_of c ts = capped c (map paths_of ts)

counts_push : (c : ℕ) (ts : List Term) (t : Term) → counts_of c (ts ++ (t ∷ [])) ≡ counts_of c ts ++ (min (paths_of t) c ∷ [])
counts_push c [] t = refl
counts_push c (u ∷ ts) t = ap (λ ns. min (paths_of u) c ∷ ns) (counts_push c ts t)

pub counts_more : (c : ℕ) (ts : List Term) (ids : List TermId) (i : ℕ) (d : TermId) (before after : List ℕ) (here : ℕ) → i < length ids → before ≡ counts_of c (terms_from ts (take i ids)) → here ≡ min (paths_of (term_from ts (get_or ids i d))) c → after ≡ before ++ (here ∷ []) → after ≡ counts_of c (terms_from ts (take (i + 1) ids))
counts_more c ts ids i d before after here below was is e =
    e ∙ ap (λ ns. ns ++ (here ∷ [])) was ∙ ap (λ n. counts_of c (terms_from ts (take i ids)) ++ (n ∷ [])) is ∙
    sym (ap (counts_of c) (terms_from-take ts ids i d below) ∙ counts_push c (terms_from ts (take i ids)) (term_from ts (get_or ids i d)))

pub counts_kept : (bank : Content) (c : ℕ) (old new : KnownCounts) (t : TermId) (count : ℕ) → HasCounts bank c old → Stands bank t → Updates nat_eq old new t.0 (Some count) → count ≡ min (paths_of (term_at bank t)) c → HasCounts bank c new
counts_kept bank c old new t count h stands updates is =
    record {
      right = λ q b found.
          elim (kept_or_stood old new t.0 q.0 count b updates found) [
            | inl here ↦ sym here.1 ∙ is ∙ ap (λ k. min (paths_of (term_at bank (record { 0 = k }))) c) here.0
            | inr there ↦ h.right q b there
          ];
      stand = λ q b found.
          elim (kept_or_stood old new t.0 q.0 count b updates found) [
            | inl here ↦ subst (λ k. k < length bank.terms) here.0 stands
            | inr there ↦ h.stand q b there
          ];
    }

-- the counts of a bank are those of one that grew
pub counts_grown : (old new : Content) (c : ℕ) (known : KnownCounts) → Grows old new → HasCounts old c known → HasCounts new c known
counts_grown old new c known grows h =
    record {
      right = λ q b found. h.right q b found ∙ ap (λ t. min (paths_of t) c) (sym (term_at-grown old new q grows (h.stand q b found)));
      stand = λ q b found. Stands-grown old new q grows (h.stand q b found);
    }

-- the count of all arguments is that of the call
pub counts_whole : (bank : Content) (c : ℕ) (term : Term) (f : Name) (ids : List TermId) (i : ℕ) (counts : List ℕ) (count : ℕ) → term ≡ call f (parts_of term) → terms_at bank ids ≡ parts_of term → length ids ≤ i → counts ≡ counts_of c (terms_at bank (take i ids)) → count ≡ min (call_paths f counts) c → count ≡ min (paths_of term) c
counts_whole bank c term f ids i counts count is tells all so_far e =
    e ∙ ap (λ ns. min (call_paths f ns) c) (so_far ∙ ap (λ xs. counts_of c (terms_at bank xs)) (take_all i ids all) ∙ ap (counts_of c) tells) ∙ call_capped f c (map paths_of (parts_of term)) ∙
    ap (λ n. min n c) (sym (call_paths_are f (parts_of term)) ∙ sym (ap paths_of is))

pub paths_of_variable : (x : Name) → paths_of (Variable x) ≡ 1
unfolding paths_before
paths_of_variable x = refl

pub paths_of_numeral : (n : ℕ) → paths_of (numeral n) ≡ 1
unfolding paths_before numeral
paths_of_numeral zero = refl
paths_of_numeral (suc n) = mul-one (paths_of (numeral n)) ∙ paths_of_numeral n

pub one_capped : (t : Term) (c : ℕ) → 1 ≤ c → paths_of t ≡ 1 → 1 ≡ min (paths_of t) c
one_capped t c h e = omega (arith, h, e)

take_more : (ns : List ℕ) (i d : ℕ) → i < length ns → take (i + 1) ns ≡ take i ns ++ (get_or ns i d ∷ [])
take_more ns i d h = let e : suc i ≡ i + 1 = omega arith in subst (λ k. take k ns ≡ take i ns ++ (get_or ns i d ∷ [])) e (take-suc ns i d h)

-- one more factor
pub product_more : (c : ℕ) (ns : List ℕ) (i d so_far : ℕ) → i < length ns → so_far ≡ min (product (take i ns)) c → min (so_far * get_or ns i d) c ≡ min (product (take (i + 1) ns)) c
product_more c ns i d so_far h e = product_on c (take i ns) (get_or ns i d) so_far e ∙ ap (λ ms. min (product ms) c) (sym (take_more ns i d h))
