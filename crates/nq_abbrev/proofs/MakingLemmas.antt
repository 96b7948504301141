-- Terms of which abbreviations are made, and how deep their parts are.
use Rattle.std.proofs.Common.{◌≡◌, ℕ, zero, suc, ◌<◌, ◌≤◌, true, false, List, [], ◌∷◌, length, get_or, drop, refl, ap, sym, ◌∙◌, subst, drop-cons, ◌-◌, lit≤, arith}
use Rattle.std.specs.Prelude.{codes}
use Rattle.nq_logic.specs.Terms.{Term, call}
use Rattle.nq_logic.specs.Words.{call1, call2, numeral, numerals}
use Rattle.nq_logic.specs.Sizes.{depth_of, depth_limit, tree_depth}
use Rattle.nq_logic.specs.Numerals.{number_of}
use Rattle.nq_language.specs.Objects.{number_term, nil_term}
use Rattle.nq_bank.proofs.DeepLemmas.{deep_argument}

pub number_plain : (n : ℕ) → number_term false n ≡ numeral n
number_plain n = refl

pub number_below : (n : ℕ) → 0 < n → number_term true n ≡ call1 "MINUS" (numeral n)
number_below zero h = absurd (omega arith)
number_below (suc n) h = refl

pub number_zero : (n : ℕ) → n ≤ 0 → number_term true n ≡ numeral n
number_zero zero h = refl
number_zero (suc n) h = absurd (omega arith)

pub ruleset number_rules = (number_plain, number_below, number_zero)

-- a call of two with a part that is too deep
pub deep_first : (f : List ℕ) (t u : Term) → depth_limit < depth_of t → depth_limit < depth_of (call f (t ∷ u ∷ []))
deep_first f t u h = deep_argument f (t ∷ u ∷ []) 0 t (omega arith) h

pub deep_second : (f : List ℕ) (t u : Term) → depth_limit < depth_of u → depth_limit < depth_of (call f (t ∷ u ∷ []))
deep_second f t u h = deep_argument f (t ∷ u ∷ []) 1 t (omega arith) h

pub deep_only : (f : List ℕ) (t : Term) → depth_limit < depth_of t → depth_limit < depth_of (call f (t ∷ []))
deep_only f t h = deep_argument f (t ∷ []) 0 t (omega arith) h

-- NIL is not deep
pub nil_shallow : depth_limit < depth_of nil_term → ⊥
unfolding tree_depth number_of numeral
nil_shallow h = let small : depth_of nil_term ≤ 4000 = lit≤ tt in omega (arith, h, small)

pub codes_none : (name : List ℕ) → numeral 0 ≡ numerals (drop (length name) name)
unfolding numeral
codes_none [] = refl
codes_none (b ∷ name) = codes_none name

deep_codes_from : (k : ℕ) (name : List ℕ) → depth_limit < depth_of (numerals (drop k name)) → depth_limit < depth_of (numerals name)
deep_codes_from zero name h = h
deep_codes_from (suc k) [] h = h
deep_codes_from (suc k) (b ∷ name) h = deep_second (codes "CONS") (numeral b) (numerals name) (deep_codes_from k name h)

-- the codes from a place on, with the one before it
pub deep_codes : (name : List ℕ) (place n : ℕ) → 0 < place → place ≤ length name → n ≡ get_or name (place - 1) 0 → depth_limit < depth_of (call2 "CONS" (numeral n) (numerals (drop place name))) → depth_limit < depth_of (numerals name)
deep_codes name zero n lo hi is h = absurd (omega arith)
deep_codes name (suc k) n lo hi is h =
    let less : suc k - 1 ≡ k = omega arith in
    let here : k < length name = omega arith in
    let at : n ≡ get_or name k 0 = is ∙ ap (λ j. get_or name j 0) less in
    let same : call2 "CONS" (numeral n) (numerals (drop (suc k) name)) ≡ numerals (drop k name) = ap (λ j. call2 "CONS" (numeral j) (numerals (drop (suc k) name))) at ∙ sym (ap numerals (drop-cons name k 0 here)) in
    deep_codes_from k name (subst (λ (t : Term). depth_limit < depth_of t) same h)
