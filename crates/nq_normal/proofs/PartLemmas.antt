-- How parts of rules rewrite, by the number of their arguments.
use Rattle.std.proofs.Common.{◌≡◌, ℕ, zero, suc, ◌≤◌, ◌<◌, Bool, true, false, List, [], ◌∷◌, ◌++◌, length, refl, sym, ap, ◌∙◌, arith}
use Rattle.std.specs.Prelude.{bytes_eq, codes, if◌then◌else◌}
use Rattle.nq_logic.specs.Terms.{Name, Term, Variable, Function, Applied, applied, call}
use Rattle.nq_logic.specs.Words.{numeral}
use Rattle.nq_logic.specs.RuleShapes.{is_function_named, and_parts, rule_parts, supposing}
use Rattle.nq_bank.specs.declared.node.TermId.{TermId}
use Rattle.nq_bank.specs.Content.{Content, term_at, terms_at}
use Rattle.nq_goals.specs.Normal.{Everywhere, Literally, kind_of_equation, kind_of_part, is_without, plain_parts}
use Rattle.std.specs.List.{list_any}
use Rattle.nq_normal.proofs.AtomLemmas.{turned}

pub kind_numeral : (n : ℕ) → kind_of_part (numeral n) ≡ Literally
unfolding numeral
kind_numeral zero = refl
kind_numeral (suc n) = refl

pub kind_denied : (f : Name) (u : Term) → bytes_eq f (codes "NOT") ≡ true → kind_of_part (call f (u ∷ [])) ≡ Everywhere u
kind_denied f u e = ap (λ b. if b then Everywhere u else Literally) e

pub kind_unary : (f : Name) (u : Term) → bytes_eq f (codes "NOT") ≡ false → kind_of_part (call f (u ∷ [])) ≡ Literally
kind_unary f u e = ap (λ b. if b then Everywhere u else Literally) e

pub kind_equated : (f : Name) (l r : Term) → bytes_eq f (codes "EQUAL") ≡ true → kind_of_part (call f (l ∷ r ∷ [])) ≡ kind_of_equation l r
kind_equated f l r e = ap (λ b. if b then kind_of_equation l r else Literally) (turned f (codes "EQUAL") true e)

pub kind_binary : (f : Name) (l r : Term) → bytes_eq f (codes "EQUAL") ≡ false → kind_of_part (call f (l ∷ r ∷ [])) ≡ Literally
kind_binary f l r e = ap (λ b. if b then kind_of_equation l r else Literally) (turned f (codes "EQUAL") false e)

kind_more : (t u v w : Term) (us : List Term) → kind_of_part (applied (Applied (Applied (Applied t u) v) w) us) ≡ Literally
kind_more t u v w [] = refl
kind_more t u v w (s ∷ us) = kind_more (Applied t u) v w s us

pub kind_many : (bank : Content) (f : Name) (ids : List TermId) → 3 ≤ length ids → kind_of_part (call f (terms_at bank ids)) ≡ Literally
kind_many bank f [] l = absurd (omega (arith, l))
kind_many bank f (i ∷ []) l = absurd (omega (arith, l))
kind_many bank f (i ∷ j ∷ []) l = absurd (omega (arith, l))
kind_many bank f (i ∷ j ∷ k ∷ ids) l = kind_more (Function f) (term_at bank i) (term_at bank j) (term_at bank k) (terms_at bank ids)

-- AND parts
pub parts_numeral : (n : ℕ) → and_parts (numeral n) ≡ numeral n ∷ []
unfolding numeral
parts_numeral zero = refl
parts_numeral (suc n) = refl

pub parts_joined : (f : Name) (l r : Term) → bytes_eq f (codes "AND") ≡ true → and_parts (call f (l ∷ r ∷ [])) ≡ and_parts l ++ and_parts r
parts_joined f l r e = ap (λ b. if b then and_parts l ++ and_parts r else Applied (Applied (Function f) l) r ∷ []) (turned f (codes "AND") true e)

pub parts_binary : (f : Name) (l r : Term) → bytes_eq f (codes "AND") ≡ false → and_parts (call f (l ∷ r ∷ [])) ≡ call f (l ∷ r ∷ []) ∷ []
parts_binary f l r e = ap (λ b. if b then and_parts l ++ and_parts r else Applied (Applied (Function f) l) r ∷ []) (turned f (codes "AND") false e)

parts_more : (t u v w : Term) (us : List Term) → and_parts (applied (Applied (Applied (Applied t u) v) w) us) ≡ applied (Applied (Applied (Applied t u) v) w) us ∷ []
parts_more t u v w [] = refl
parts_more t u v w (s ∷ us) = parts_more (Applied t u) v w s us

pub parts_many : (bank : Content) (f : Name) (ids : List TermId) → 3 ≤ length ids → and_parts (call f (terms_at bank ids)) ≡ call f (terms_at bank ids) ∷ []
parts_many bank f [] l = absurd (omega (arith, l))
parts_many bank f (i ∷ []) l = absurd (omega (arith, l))
parts_many bank f (i ∷ j ∷ []) l = absurd (omega (arith, l))
parts_many bank f (i ∷ j ∷ k ∷ ids) l = parts_more (Function f) (term_at bank i) (term_at bank j) (term_at bank k) (terms_at bank ids)

-- hypotheses
pub plain_numeral : (n : ℕ) → plain_parts (rule_parts (numeral n)) ≡ and_parts (numeral n)
unfolding numeral
plain_numeral zero = refl
plain_numeral (suc n) = refl

some_left : (xs ys : List Term) → is_without xs ≡ false → is_without (xs ++ ys) ≡ false
some_left [] ys e = cc
some_left (x ∷ xs) ys e = refl

-- each term has an AND part
some_parts : (t : Term) → is_without (and_parts t) ≡ false
some_parts (Variable x) = refl
some_parts (Function f) = refl
some_parts (Applied (Variable x) u) = refl
some_parts (Applied (Function f) u) = refl
some_parts (Applied (Applied f t) u) = of_bool (is_function_named (codes "AND") f) (some_left (and_parts t) (and_parts u) (some_parts t))
  where
    of_bool : (b : Bool) → is_without (and_parts t ++ and_parts u) ≡ false → is_without (if b then and_parts t ++ and_parts u else Applied (Applied f t) u ∷ []) ≡ false
    of_bool true e = e
    of_bool false e = refl

pub plain_implies : (f : Name) (l r : Term) → bytes_eq f (codes "IMPLIES") ≡ true → plain_parts (rule_parts (call f (l ∷ r ∷ []))) ≡ []
plain_implies f l r e =
    ap (λ b. plain_parts (if b then supposing (and_parts l) (rule_parts r) else record { hypotheses = []; conclusion = Applied (Applied (Function f) l) r })) (turned f (codes "IMPLIES") true e)
    ∙ ap (λ b. if b then and_parts (rule_parts r).conclusion else []) (some_left (and_parts l) (rule_parts r).hypotheses (some_parts l))

pub plain_binary : (f : Name) (l r : Term) → bytes_eq f (codes "IMPLIES") ≡ false → plain_parts (rule_parts (call f (l ∷ r ∷ []))) ≡ and_parts (call f (l ∷ r ∷ []))
plain_binary f l r e =
    ap (λ b. plain_parts (if b then supposing (and_parts l) (rule_parts r) else record { hypotheses = []; conclusion = Applied (Applied (Function f) l) r })) (turned f (codes "IMPLIES") false e)

pub plain_told : (f : Name) (l r : Term) (b : Bool) → b ≡ bytes_eq f (codes "IMPLIES") → plain_parts (rule_parts (call f (l ∷ r ∷ []))) ≡ (if b then [] else and_parts (call f (l ∷ r ∷ [])))
plain_told f l r true e = plain_implies f l r (sym e)
plain_told f l r false e = plain_binary f l r (sym e)

plain_more : (t u v w : Term) (us : List Term) → plain_parts (rule_parts (applied (Applied (Applied (Applied t u) v) w) us)) ≡ and_parts (applied (Applied (Applied (Applied t u) v) w) us)
plain_more t u v w [] = refl
plain_more t u v w (s ∷ us) = plain_more (Applied t u) v w s us

pub plain_many : (bank : Content) (f : Name) (ids : List TermId) → 3 ≤ length ids → plain_parts (rule_parts (call f (terms_at bank ids))) ≡ and_parts (call f (terms_at bank ids))
plain_many bank f [] l = absurd (omega (arith, l))
plain_many bank f (i ∷ []) l = absurd (omega (arith, l))
plain_many bank f (i ∷ j ∷ []) l = absurd (omega (arith, l))
plain_many bank f (i ∷ j ∷ k ∷ ids) l = plain_more (Function f) (term_at bank i) (term_at bank j) (term_at bank k) (terms_at bank ids)

pub plain_one : (bank : Content) (f : Name) (ids : List TermId) → 1 ≤ length ids → length ids < 2 → plain_parts (rule_parts (call f (terms_at bank ids))) ≡ and_parts (call f (terms_at bank ids))
plain_one bank f [] l m = absurd (omega (arith, l))
plain_one bank f (i ∷ []) l m = refl
plain_one bank f (i ∷ j ∷ ids) l m = absurd (omega (arith, m))

pub kind_one : (bank : Content) (f : Name) (ids : List TermId) → 1 ≤ length ids → length ids < 2 → bytes_eq f (codes "NOT") ≡ false → kind_of_part (call f (terms_at bank ids)) ≡ Literally
kind_one bank f [] l m e = absurd (omega (arith, l))
kind_one bank f (i ∷ []) l m e = kind_unary f (term_at bank i) e
kind_one bank f (i ∷ j ∷ ids) l m e = absurd (omega (arith, m))

pub kind_two : (bank : Content) (f : Name) (ids : List TermId) → 2 ≤ length ids → length ids < 3 → bytes_eq f (codes "EQUAL") ≡ false → kind_of_part (call f (terms_at bank ids)) ≡ Literally
kind_two bank f [] l m e = absurd (omega (arith, l))
kind_two bank f (i ∷ []) l m e = absurd (omega (arith, l))
kind_two bank f (i ∷ j ∷ []) l m e = kind_binary f (term_at bank i) (term_at bank j) e
kind_two bank f (i ∷ j ∷ k ∷ ids) l m e = absurd (omega (arith, m))

pub parts_one : (bank : Content) (f : Name) (ids : List TermId) → 1 ≤ length ids → length ids < 2 → and_parts (call f (terms_at bank ids)) ≡ call f (terms_at bank ids) ∷ []
parts_one bank f [] l m = absurd (omega (arith, l))
parts_one bank f (i ∷ []) l m = refl
parts_one bank f (i ∷ j ∷ ids) l m = absurd (omega (arith, m))

pub parts_two : (bank : Content) (f : Name) (ids : List TermId) → 2 ≤ length ids → length ids < 3 → bytes_eq f (codes "AND") ≡ false → and_parts (call f (terms_at bank ids)) ≡ call f (terms_at bank ids) ∷ []
parts_two bank f [] l m e = absurd (omega (arith, l))
parts_two bank f (i ∷ []) l m e = absurd (omega (arith, l))
parts_two bank f (i ∷ j ∷ []) l m e = parts_binary f (term_at bank i) (term_at bank j) e
parts_two bank f (i ∷ j ∷ k ∷ ids) l m e = absurd (omega (arith, m))

pub plain_two : (bank : Content) (f : Name) (ids : List TermId) (b : Bool) → 2 ≤ length ids → length ids < 3 → b ≡ bytes_eq f (codes "IMPLIES") →
    plain_parts (rule_parts (call f (terms_at bank ids))) ≡ (if b then [] else and_parts (call f (terms_at bank ids)))
plain_two bank f [] b l m e = absurd (omega (arith, l))
plain_two bank f (i ∷ []) b l m e = absurd (omega (arith, l))
plain_two bank f (i ∷ j ∷ []) b l m e = plain_told f (term_at bank i) (term_at bank j) b e
plain_two bank f (i ∷ j ∷ k ∷ ids) b l m e = absurd (omega (arith, m))

pub numeral_alone : (t : Term) (n : ℕ) → t ≡ numeral n → and_parts t ≡ t ∷ []
numeral_alone t n e = ap and_parts e ∙ (parts_numeral n ∙ ap (λ u. u ∷ []) (sym e))

pub numeral_plain : (t : Term) (n : ℕ) → t ≡ numeral n → plain_parts (rule_parts t) ≡ and_parts t
numeral_plain t n e = ap (λ u. plain_parts (rule_parts u)) e ∙ (plain_numeral n ∙ ap and_parts (sym e))

-- what no part does is done by none of those that are kept
pub none_kept : (test : Term → Bool) (kept : Bool) (ts : List Term) → list_any test ts ≡ false → false ≡ list_any test (if kept then ts else [])
none_kept test true ts none = sym none
none_kept test false ts none = refl
