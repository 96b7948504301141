-- Calls of one and of two arguments.
use Rattle.std.proofs.Common.{◌≡◌, ◌<◌, ◌≤◌, ◌+◌, ℕ, zero, suc, true, false, List, [], ◌∷◌, length, get_or, refl, sym, ap, ◌∙◌, arith}
use Rattle.std.proofs.lemmas.List.{length-map}
use Rattle.std.specs.Prelude.{bytes_eq, codes, All}
use Rattle.nq_logic.specs.Terms.{Name, Term, Variable, Function, Applied, applied, call}
use Rattle.nq_logic.specs.Words.{numeral}
use Rattle.nq_bank.specs.declared.node.TermId.{TermId}
use Rattle.nq_bank.specs.Content.{Content, term_at, terms_at}
use Rattle.nq_bank.proofs.Texts.{bytes_eq-true, eq-bytes_eq}
use Rattle.nq_rules.specs.Heads.{IsOneOf, IsNotOneOf, IsTwoOf, IsNotTwoOf}

-- the function at the head of a term, with the count of arguments
head_of : Term → Name
head_of (Variable x) = x
head_of (Function f) = f
head_of (Applied t u) = head_of t

count_of : Term → ℕ
count_of (Variable x) = 0
count_of (Function f) = 0
count_of (Applied t u) = suc (count_of t)

head_applied : (t : Term) (us : List Term) → head_of (applied t us) ≡ head_of t
unfolding head_of
head_applied t [] = refl
head_applied t (u ∷ us) = head_applied (Applied t u) us

count_applied : (t : Term) (us : List Term) → count_of (applied t us) ≡ count_of t + length us
unfolding count_of
count_applied t [] = omega arith
count_applied t (u ∷ us) = let ih = count_applied (Applied t u) us in omega (arith, ih)

module _ (bank : Content) (known f : Name) (t : TermId) (ids : List TermId) where
  no_head : (u : Term) → term_at bank t ≡ call f (terms_at bank ids) → bytes_eq f known ≡ false → head_of u ≡ known → term_at bank t ≡ u → ⊥
  unfolding head_of
  no_head u is other head e =
      let same : f ≡ known = sym (ap head_of (sym e ∙ is) ∙ head_applied (Function f) (terms_at bank ids)) ∙ head in
      let yes : bytes_eq f known ≡ true = eq-bytes_eq f known same in
      absurd cc

  no_count : (u : Term) (n : ℕ) → term_at bank t ≡ call f (terms_at bank ids) → count_of u ≡ n → term_at bank t ≡ u → length ids ≡ n
  unfolding count_of
  no_count u n is count e =
      let told : count_of (applied (Function f) (terms_at bank ids)) ≡ 0 + length (terms_at bank ids) = count_applied (Function f) (terms_at bank ids) in
      let long : length (terms_at bank ids) ≡ length ids = length-map ids (term_at bank) in
      let here : count_of (applied (Function f) (terms_at bank ids)) ≡ n = ap count_of (sym is ∙ e) ∙ count in
      omega arith

  pub no_two_named : term_at bank t ≡ call f (terms_at bank ids) → bytes_eq f known ≡ false → IsNotTwoOf bank known t
  unfolding head_of
  no_two_named is other = record { none = λ p q e. no_head (Applied (Applied (Function known) p) q) is other refl e }

  pub no_one_named : term_at bank t ≡ call f (terms_at bank ids) → bytes_eq f known ≡ false → IsNotOneOf bank known t
  unfolding head_of
  no_one_named is other = record { none = λ p e. no_head (Applied (Function known) p) is other refl e }

  pub no_two_counted : term_at bank t ≡ call f (terms_at bank ids) → (length ids ≡ 2 → ⊥) → IsNotTwoOf bank known t
  unfolding count_of
  no_two_counted is other = record { none = λ p q e. other (no_count (Applied (Applied (Function known) p) q) 2 is refl e) }

  pub no_one_counted : term_at bank t ≡ call f (terms_at bank ids) → (length ids ≡ 1 → ⊥) → IsNotOneOf bank known t
  unfolding count_of
  no_one_counted is other = record { none = λ p e. other (no_count (Applied (Function known) p) 1 is refl e) }

  pub two_counted : (d : TermId) → term_at bank t ≡ call f (terms_at bank ids) → bytes_eq f known ≡ true → 2 ≤ length ids → length ids < 3 → All (λ a. a.0 < t.0) ids → IsTwoOf bank known t (get_or ids 0 d) (get_or ids 1 d)
  two_counted d is same least most before = by_ids ids refl
    where
      by_ids : (xs : List TermId) → ids ≡ xs → IsTwoOf bank known t (get_or ids 0 d) (get_or ids 1 d)
      by_ids [] e = let short : length ids ≡ 0 = ap length e in absurd (omega arith)
      by_ids (a ∷ []) e = let short : length ids ≡ 1 = ap length e in absurd (omega arith)
      by_ids (a ∷ b ∷ []) e =
          record {
            whole = is ∙ ap (λ g. call g (terms_at bank ids)) (bytes_eq-true f known same) ∙ ap (λ xs. call known (terms_at bank xs)) e ∙ ap (λ xs. Applied (Applied (Function known) (term_at bank (get_or xs 0 d))) (term_at bank (get_or xs 1 d))) (sym e);
            left = before 0 d (omega arith);
            right = before 1 d (omega arith);
          }
      by_ids (a ∷ b ∷ (c ∷ xs)) e = let long : length ids ≡ suc (suc (suc (length xs))) = ap length e in absurd (omega arith)

  pub one_counted : (d : TermId) → term_at bank t ≡ call f (terms_at bank ids) → bytes_eq f known ≡ true → 1 ≤ length ids → length ids < 2 → All (λ a. a.0 < t.0) ids → IsOneOf bank known t (get_or ids 0 d)
  one_counted d is same least most before = by_ids ids refl
    where
      by_ids : (xs : List TermId) → ids ≡ xs → IsOneOf bank known t (get_or ids 0 d)
      by_ids [] e = let short : length ids ≡ 0 = ap length e in absurd (omega arith)
      by_ids (a ∷ []) e =
          record {
            whole = is ∙ ap (λ g. call g (terms_at bank ids)) (bytes_eq-true f known same) ∙ ap (λ xs. call known (terms_at bank xs)) e ∙ ap (λ xs. Applied (Function known) (term_at bank (get_or xs 0 d))) (sym e);
            before = before 0 d (omega arith);
          }
      by_ids (a ∷ (b ∷ xs)) e = let long : length ids ≡ suc (suc (length xs)) = ap length e in absurd (omega arith)

  pub two_named : (p q : TermId) → term_at bank t ≡ Applied (Applied (Function f) (term_at bank p)) (term_at bank q) → bytes_eq f known ≡ true → p.0 < t.0 → q.0 < t.0 → IsTwoOf bank known t p q
  two_named p q is same a b = record { whole = is ∙ ap (λ g. Applied (Applied (Function g) (term_at bank p)) (term_at bank q)) (bytes_eq-true f known same); left = a; right = b }

  pub one_named : (p : TermId) → term_at bank t ≡ Applied (Function f) (term_at bank p) → bytes_eq f known ≡ true → p.0 < t.0 → IsOneOf bank known t p
  one_named p is same a = record { whole = is ∙ ap (λ g. Applied (Function g) (term_at bank p)) (bytes_eq-true f known same); before = a }

-- a numeral is no call of two arguments
numeral_count : (n : ℕ) → count_of (numeral n) < 2
unfolding count_of numeral
numeral_count zero = omega arith
numeral_count (suc n) = omega arith

pub no_two_numeral : (bank : Content) (known : Name) (t : TermId) (n : ℕ) → term_at bank t ≡ numeral n → IsNotTwoOf bank known t
unfolding count_of
no_two_numeral bank known t n is =
    record {
      none = λ p q e.
          let few : count_of (numeral n) < 2 = numeral_count n in
          let two : count_of (numeral n) ≡ 2 = ap count_of (sym is ∙ e) in
          absurd (omega arith);
    }

-- a numeral is a call of ADD1 where it has an argument
numeral_head : (n : ℕ) → (count_of (numeral n) ≡ 1) → head_of (numeral n) ≡ codes "ADD1"
unfolding count_of head_of numeral
numeral_head zero e = absurd cc
numeral_head (suc n) e = refl

pub no_one_numeral : (bank : Content) (known : Name) (t : TermId) (n : ℕ) → (bytes_eq known (codes "ADD1") ≡ false) → term_at bank t ≡ numeral n → IsNotOneOf bank known t
unfolding count_of head_of
no_one_numeral bank known t n other is =
    record {
      none = λ p e.
          let one : count_of (numeral n) ≡ 1 = ap count_of (sym is ∙ e) in
          let same : known ≡ codes "ADD1" = sym (ap head_of (sym is ∙ e)) ∙ numeral_head n one in
          let yes : bytes_eq known (codes "ADD1") ≡ true = eq-bytes_eq known (codes "ADD1") same in
          absurd cc;
    }
