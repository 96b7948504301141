-- Conclusions, AND parts and left sides.
use Rattle.std.proofs.Common.{◌≡◌, ◌+◌, ◌<◌, ◌≤◌, ℕ, zero, suc, Bool, true, false, ◌&&◌, ◌||◌, List, [], ◌∷◌, ◌++◌, length, get_or, drop, refl, sym, ap, ◌∙◌, add-one, drop-cons}
use Rattle.std.proofs.lemmas.List.{at_drop_all}
use Rattle.std.specs.Prelude.{bytes_eq, codes, not, if◌then◌else◌}
use Rattle.nq_logic.specs.Terms.{Name, Term, Variable, Function, Applied, applied, call}
use Rattle.nq_logic.specs.Words.{numeral}
use Rattle.nq_logic.specs.Names.{has_name}
use Rattle.nq_logic.specs.RuleShapes.{is_call, left_side, and_parts, rule_parts, supposing, is_function_named, is_rewritable, are_rewritable, calls_another, plain_functions}
use Rattle.nq_bank.specs.Parts.{parts_of}
use Rattle.nq_bank.specs.declared.node.TermId.{TermId}
use Rattle.nq_bank.specs.Content.{Content, term_at, terms_at}
use Rattle.nq_bank.proofs.Texts.{bytes_eq-true}
use Rattle.nq_rules.specs.Heads.{IsOneOf, IsNotOneOf, IsTwoOf, IsNotTwoOf}

or_false : (b : Bool) → (b || false) ≡ b
or_false true = refl
or_false false = refl

or_assoc : (a b d : Bool) → ((a || b) || d) ≡ (a || (b || d))
or_assoc true b d = refl
or_assoc false b d = refl

and_assoc : (a b d : Bool) → ((a && b) && d) ≡ (a && (b && d))
and_assoc true b d = refl
and_assoc false b d = refl

pub are_rewritable-append : (ps qs : List Term) → are_rewritable (ps ++ qs) ≡ (are_rewritable ps && are_rewritable qs)
are_rewritable-append [] qs = refl
are_rewritable-append (p ∷ ps) qs = ap (λ b. is_rewritable p && b) (are_rewritable-append ps qs) ∙ sym (and_assoc (is_rewritable p) (are_rewritable ps) (are_rewritable qs))

-- whether one of the terms holds a call of another function
abbrev pub any_calls_another : List Term → Bool
any_calls_another [] = false
any_calls_another (t ∷ ts) = calls_another t || any_calls_another ts

calls_another-applied : (t : Term) (us : List Term) → calls_another (applied t us) ≡ (calls_another t || any_calls_another us)
calls_another-applied t [] = sym (or_false (calls_another t))
calls_another-applied t (u ∷ us) = calls_another-applied (Applied t u) us ∙ or_assoc (calls_another t) (calls_another u) (any_calls_another us)

pub numeral_calls : (n : ℕ) → calls_another (numeral n) ≡ true
unfolding numeral
numeral_calls zero = refl
numeral_calls (suc n) = refl

pub call_is : (f : Name) (ts : List Term) → is_call (call f ts) ≡ true
call_is f ts = applied_is (Function f) ts
  where
    applied_is : (t : Term) (us : List Term) → is_call (applied t us) ≡ is_call t
    applied_is t [] = refl
    applied_is t (u ∷ us) = applied_is (Applied t u) us

pub numeral_is : (n : ℕ) → is_call (numeral n) ≡ true
unfolding numeral
numeral_is zero = refl
numeral_is (suc n) = refl

module _ (bank : Content) (ids : List TermId) where
  pub call_told : (g : Name) (t : Term) (answer : Bool) → t ≡ call g (parts_of t) → terms_at bank ids ≡ parts_of t → true ≡ has_name g plain_functions → answer ≡ any_calls_another (terms_at bank ids) → answer ≡ calls_another t
  call_told g t answer is tells plain told =
      told ∙ ap any_calls_another tells ∙ ap (λ b. not b || any_calls_another (parts_of t)) plain ∙
      sym (ap calls_another is ∙ calls_another-applied (Function g) (parts_of t))

  pub another_told : (g : Name) (t : Term) → t ≡ call g (parts_of t) → false ≡ has_name g plain_functions → true ≡ calls_another t
  another_told g t is plain = ap (λ b. not b || any_calls_another (parts_of t)) plain ∙ sym (ap calls_another is ∙ calls_another-applied (Function g) (parts_of t))

  pub calls_here : (i : ℕ) (d : TermId) → i < length ids → calls_another (term_at bank (get_or ids i d)) ≡ true → any_calls_another (terms_at bank (drop i ids)) ≡ any_calls_another (terms_at bank ids) → true ≡ any_calls_another (terms_at bank ids)
  calls_here i d below here so_far =
      sym (ap (λ b. b || any_calls_another (terms_at bank (drop (suc i) ids))) here) ∙ sym (ap (λ l. any_calls_another (terms_at bank l)) (drop-cons ids i d below)) ∙ so_far

  pub calls_further : (i : ℕ) (d : TermId) → i < length ids → calls_another (term_at bank (get_or ids i d)) ≡ false → any_calls_another (terms_at bank (drop i ids)) ≡ any_calls_another (terms_at bank ids) → any_calls_another (terms_at bank (drop (i + 1) ids)) ≡ any_calls_another (terms_at bank ids)
  calls_further i d below here so_far =
      rw add-one (sym (ap (λ b. b || any_calls_another (terms_at bank (drop (suc i) ids))) here) ∙ sym (ap (λ l. any_calls_another (terms_at bank l)) (drop-cons ids i d below)) ∙ so_far)

  pub none_calls : (i : ℕ) → length ids ≤ i → any_calls_another (terms_at bank (drop i ids)) ≡ any_calls_another (terms_at bank ids) → false ≡ any_calls_another (terms_at bank ids)
  none_calls i past so_far = sym (at_drop_all (λ l. any_calls_another (terms_at bank l)) ids i past) ∙ so_far

-- the conclusion of an implication, and of another term
module _ (bank : Content) (t : TermId) where
  pub under_hypothesis : (p q : TermId) → IsTwoOf bank (codes "IMPLIES") t p q → (rule_parts (term_at bank t)).conclusion ≡ (rule_parts (term_at bank q)).conclusion
  under_hypothesis p q is = ap (λ u. (rule_parts u).conclusion) is.whole

  named : (f g : Term) (p q : Term) (known : Name) → IsNotTwoOf bank known t → term_at bank t ≡ Applied (Applied f p) q → is_function_named known f ≡ false
  named f g p q known none e = by_head f (λ h. none.none p q (e ∙ ap (λ k. Applied (Applied k p) q) h))
    where
      by_test : (b : Bool) → (b ≡ true → ⊥) → b ≡ false
      by_test true h = absurd (h refl)
      by_test false h = refl

      by_head : (f : Term) → (f ≡ Function known → ⊥) → is_function_named known f ≡ false
      by_head (Variable x) h = refl
      by_head (Function k) h = by_test (bytes_eq known k) (λ e. h (ap Function (sym (bytes_eq-true known k e))))
      by_head (Applied a b) h = refl

  pub no_hypothesis : IsNotTwoOf bank (codes "IMPLIES") t → term_at bank t ≡ (rule_parts (term_at bank t)).conclusion
  no_hypothesis none = by_term (term_at bank t) refl
    where
      by_test : (b : Bool) (p q u : Term) → b ≡ false → u ≡ (if b then supposing (and_parts p) (rule_parts q) else record { hypotheses = []; conclusion = u }).conclusion
      by_test true p q u h = absurd cc
      by_test false p q u h = refl

      by_term : (u : Term) → term_at bank t ≡ u → u ≡ (rule_parts u).conclusion
      by_term (Variable x) e = refl
      by_term (Function f) e = refl
      by_term (Applied (Variable x) u) e = refl
      by_term (Applied (Function f) u) e = refl
      by_term (Applied (Applied f p) q) e = by_test (is_function_named (codes "IMPLIES") f) p q (Applied (Applied f p) q) (named f f p q (codes "IMPLIES") none e)

  pub both_parts : (p q : TermId) (a b : Bool) → IsTwoOf bank (codes "AND") t p q → a ≡ are_rewritable (and_parts (term_at bank p)) → b ≡ are_rewritable (and_parts (term_at bank q)) → (a && b) ≡ are_rewritable (and_parts (term_at bank t))
  both_parts p q a b is first second =
      ap (λ k. k && b) first ∙ ap (λ k. are_rewritable (and_parts (term_at bank p)) && k) second ∙
      sym (ap (λ u. are_rewritable (and_parts u)) is.whole ∙ are_rewritable-append (and_parts (term_at bank p)) (and_parts (term_at bank q)))

  pub first_refused : (p q : TermId) (a : Bool) → IsTwoOf bank (codes "AND") t p q → a ≡ are_rewritable (and_parts (term_at bank p)) → a ≡ false → a ≡ are_rewritable (and_parts (term_at bank t))
  first_refused p q a is first refused = refused ∙ sym (ap (λ k. k && are_rewritable (and_parts (term_at bank q))) refused) ∙ both_parts p q a (are_rewritable (and_parts (term_at bank q))) is first refl

  pub second_decides : (p q : TermId) (a b : Bool) → IsTwoOf bank (codes "AND") t p q → a ≡ are_rewritable (and_parts (term_at bank p)) → a ≡ true → b ≡ are_rewritable (and_parts (term_at bank q)) → b ≡ are_rewritable (and_parts (term_at bank t))
  second_decides p q a b is first agreed second = sym (ap (λ k. k && b) agreed) ∙ both_parts p q a b is first second

  pub one_part : (a : Bool) → IsNotTwoOf bank (codes "AND") t → a ≡ is_rewritable (term_at bank t) → a ≡ are_rewritable (and_parts (term_at bank t))
  one_part a none told = told ∙ sym (ap are_rewritable (alone none) ∙ and_true (is_rewritable (term_at bank t)))
    where
      and_true : (b : Bool) → (b && true) ≡ b
      and_true true = refl
      and_true false = refl

      by_test : (b : Bool) (p q u : Term) → b ≡ false → (if b then and_parts p ++ and_parts q else u ∷ []) ≡ u ∷ []
      by_test true p q u h = absurd cc
      by_test false p q u h = refl

      by_term : IsNotTwoOf bank (codes "AND") t → (u : Term) → term_at bank t ≡ u → and_parts u ≡ u ∷ []
      by_term none (Variable x) e = refl
      by_term none (Function f) e = refl
      by_term none (Applied (Variable x) u) e = refl
      by_term none (Applied (Function f) u) e = refl
      by_term none (Applied (Applied f p) q) e = by_test (is_function_named (codes "AND") f) p q (Applied (Applied f p) q) (named f f p q (codes "AND") none e)

      alone : IsNotTwoOf bank (codes "AND") t → and_parts (term_at bank t) ≡ term_at bank t ∷ []
      alone none = by_term none (term_at bank t) refl

  pub left_of_equation : (p q : TermId) → IsTwoOf bank (codes "EQUAL") t p q → term_at bank p ≡ left_side (term_at bank t)
  left_of_equation p q is = sym (ap left_side is.whole)

  pub left_of_denial : (p : TermId) → IsOneOf bank (codes "NOT") t p → term_at bank p ≡ left_side (term_at bank t)
  left_of_denial p is = sym (ap left_side is.whole)

  pub left_of_other : IsNotTwoOf bank (codes "EQUAL") t → IsNotOneOf bank (codes "NOT") t → term_at bank t ≡ left_side (term_at bank t)
  left_of_other two one = by_term (term_at bank t) refl
    where
      by_test : (b : Bool) (p u : Term) → b ≡ false → u ≡ (if b then p else u)
      by_test true p u h = absurd cc
      by_test false p u h = refl

      not_true : (b : Bool) → (b ≡ true → ⊥) → b ≡ false
      not_true true h = absurd (h refl)
      not_true false h = refl

      by_term : (u : Term) → term_at bank t ≡ u → u ≡ left_side u
      by_term (Variable x) e = refl
      by_term (Function f) e = refl
      by_term (Applied (Variable x) u) e = refl
      by_term (Applied (Function f) u) e = by_test (bytes_eq f (codes "NOT")) u (Applied (Function f) u) (not_true (bytes_eq f (codes "NOT")) (λ h. one.none u (e ∙ ap (λ g. Applied (Function g) u) (bytes_eq-true f (codes "NOT") h))))
      by_term (Applied (Applied f p) q) e = by_test (is_function_named (codes "EQUAL") f) p (Applied (Applied f p) q) (named f f p q (codes "EQUAL") two e)
