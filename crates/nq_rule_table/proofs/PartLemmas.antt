-- Parts of a conclusion, the functions of their left sides, and what they say.
use Rattle.std.proofs.Common.{◌≡◌, ◌<◌, ◌≤◌, ℕ, Bool, true, false, ◌&&◌, List, [], ◌∷◌, ◌++◌, length, refl, sym, ap, ◌∙◌, arith}
use Rattle.std.specs.Prelude.{bytes_eq, codes, not, nat_eq, nat_lt, if◌then◌else◌, None, Some}
use Rattle.std.proofs.lemmas.Bool.{ltb-true, ltb-false, eqb-true}
use Rattle.nq_logic.specs.Terms.{Name, Term, Variable, Function, Applied, applied, call}
use Rattle.nq_logic.specs.Values.{is_value}
use Rattle.nq_logic.specs.RuleShapes.{left_side, and_parts, is_function_named}
use Rattle.nq_bank.specs.Soundness.{IsSound}
use Rattle.nq_bank.specs.declared.node.Sym.{Sym}
use Rattle.nq_bank.specs.declared.node.TermId.{TermId}
use Rattle.nq_bank.specs.Content.{Content, IsNamed, text_at, term_at}
use Rattle.nq_bank.proofs.SoundLemmas.{eqb-symbols}
use Rattle.nq_bank.proofs.Texts.{bytes_eq-true}
use Rattle.nq_rules.specs.Heads.{IsOneOf, IsNotOneOf, IsTwoOf, IsNotTwoOf}
use Rattle.nq_rule_table.specs.Rules.{is_about, is_about_name, is_call_of, is_it, says_true}

and_none : (b : Bool) → (b && false) ≡ false
and_none true = refl
and_none false = refl

not_true : (b : Bool) → (b ≡ true → ⊥) → b ≡ false
not_true true h = absurd (h refl)
not_true false h = refl

call_of : (f g : Name) (ts : List Term) → is_call_of f (call g ts) ≡ bytes_eq f g
call_of f g ts = through (Function g) ts
  where
    through : (t : Term) (us : List Term) → is_call_of f (applied t us) ≡ is_call_of f t
    through t [] = refl
    through t (u ∷ us) = through (Applied t u) us

-- the left side of a part
module _ (bank : Content) (g : Sym) (part left : Term) (is : left ≡ left_side part) where
  about_left : is_about bank g part ≡ (nat_lt g.0 (length bank.names) && (not (is_value left) && is_call_of (text_at bank g) left))
  about_left = ap (λ t. nat_lt g.0 (length bank.names) && (not (is_value t) && is_call_of (text_at bank g) t)) (sym is)

  pub value_about : is_value left ≡ true → is_about bank g part ≡ false
  value_about value = about_left ∙ ap (λ b. nat_lt g.0 (length bank.names) && (not b && is_call_of (text_at bank g) left)) value ∙ and_none (nat_lt g.0 (length bank.names))

  pub variable_about : (x : Name) → left ≡ Variable x → is_value left ≡ false → is_about bank g part ≡ false
  variable_about x variable other =
      about_left ∙ ap (λ b. nat_lt g.0 (length bank.names) && (not b && is_call_of (text_at bank g) left)) other
      ∙ ap (λ t. nat_lt g.0 (length bank.names) && is_call_of (text_at bank g) t) variable ∙ and_none (nat_lt g.0 (length bank.names))

  pub call_about : (f : Sym) (ts : List Term) → IsSound bank → IsNamed bank f → left ≡ call (text_at bank f) ts → is_value left ≡ false → is_about bank g part ≡ nat_eq g.0 f.0
  call_about f ts sound named is_call other =
      about_left ∙ ap (λ b. nat_lt g.0 (length bank.names) && (not b && is_call_of (text_at bank g) left)) other
      ∙ ap (λ t. nat_lt g.0 (length bank.names) && is_call_of (text_at bank g) t) is_call
      ∙ ap (λ b. nat_lt g.0 (length bank.names) && b) (call_of (text_at bank g) (text_at bank f) ts)
      ∙ by_number (nat_lt g.0 (length bank.names)) refl
    where
      by_number : (b : Bool) → nat_lt g.0 (length bank.names) ≡ b → (b && bytes_eq (text_at bank g) (text_at bank f)) ≡ nat_eq g.0 f.0
      by_number true e = sym (eqb-symbols bank g f sound (ltb-true g.0 (length bank.names) e) named)
      by_number false e = sym (not_true (nat_eq g.0 f.0) (λ same. let n = eqb-true g.0 f.0 same in let high = ltb-false g.0 (length bank.names) e in omega (arith, n, high, named)))

-- what a part says
module _ (bank : Content) (t : TermId) where
  pub equation_says : (p q : TermId) → IsTwoOf bank (codes "EQUAL") t p q → false ≡ says_true (term_at bank t)
  equation_says p q is = sym (ap says_true is.whole)

  pub denial_says : (p : TermId) → IsOneOf bank (codes "NOT") t p → false ≡ says_true (term_at bank t)
  denial_says p is = sym (ap says_true is.whole)

  named : (f : Term) (p q : Term) (known : Name) → IsNotTwoOf bank known t → term_at bank t ≡ Applied (Applied f p) q → is_function_named known f ≡ false
  named f p q known none e = by_head f (λ h. none.none p q (e ∙ ap (λ k. Applied (Applied k p) q) h))
    where
      by_head : (f : Term) → (f ≡ Function known → ⊥) → is_function_named known f ≡ false
      by_head (Variable x) h = refl
      by_head (Function k) h = not_true (bytes_eq known k) (λ e. h (ap Function (sym (bytes_eq-true known k e))))
      by_head (Applied a b) h = refl

  pub other_says : IsNotTwoOf bank (codes "EQUAL") t → IsNotOneOf bank (codes "NOT") t → true ≡ says_true (term_at bank t)
  other_says two one = by_term (term_at bank t) refl
    where
      by_term : (u : Term) → term_at bank t ≡ u → true ≡ says_true u
      by_term (Variable x) e = refl
      by_term (Function f) e = refl
      by_term (Applied (Variable x) u) e = refl
      by_term (Applied (Function f) u) e = sym (ap not (not_true (bytes_eq f (codes "NOT")) (λ h. one.none u (e ∙ ap (λ g. Applied (Function g) u) (bytes_eq-true f (codes "NOT") h)))))
      by_term (Applied (Applied f p) q) e = sym (ap not (named f p q (codes "EQUAL") two e))

  pub one_part : IsNotTwoOf bank (codes "AND") t → and_parts (term_at bank t) ≡ term_at bank t ∷ []
  one_part none = by_term (term_at bank t) refl
    where
      by_test : (b : Bool) (p q u : Term) → b ≡ false → (if b then and_parts p ++ and_parts q else u ∷ []) ≡ u ∷ []
      by_test true p q u h = absurd cc
      by_test false p q u h = refl

      by_term : (u : Term) → term_at bank t ≡ u → and_parts u ≡ u ∷ []
      by_term (Variable x) e = refl
      by_term (Function f) e = refl
      by_term (Applied (Variable x) u) e = refl
      by_term (Applied (Function f) u) e = refl
      by_term (Applied (Applied f p) q) e = by_test (is_function_named (codes "AND") f) p q (Applied (Applied f p) q) (named f p q (codes "AND") none e)

  pub two_parts : (p q : TermId) → IsTwoOf bank (codes "AND") t p q → and_parts (term_at bank t) ≡ and_parts (term_at bank p) ++ and_parts (term_at bank q)
  two_parts p q is = ap and_parts is.whole
