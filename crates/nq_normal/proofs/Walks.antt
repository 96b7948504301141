-- Open occurrences in a call are itself and those in its arguments.
use Rattle.std.proofs.Common.{◌≡◌, ℕ, ◌+◌, ◌<◌, ◌≤◌, Bool, true, false, ◌||◌, Some, List, [], ◌∷◌, ◌++◌, length, get_or, take, refl, sym, ap, ap₂, ◌∙◌, inl, inr}
use Rattle.std.specs.Prelude.{nat_eq, if◌then◌else◌}
use Rattle.std.specs.List.{list_any}
use Rattle.std.proofs.lemmas.List.{take_all}
use Rattle.std.specs.HashMap.{Updates}
use Rattle.nq_logic.specs.Terms.{Name, Term, Variable, Function, Applied, applied, call}
use Rattle.nq_logic.specs.Words.{numeral}
use Rattle.nq_logic.specs.Numerals.{is_numeral, numeral_limit}
use Rattle.nq_logic.specs.Values.{is_value, is_tree_value}
use Rattle.nq_bank.specs.declared.node.TermId.{TermId}
use Rattle.nq_bank.specs.Parts.{parts_of}
use Rattle.nq_bank.specs.Content.{Content, term_at, terms_at, term_from, terms_from}
use Rattle.nq_bank.proofs.ArgumentLemmas.{terms_from-take}
use Rattle.nq_bank.proofs.Numerals.{number_of-numeral}
use Rattle.nq_clause.proofs.Lookups.{kept_or_stood}
use Rattle.std.specs.Prelude.{is_some}
use Rattle.nq_goals.specs.Occurrences.{open_terms, open_inner}
use Rattle.nq_normal.specs.Sought.{has_open, Answers, HasAnswers}

or_false : (b : Bool) → (b || false) ≡ b
or_false true = refl
or_false false = refl

or_assoc : (a b d : Bool) → ((a || b) || d) ≡ (a || (b || d))
or_assoc true b d = refl
or_assoc false b d = refl

pub any_joined : {X : Type 0} (test : X → Bool) (xs ys : List X) → list_any test (xs ++ ys) ≡ (list_any test xs || list_any test ys)
any_joined test [] ys = refl
any_joined test (x ∷ xs) ys = ap (λ b. test x || b) (any_joined test xs ys) ∙ sym (or_assoc (test x) (list_any test xs) (list_any test ys))

-- a numeral of a bank is a value
pub numeral_value : (n : ℕ) → n < numeral_limit → is_value (numeral n) ≡ true
numeral_value n l = either_true (is_numeral (numeral n)) (is_tree_value (numeral n)) (ap is_some (number_of-numeral n l))
  where
    either_true : (a b : Bool) → a ≡ true → (a || b) ≡ true
    either_true true b e = refl
    either_true false b e = cc

module _ (test : Term → Bool) where
  abbrev pub any_open : List Term → Bool
  any_open [] = false
  any_open (t ∷ ts) = has_open test t || any_open ts

  inner_applied : (t : Term) (us : List Term) → list_any test (open_inner (applied t us)) ≡ (list_any test (open_inner t) || any_open us)
  unfolding has_open
  inner_applied t [] = sym (or_false (list_any test (open_inner t)))
  inner_applied t (u ∷ us) =
      inner_applied (Applied t u) us
      ∙ (ap (λ b. b || any_open us) (any_joined test (open_inner t) (open_terms u)) ∙ or_assoc (list_any test (open_inner t)) (list_any test (open_terms u)) (any_open us))

  unless_shut : (b : Bool) (t : Term) (inner : List Term) → b ≡ false → list_any test (if b then [] else t ∷ inner) ≡ (test t || list_any test inner)
  unless_shut true t inner e = cc
  unless_shut false t inner e = refl

  shut : (b : Bool) (t : Term) (inner : List Term) → b ≡ true → list_any test (if b then [] else t ∷ inner) ≡ false
  shut true t inner e = refl
  shut false t inner e = cc

  -- a value has none
  pub open_value : (t : Term) → is_value t ≡ true → has_open test t ≡ false
  unfolding has_open
  open_value t e = shut (is_value t) t (open_inner t) e

  -- a variable is no value
  pub open_variable : (t : Term) (x : Name) → is_value t ≡ false → t ≡ Variable x → has_open test t ≡ test t
  unfolding has_open
  open_variable t x v e = unless_shut (is_value t) t (open_inner t) v ∙ (ap (λ z. test t || list_any test (open_inner z)) e ∙ or_false (test t))

  pub open_numeral : (n : ℕ) → n < numeral_limit → has_open test (numeral n) ≡ false
  open_numeral n l = open_value (numeral n) (numeral_value n l)

  -- a call that is no value
  pub open_in_call : (t : Term) (f : Name) (us : List Term) → is_value t ≡ false → t ≡ call f us → has_open test t ≡ (test t || any_open us)
  unfolding has_open
  open_in_call t f us v e =
      unless_shut (is_value t) t (open_inner t) v ∙ ap (λ b. test t || b) (ap (λ z. list_any test (open_inner z)) e ∙ inner_applied (Function f) us)

  any_push : (ts : List Term) (t : Term) → any_open (ts ++ (t ∷ [])) ≡ (any_open ts || has_open test t)
  any_push [] t = or_false (has_open test t)
  any_push (u ∷ ts) t = ap (λ b. has_open test u || b) (any_push ts t) ∙ sym (or_assoc (has_open test u) (any_open ts) (has_open test t))

  -- one more argument
  pub any_more : (ts : List Term) (ids : List TermId) (i : ℕ) (d : TermId) (own before here : Bool) → i < length ids → before ≡ (own || any_open (terms_from ts (take i ids))) →
      here ≡ has_open test (term_from ts (get_or ids i d)) → (before || here) ≡ (own || any_open (terms_from ts (take (i + 1) ids)))
  any_more ts ids i d own before here below was is =
      ap₂ (λ a b. a || b) was is
      ∙ (or_assoc own (any_open (terms_from ts (take i ids))) (has_open test (term_from ts (get_or ids i d)))
      ∙ ap (λ b. own || b) (sym (ap any_open (terms_from-take ts ids i d below) ∙ any_push (terms_from ts (take i ids)) (term_from ts (get_or ids i d)))))

  -- all arguments
  pub any_all : (bank : Content) (t : Term) (f : Name) (ids : List TermId) (i : ℕ) (answer : Bool) → is_value t ≡ false → t ≡ call f (parts_of t) → terms_at bank ids ≡ parts_of t → length ids ≤ i →
      answer ≡ (test t || any_open (terms_at bank (take i ids))) → answer ≡ has_open test t
  any_all bank t f ids i answer v is tells all so_far =
      so_far ∙ (ap (λ xs. test t || any_open (terms_at bank xs)) (take_all i ids all) ∙ (ap (λ us. test t || any_open us) tells ∙ sym (open_in_call t f (parts_of t) v is)))

  -- an answer that is kept is right
  pub answers_kept : (bank : Content) (old new : Answers) (t : TermId) (answer : Bool) → HasAnswers bank test old → Updates nat_eq old new t.0 (Some answer) → answer ≡ has_open test (term_at bank t) →
      HasAnswers bank test new
  answers_kept bank old new t answer a updates is =
      record {
        right = λ q b found.
            elim (kept_or_stood old new t.0 q.0 answer b updates found) [
              | inl here ↦ sym here.1 ∙ is ∙ ap (λ k. has_open test (term_at bank (record { 0 = k }))) here.0
              | inr there ↦ a.right q b there
            ];
      }
