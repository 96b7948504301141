-- Values by their kinds.
use Rattle.std.proofs.Common.{◌≡◌, ℕ, ◌<◌, ◌≤◌, Bool, true, false, ◌&&◌, ◌||◌, None, List, [], ◌∷◌, length, refl, sym, ap, ◌∙◌, subst, arith}
use Rattle.std.specs.Prelude.{All, bytes_eq, codes, slice_index_or}
use Rattle.nq_logic.specs.Terms.{Term, Variable, Function, Applied, call}
use Rattle.nq_logic.specs.Words.{call1, call2, false_term}
use Rattle.nq_logic.specs.Numerals.{number_of, is_numeral}
use Rattle.nq_logic.specs.Values.{is_tree_value, is_value, is_value_call}
use Rattle.nq_bank.specs.declared.node.TermId.{TermId}
use Rattle.nq_bank.specs.Content.{Content, Stands, term_at, terms_at}
use Rattle.nq_bank.specs.Parts.{parts_of}
use Rattle.nq_bank.proofs.Numerals.{is_value-other}
use Rattle.nq_bank.proofs.NodesLemmas.{All-head, All-tail}
use Rattle.nq_bank.proofs.Texts.{bytes_eq-true}
use Rattle.nq_value.specs.Objects.{DenotesValue}
use Rattle.nq_proof.proofs.Tests.{and_left, and_right}

pub no_variable : (t : Term) (x : List ℕ) → t ≡ Variable x → is_value t ≡ true → ⊥
unfolding number_of is_tree_value
no_variable t x is value = absurd (let e = sym (ap is_value is) ∙ value in cc)

-- the number of no variable
pub number_of-variable : (x : List ℕ) → None ≡ number_of (Variable x)
unfolding number_of
number_of-variable x = refl

-- a call that is a value and no numeral is one by its arguments
pub value_call : (t : Term) (f : List ℕ) (ts : List Term) → t ≡ call f (parts_of t) → number_of t ≡ None → ts ≡ parts_of t → is_value t ≡ true → is_value_call f ts ≡ true
value_call t f ts is none parts value =
    let same : t ≡ call f ts = is ∙ ap (call f) (sym parts) in
    sym (is_value-other f ts (sym (ap number_of same) ∙ none)) ∙ ap is_value (sym same) ∙ value

-- a test that fails leaves the other
other : (a b : Bool) → a ≡ false → a || b ≡ true → b ≡ true
other true b e h = absurd cc
other false b e h = h

other_and : (a b x y : Bool) → a ≡ false → a && b || x && y ≡ true → (x ≡ true) × (y ≡ true)
other_and true b x y e h = absurd cc
other_and false b x y e h = (and_left x y h, and_right x y h)

or_nothing : (b : Bool) → b || false ≡ true → b ≡ true
or_nothing true h = refl
or_nothing false h = absurd cc

-- a numeral is a value
numeral_value : (t : Term) → is_numeral t ≡ true → is_value t ≡ true
numeral_value t e = rw e refl

module _ (bank : Content) (f : List ℕ) where
  pub falsity : (ids : List TermId) → length ids < 1 → bytes_eq f (codes "TRUE") ≡ false → is_value_call f (terms_at bank ids) ≡ true → call f (terms_at bank ids) ≡ false_term
  falsity [] below fails value = ap Function (bytes_eq-true f (codes "FALSE") (other (bytes_eq f (codes "TRUE")) (bytes_eq f (codes "FALSE")) fails value))
  falsity (a ∷ ids) below fails value = absurd (omega arith)

  pub atom : (ids : List TermId) → 1 ≤ length ids → length ids < 2 → All (Stands bank) ids → bytes_eq f (codes "PACK") ≡ true → is_value_call f (terms_at bank ids) ≡ true →
      DenotesValue bank (slice_index_or ids 0 (record { 0 = 0 })) × (call f (terms_at bank ids) ≡ call1 "PACK" (term_at bank (slice_index_or ids 0 (record { 0 = 0 }))))
  atom [] least below stand is value = absurd (omega arith)
  atom (a ∷ []) least below stand is value =
      let name : f ≡ codes "PACK" = bytes_eq-true f (codes "PACK") is in
      let part = or_nothing (is_value (term_at bank a)) (subst (λ g. is_value_call g (term_at bank a ∷ []) ≡ true) name value) in
      (record { stands = All-head (Stands bank) a [] stand; value = part }, ap (λ g. Applied (Function g) (term_at bank a)) name)
  atom (a ∷ (b ∷ ids)) least below stand is value = absurd (omega arith)

  pub negative : (ids : List TermId) → 1 ≤ length ids → length ids < 2 → All (Stands bank) ids → bytes_eq f (codes "PACK") ≡ false → is_value_call f (terms_at bank ids) ≡ true →
      DenotesValue bank (slice_index_or ids 0 (record { 0 = 0 })) × (call f (terms_at bank ids) ≡ call1 "MINUS" (term_at bank (slice_index_or ids 0 (record { 0 = 0 }))))
  negative [] least below stand fails value = absurd (omega arith)
  negative (a ∷ []) least below stand fails value =
      let minus = other_and (bytes_eq f (codes "PACK")) (is_value (term_at bank a)) (bytes_eq f (codes "MINUS")) (is_numeral (term_at bank a)) fails value in
      (record { stands = All-head (Stands bank) a [] stand; value = numeral_value (term_at bank a) minus.1 }, ap (λ g. Applied (Function g) (term_at bank a)) (bytes_eq-true f (codes "MINUS") minus.0))
  negative (a ∷ (b ∷ ids)) least below stand fails value = absurd (omega arith)

  pub pair : (ids : List TermId) → 2 ≤ length ids → length ids < 3 → All (Stands bank) ids → is_value_call f (terms_at bank ids) ≡ true →
      DenotesValue bank (slice_index_or ids 0 (record { 0 = 0 })) × DenotesValue bank (slice_index_or ids 1 (record { 0 = 0 })) ×
      (call f (terms_at bank ids) ≡ call2 "CONS" (term_at bank (slice_index_or ids 0 (record { 0 = 0 }))) (term_at bank (slice_index_or ids 1 (record { 0 = 0 }))))
  pair [] least below stand value = absurd (omega arith)
  pair (a ∷ []) least below stand value = absurd (omega arith)
  pair (a ∷ (b ∷ [])) least below stand value =
      let is_cons = bytes_eq f (codes "CONS") in
      let first = is_value (term_at bank a) in
      let both = and_left (is_cons && first) (is_value (term_at bank b)) value in (
        record { stands = All-head (Stands bank) a (b ∷ []) stand; value = and_right is_cons first both },
        record { stands = All-head (Stands bank) b [] (All-tail (Stands bank) a (b ∷ []) stand); value = and_right (is_cons && first) (is_value (term_at bank b)) value },
        ap (λ g. Applied (Applied (Function g) (term_at bank a)) (term_at bank b)) (bytes_eq-true f (codes "CONS") (and_left is_cons first both)),
      )
  pair (a ∷ (b ∷ (d ∷ ids))) least below stand value = absurd (omega arith)
