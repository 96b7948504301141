-- Terms that have no value by the table.
use Rattle.std.proofs.Common.{◌≡◌, ℕ, zero, suc, ◌<◌, Bool, true, false, ◌&&◌, Option, Some, None, List, [], ◌∷◌, refl, sym, ap, ◌∙◌, arith}
use Rattle.std.specs.Prelude.{All, not, is_some}
use Rattle.std.proofs.lemmas.List.Elements.{All-cons, All-nil}
use Rattle.nq_logic.specs.Terms.{Term, Function, call}
use Rattle.nq_logic.specs.Words.{numeral}
use Rattle.nq_logic.specs.Numerals.{numeral_limit, is_numeral}
use Rattle.nq_logic.specs.Values.{is_value}
use Rattle.nq_bank.specs.declared.node.TermId.{TermId}
use Rattle.nq_bank.specs.Content.{Content, term_at, terms_at}
use Rattle.nq_bank.specs.Parts.{parts_of}
use Rattle.nq_bank.proofs.Numerals.{number_of-numeral}
use Rattle.nq_proof.specs.Values.{value_of, row_named, rows_of_one, rows_of_two, rows_of_three, only_if}
use Rattle.nq_value.proofs.TableLemmas.{value_of-many}

-- a call is that of its arguments
pub same_call : (t : Term) (f : List ℕ) (ts : List Term) → t ≡ call f (parts_of t) → ts ≡ parts_of t → t ≡ call f ts
same_call t f ts is parts = is ∙ ap (call f) (sym parts)

numeral_one : (b c : Bool) (t : Term) → c ≡ true → elim b as (λ b. Option Term) [ false ↦ None | true ↦ only_if (not c) t ] ≡ None
numeral_one b false t e = absurd cc
numeral_one false true t e = refl
numeral_one true true t e = refl

-- a numeral has no row
pub value_of-numeral : (n : ℕ) → n < numeral_limit → value_of (numeral n) ≡ None
unfolding numeral
value_of-numeral zero below = refl
value_of-numeral (suc n) below =
    numeral_one (is_value (numeral n)) (is_numeral (numeral n)) (numeral 1) (ap is_some (number_of-numeral n (omega arith)))

unless : (b : Bool) (o : Option Term) → b ≡ false → elim b as (λ b. Option Term) [ false ↦ None | true ↦ o ] ≡ None
unless true o e = absurd cc
unless false o e = refl

untrue : (b : Bool) → (b ≡ true → ⊥) → b ≡ false
untrue true h = absurd (h refl)
untrue false h = refl

both_true : (a b : Bool) → (a && b) ≡ true → (a ≡ true) × (b ≡ true)
both_true true b e = (refl, e)
both_true false b e = absurd cc

abbrev pub IsValueAt : Content → TermId → Type 0
IsValueAt bank t = is_value (term_at bank t) ≡ true

module _ (bank : Content) (f : List ℕ) where
  -- nor has a call on terms that are not all values
  pub no_values : (ids : List TermId) → (All (IsValueAt bank) ids → ⊥) → value_of (call f (terms_at bank ids)) ≡ None
  no_values [] h = refl
  no_values (a ∷ []) h =
      unless (is_value (term_at bank a)) (elim (row_named (Function f) rows_of_one) as (λ o. Option Term) [ None ↦ None | Some row ↦ row (term_at bank a) ])
      (untrue (is_value (term_at bank a)) (λ e. h (All-cons (IsValueAt bank) a [] e (All-nil (IsValueAt bank)))))
  no_values (a ∷ (b ∷ [])) h =
      let x = is_value (term_at bank a) in
      let y = is_value (term_at bank b) in
      unless (x && y) (elim (row_named (Function f) rows_of_two) as (λ o. Option Term) [ None ↦ None | Some row ↦ row (term_at bank a) (term_at bank b) ])
      (untrue (x && y) (λ e. let both = both_true x y e in h (All-cons (IsValueAt bank) a (b ∷ []) both.0 (All-cons (IsValueAt bank) b [] both.1 (All-nil (IsValueAt bank))))))
  no_values (a ∷ (b ∷ (d ∷ []))) h =
      let x = is_value (term_at bank a) in
      let y = is_value (term_at bank b) in
      let z = is_value (term_at bank d) in
      unless (x && y && z) (elim (row_named (Function f) rows_of_three) as (λ o. Option Term) [ None ↦ None | Some row ↦ row (term_at bank a) (term_at bank b) (term_at bank d) ])
      (untrue (x && y && z) (λ e.
      let most = both_true (x && y) z e in
      let both = both_true x y most.0 in
      h (All-cons (IsValueAt bank) a (b ∷ (d ∷ [])) both.0 (All-cons (IsValueAt bank) b (d ∷ []) both.1 (All-cons (IsValueAt bank) d [] most.1 (All-nil (IsValueAt bank)))))))
  no_values (a ∷ (b ∷ (d ∷ (e ∷ ids)))) h =
      value_of-many (Function f) (term_at bank a) (term_at bank b) (term_at bank d) (term_at bank e) (terms_at bank ids)
