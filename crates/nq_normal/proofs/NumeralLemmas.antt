-- Which numerals hold a call that suggests an induction.
use Rattle.std.proofs.Common.{◌≡◌, ℕ, zero, suc, Bool, true, false, ◌||◌, not, List, [], ◌∷◌, ◌≤◌, length, get_or, drop, refl, sym, ap, ap₂, ◌∙◌, arith}
use Rattle.std.specs.Prelude.{◌≢◌, if◌then◌else◌, Some, codes}
use Rattle.nq_logic.specs.Terms.{Name, Term}
use Rattle.nq_logic.specs.Words.{numeral}
use Rattle.nq_logic.specs.Histories.{History, Definition}
use Rattle.nq_logic.specs.Names.{has_name}
use Rattle.nq_logic.specs.RuleShapes.{variables_of}
use Rattle.nq_logic.specs.Admissible.{matched}
use Rattle.nq_bank.specs.declared.node.Sym.{Sym}
use Rattle.nq_bank.specs.Content.{Content, text_at}
use Rattle.nq_bank.specs.Shells.{texts_at}
use Rattle.nq_bank.specs.Parts.{occurs}
use Rattle.nq_events.specs.Inductions.{definition_if, names_of, are_distinct_names, measured, suggests_by, suggests_of}
use Rattle.nq_event.proofs.DefinitionLemmas.{numeral_no_name}
use Rattle.nq_normal.specs.declared.numerals.Numerals.{Numerals}
use Rattle.nq_normal.specs.Suggesting.{has_suggesting, NumeralsSuggest}
use Rattle.nq_normal.proofs.OwnLemmas.{named_occurs}

or_false : (b : Bool) → (b || false) ≡ b
or_false true = refl
or_false false = refl

or_again : (a b : Bool) → (a || (a || b)) ≡ (a || b)
or_again true b = refl
or_again false b = refl

-- a numeral in the place of a formal is no variable
if_measured : (b : Bool) (n : ℕ) → not b ≡ are_distinct_names (names_of (if b then numeral n ∷ [] else []))
if_measured true n = sym (ap are_distinct_names (numeral_no_name n (Some [])))
if_measured false n = refl

pub suggests_without : (d : Definition) (m : Term) (n : ℕ) → d.formals ≡ [] → true ≡ suggests_by d (Some m) (numeral n ∷ [])
suggests_without d m n e = sym (ap (λ xs. are_distinct_names (names_of (measured (variables_of m) (matched xs (numeral n ∷ []))))) e)

pub suggests_with : (d : Definition) (m : Term) (x : Name) (xs : List Name) (b : Bool) (n : ℕ) → d.formals ≡ x ∷ xs → b ≡ occurs x m → not b ≡ suggests_by d (Some m) (numeral n ∷ [])
suggests_with d m x xs b n e o =
    ap not (o ∙ named_occurs x m)
    ∙ (if_measured (has_name x (variables_of m)) n ∙ (no_more (has_name x (variables_of m)) xs ∙ sym (ap (λ ys. are_distinct_names (names_of (measured (variables_of m) (matched ys (numeral n ∷ []))))) e)))
  where
    none_left : (ys : List Name) → matched ys [] ≡ []
    none_left [] = refl
    none_left (y ∷ ys) = refl

    no_more : (c : Bool) (ys : List Name) →
        are_distinct_names (names_of (if c then numeral n ∷ [] else [])) ≡ are_distinct_names (names_of (if c then numeral n ∷ measured (variables_of m) (matched ys []) else measured (variables_of m) (matched ys [])))
    no_more true ys = ap (λ s. are_distinct_names (names_of (numeral n ∷ measured (variables_of m) s))) (sym (none_left ys))
    no_more false ys = ap (λ s. are_distinct_names (names_of (measured (variables_of m) s))) (sym (none_left ys))

pub first_formal : (bank : Content) (formals : List Sym) (s : Sym) → 1 ≤ length formals → texts_at bank formals ≡ text_at bank (get_or formals 0 s) ∷ texts_at bank (drop 1 formals)
first_formal bank [] s l = absurd (omega (arith, l))
first_formal bank (f ∷ formals) s l = refl

-- ZERO of no argument
pub zero_by : (d : Definition) (m : Term) → true ≡ suggests_by d (Some m) []
zero_by d m = sym (ap (λ s. are_distinct_names (names_of (measured (variables_of m) s))) (none d.formals))
  where
    none : (ys : List Name) → matched ys [] ≡ []
    none [] = refl
    none (y ∷ ys) = refl

module _ (h : History) where
  zero_holds : has_suggesting h (numeral 0) ≡ suggests_of (definition_if h (Some (codes "ZERO"))) []
  unfolding has_suggesting numeral
  zero_holds = or_false (suggests_of (definition_if h (Some (codes "ZERO"))) [])

  more_holds : (n : ℕ) → has_suggesting h (numeral (suc n)) ≡ (suggests_of (definition_if h (Some (codes "ADD1"))) (numeral n ∷ []) || has_suggesting h (numeral n))
  unfolding has_suggesting numeral
  more_holds n = refl

  others_hold : (a z : Bool) → ((n : ℕ) → a ≡ suggests_of (definition_if h (Some (codes "ADD1"))) (numeral n ∷ [])) → z ≡ has_suggesting h (numeral 0) → (n : ℕ) → (a || z) ≡ has_suggesting h (numeral (suc n))
  others_hold a z is none zero = ap₂ (λ x y. x || y) (is 0) none ∙ sym (more_holds 0)
  others_hold a z is none (suc n) = sym (or_again a z) ∙ (ap₂ (λ x y. x || y) (is (suc n)) (others_hold a z is none n) ∙ sym (more_holds (suc n)))

  -- what ZERO and ADD1 say of all numerals
  pub numerals_told : (z a o : Bool) → z ≡ suggests_of (definition_if h (Some (codes "ZERO"))) [] → ((n : ℕ) → a ≡ suggests_of (definition_if h (Some (codes "ADD1"))) (numeral n ∷ [])) → o ≡ (a || z) →
      NumeralsSuggest h (record { zero = z; others = o })
  numerals_told z a o none is either =
      let zero_is : z ≡ has_suggesting h (numeral 0) = none ∙ sym zero_holds in
      record { none = zero_is; some = λ n. either ∙ others_hold a z is zero_is n }

  pub numeral_none : (numerals : Numerals) (n : ℕ) (t : Term) → NumeralsSuggest h numerals → t ≡ numeral n → n ≡ 0 → numerals.zero ≡ has_suggesting h t
  numeral_none numerals zero t k e z = k.none ∙ sym (ap (has_suggesting h) e)
  numeral_none numerals (suc n) t k e z = absurd (cc)

  pub numeral_some : (numerals : Numerals) (n : ℕ) (t : Term) → NumeralsSuggest h numerals → t ≡ numeral n → n ≢ 0 → numerals.others ≡ has_suggesting h t
  numeral_some numerals zero t k e other = absurd (other refl)
  numeral_some numerals (suc n) t k e other = k.some n ∙ sym (ap (has_suggesting h) e)
