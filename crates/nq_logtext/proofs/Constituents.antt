-- Every word of a line is spelled by constituents, so that no byte of another kind stands in it.
use Rattle.std.proofs.Common.{◌≡◌, ℕ, ◌^◌, ◌<◌, ◌≤◌, Bool, true, false, nat_eq, List, [], ◌∷◌, ◌++◌, refl, subst, arith}
use Rattle.std.specs.Prelude.{decimal, ◌&&◌}
use Rattle.std.specs.List.{flat_map, list_all, AllByRecursion}
use Rattle.std.specs.Str.Parse.{AllDigits}
use Rattle.std.proofs.lemmas.Bool.{eqb-true}
use Rattle.std.proofs.lemmas.Bool.Decides.{nat_tests}
use Rattle.std.proofs.lemmas.Str.Parse.{digit_from_value}
use Rattle.std.proofs.lemmas.Fmt.{decimal_is_IsNumeral_wide}
use Rattle.nq_logtext.specs.declared.line.Sign.TheVariants.{Plus, Minus}
use Rattle.nq_logtext.specs.declared.line.Mode.TheVariants.{OneOf, NoneOf}
use Rattle.nq_logtext.specs.declared.line.Version.TheVariants.{First}
use Rattle.nq_logtext.specs.declared.word.Word.{Word}
use Rattle.nq_logtext.specs.declared.word.Word.TheVariants.{Header}
use Rattle.nq_logtext.specs.Symbols.{is_constituent}
use Rattle.nq_logtext.specs.Fields.{Field, number, numeral, name, path, sign, mode, version, text, path_text, Kind, of_number, of_numeral, of_name, of_path, of_sign, of_mode, of_version, IsOf, IsPlace}
use Rattle.nq_logtext.specs.Lines.{word_text}
use Rattle.nq_logtext.proofs.Cuts.{IsFree, is_false}

-- each byte is a constituent
abbrev AreConstituents : List ℕ → Type 0
AreConstituents w = list_all is_constituent w ≡ true

and_parts : (a b : Bool) → (a && b) ≡ true → (a ≡ true) × (b ≡ true)
and_parts true true e = (refl, refl)
and_parts true false e = absurd cc
and_parts false b e = absurd cc

both_true : (a b : Bool) → a ≡ true → b ≡ true → (a && b) ≡ true
both_true true true e f = refl
both_true true false e f = absurd cc
both_true false b e f = absurd cc

appended : (v w : List ℕ) → AreConstituents v → AreConstituents w → AreConstituents (v ++ w)
appended [] w f g = g
appended (b ∷ v) w f g =
    let each = and_parts (is_constituent b) (list_all is_constituent v) f in both_true (is_constituent b) (list_all is_constituent (v ++ w)) each.0 (appended v w each.1 g)

digit : (d : ℕ) → 48 ≤ d → d ≤ 57 → is_constituent d ≡ true
digit d low high = grind (arith, nat_tests)

digits : (ds : List ℕ) → AllDigits 10 ds → AreConstituents ds
digits [] h = refl
digits (d ∷ ds) h =
    let range = digit_from_value d h.0 in both_true (is_constituent d) (list_all is_constituent ds) (digit d (omega arith) (omega arith)) (digits ds h.1)

decimal_constituents : (n : ℕ) → n < 10 ^ 64 → AreConstituents (decimal n)
decimal_constituents n wide = digits (decimal n) (decimal_is_IsNumeral_wide n wide).0.1

pub small64 : (n : ℕ) → n < 2 ^ 64 → n < 10 ^ 64
small64 n lt = omega arith

pub small128 : (n : ℕ) → n < 2 ^ 128 → n < 10 ^ 64
small128 n lt = omega arith

places_constituents : (ps : List ℕ) → AllByRecursion IsPlace ps → AreConstituents (flat_map (λ p. 46 ∷ decimal p) ps)
places_constituents [] h = refl
places_constituents (p ∷ ps) h = appended (decimal p) (flat_map (λ q. 46 ∷ decimal q) ps) (decimal_constituents p (small64 p h.0.1)) (places_constituents ps h.1)

path_constituents : (ps : List ℕ) → AllByRecursion IsPlace ps → AreConstituents (path_text ps)
path_constituents [] h = refl
path_constituents (p ∷ ps) h = appended (decimal p) (flat_map (λ q. 46 ∷ decimal q) ps) (decimal_constituents p (small64 p h.0.1)) (places_constituents ps h.1)

field_constituents : (k : Kind) (f : Field) → IsOf k f → AreConstituents (text f)
field_constituents of_number (number n) h = decimal_constituents n (small64 n h)
field_constituents of_numeral (numeral n) h = decimal_constituents n (small128 n h)
field_constituents of_name (name w) h = (and_parts _ (list_all is_constituent w) h).1
field_constituents of_path (path ps) h = path_constituents ps h
field_constituents of_sign (sign Plus) h = refl
field_constituents of_sign (sign Minus) h = refl
field_constituents of_mode (mode OneOf) h = refl
field_constituents of_mode (mode NoneOf) h = refl
field_constituents of_version (version First) h = refl
field_constituents k f h = absurd h

word_constituents : (w : Word) → AreConstituents (word_text w)
word_constituents w = elim w as (λ v. list_all is_constituent (word_text v) ≡ true) [ Header ↦ refl | _ ↦ refl ]

-- a byte that is no constituent stands in no word
module _ (at : ℕ) (other : is_constituent at ≡ false) where
  free_of_other : (w : List ℕ) → AreConstituents w → IsFree at w
  free_of_other [] h = tt
  free_of_other (b ∷ w) h =
      let each = and_parts (is_constituent b) (list_all is_constituent w) h in
      (is_false (nat_eq b at) (λ e. let same : is_constituent at ≡ true = subst (λ (x : ℕ). is_constituent x ≡ true) (eqb-true b at e) each.0 in cc), free_of_other w each.1)

  pub word_free : (w : Word) → IsFree at (word_text w)
  word_free w = free_of_other (word_text w) (word_constituents w)

  pub field_free : (k : Kind) (f : Field) → IsOf k f → IsFree at (text f)
  field_free k f h = free_of_other (text f) (field_constituents k f h)
