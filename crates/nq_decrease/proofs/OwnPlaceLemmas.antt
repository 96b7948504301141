-- Places of accessors among a shell's parts, and the levels that tests allow.
use Rattle.std.proofs.Common.{◌≡◌, ◌≤◌, ◌<◌, ℕ, zero, suc, Bool, true, false, Option, Some, None, List, [], ◌∷◌, length, get_or, drop, inl, inr, refl, sym, ap, ◌∙◌, subst, arith}
use Rattle.std.proofs.lemmas.Option.{slice_get-map, slice_get_read}
use Rattle.std.specs.Option.{option_map}
use Rattle.std.specs.Prelude.{bytes_eq, slice_get, if◌then◌else◌, MatchOption}
use Rattle.nq_logic.specs.Terms.{Name, Term, Function, IsAmong}
use Rattle.nq_logic.specs.Words.{not_term, equal_term}
use Rattle.nq_logic.specs.Histories.{Part, Shell}
use Rattle.nq_logic.specs.Shells.{recognizes}
use Rattle.nq_logic.proofs.Lists.{each_at}
use Rattle.nq_bank.specs.declared.shell.Part.{Part as BankPart}
use Rattle.nq_bank.specs.Content.{Content}
use Rattle.nq_bank.specs.Shells.{part_at, parts_at}
use Rattle.nq_bank.proofs.Texts.{eq-bytes_eq}
use Rattle.nq_proof.specs.Clauses.{has_term}
use Rattle.nq_proof.proofs.Tests.{found}
use Rattle.nq_lines.specs.Lines.{AreAmong}
use Rattle.nq_decrease.specs.declared.own_tests.OwnGuard.{OwnGuard}
use Rattle.nq_decrease.specs.declared.own_tests.OwnGuard.TheVariants.{Unequal, UnequalTurned}
use Rattle.nq_decrease.specs.OwnGuards.{IsUserShell, guard_with, guard_at}
use Rattle.nq_decrease.specs.OwnLevels.{HasAccessor, HasNoOwnLevel, IsNoAccessor, IsOwnLevelOf, base_tests, made_tests, unequal_test}
use Rattle.nq_decrease.proofs.GuardLemmas.{guard_exact}

-- what is told of an answer, told in another way
pub option_both : {A : Type 0} (r : Option A) (P S : Type 0) (Q R : A → Type 0) → (P → S) → ((a : A) → Q a → R a) → MatchOption r P Q → MatchOption r S R
option_both None P S Q R f g h = f h
option_both (Some a) P S Q R f g h = g a h

-- no part stands past the last
pub none_past : (parts : List Part) (k : ℕ) (f : Name) → length parts ≤ k → IsNoAccessor (drop k parts) f
none_past [] zero f h = tt
none_past [] (suc k) f h = tt
none_past (p ∷ parts) zero f h = absurd (omega (arith, h))
none_past (p ∷ parts) (suc k) f h = none_past parts k f (omega (arith, h))

-- the part at a place is the first of those from there on
pub none_from : (parts : List Part) (k : ℕ) (f : Name) (part : Part) → slice_get parts k ≡ Some part → bytes_eq f part.accessor ≡ false → IsNoAccessor (drop (suc k) parts) f → IsNoAccessor (drop k parts) f
none_from [] k f part at other rest = absurd cc
none_from (p ∷ parts) zero f part at other rest = let same : p ≡ part = cc in (subst (λ (p : Part). bytes_eq f p.accessor ≡ false) (sym same) other, rest)
none_from (p ∷ parts) (suc k) f part at other rest = none_from parts k f part at other rest

-- the part that is read at a place
pub part_read : (bank : Content) (parts : List BankPart) (k : ℕ) (p : BankPart) → k < length parts → p ≡ get_or parts k p → slice_get (parts_at bank parts) k ≡ Some (part_at bank p)
part_read bank parts k p within is = slice_get-map (part_at bank) parts k ∙ ap (option_map (part_at bank)) (slice_get_read parts (length parts) k p refl within is)

one_among : (t : Term) (tests : List Term) → has_term t tests ≡ true → AreAmong (t ∷ []) tests
one_among t tests h u (inl e) = subst (λ v. IsAmong v tests) (sym e) (found t tests h)
one_among t tests h u (inr none) = absurd none

module _ (s : Shell) (y : Term) (tests : List Term) (g : OwnGuard) where
  by_turned : (b : Name) (d : Bool) → has_term (not_term (equal_term (Function b) y)) tests ≡ d → (if d then Some UnequalTurned else None) ≡ Some g → AreAmong (unequal_test g y (Function b) ∷ []) tests
  by_turned b true h e = let same : UnequalTurned ≡ g = cc in subst (λ g. AreAmong (unequal_test g y (Function b) ∷ []) tests) same (one_among (not_term (equal_term (Function b) y)) tests h)
  by_turned b false h e = absurd cc

  by_unequal : (b : Name) (d : Bool) → has_term (not_term (equal_term y (Function b))) tests ≡ d → (if d then Some Unequal else if has_term (not_term (equal_term (Function b) y)) tests then Some UnequalTurned else None) ≡ Some g →
      AreAmong (unequal_test g y (Function b) ∷ []) tests
  by_unequal b true h e = let same : Unequal ≡ g = cc in subst (λ g. AreAmong (unequal_test g y (Function b) ∷ []) tests) same (one_among (not_term (equal_term y (Function b))) tests h)
  by_unequal b false h e = by_turned b (has_term (not_term (equal_term (Function b) y)) tests) refl e

  by_base : (o : Option Name) → guard_with o y tests ≡ Some g → AreAmong (base_tests g o y) tests
  by_base None e = λ v m. absurd m
  by_base (Some b) e = by_unequal b (has_term (not_term (equal_term y (Function b))) tests) refl e

  by_recognizer : (d : Bool) → has_term (recognizes s y) tests ≡ d → (if d then guard_with s.base y tests else None) ≡ Some g → AreAmong (made_tests s g y) tests
  by_recognizer true h e v (inl same) = subst (λ u. IsAmong u tests) (sym same) (found (recognizes s y) tests h)
  by_recognizer true h e v (inr m) = by_base s.base e v m
  by_recognizer false h e v m = absurd cc

  -- the tests of a guard are among the tests
  guard_among : guard_at s y tests ≡ Some g → AreAmong (made_tests s g y) tests
  guard_among e = by_recognizer (has_term (recognizes s y) tests) refl e

  -- an accessor and a guard make a level
  pub level_found : (f : Name) (place : ℕ) → IsUserShell s → HasAccessor s.parts f place → guard_at s y tests ≡ Some g → IsOwnLevelOf s f y tests (record { place = place; guard = g })
  level_found f place user has e = record { has = has; guarded = (guard_exact s y tests user).1 g e; among = guard_among e }

module _ (s : Shell) (f : Name) (y : Term) (tests : List Term) where
  pub no_accessor_level : IsNoAccessor s.parts f → HasNoOwnLevel s f y tests
  no_accessor_level none part m e guarded =
      let other : bytes_eq f part.accessor ≡ false = each_at (λ part. bytes_eq f part.accessor ≡ false) part s.parts none m in
      let same : bytes_eq f part.accessor ≡ true = eq-bytes_eq f part.accessor e in
      absurd cc

  pub no_guard_level : IsUserShell s → guard_at s y tests ≡ None → HasNoOwnLevel s f y tests
  no_guard_level user none part m e guarded = (guard_exact s y tests user).0 guarded none
