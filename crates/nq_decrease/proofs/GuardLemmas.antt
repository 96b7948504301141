-- The tests say that a user's shell has made a term exactly where there is a guard.
use Rattle.std.proofs.Common.{◌≡◌, Bool, true, false, ◌||◌, Option, Some, None, List, [], ◌∷◌, inl, inr, refl, sym, ap, ◌∙◌}
use Rattle.std.specs.Prelude.{if◌then◌else◌}
use Rattle.nq_logic.specs.Terms.{Name, Term, Function, IsAmong}
use Rattle.nq_logic.specs.Words.{not_term, equal_term}
use Rattle.nq_logic.specs.Histories.{Shell}
use Rattle.nq_logic.specs.Shells.{recognizes}
use Rattle.nq_proof.specs.Clauses.{Clause, same_term, has_term}
use Rattle.nq_proof.proofs.Tests.{found}
use Rattle.nq_rule.proofs.LiteralLemmas.{true_same}
use Rattle.nq_arith.specs.Nests.{IsGuarded, recognized, no_atom, no_base, no_base_turned, no_zero}
use Rattle.nq_decrease.specs.declared.own_tests.OwnGuard.{OwnGuard}
use Rattle.nq_decrease.specs.declared.own_tests.OwnGuard.TheVariants.{Recognized, Unequal, UnequalTurned}
use Rattle.nq_decrease.specs.OwnGuards.{IsUserShell, base_guard, guard_with, guard_at, GuardIsExact}

or_true : (b : Bool) → (b || true) ≡ true
or_true true = refl
or_true false = refl

among_has : (t : Term) (c : Clause) → IsAmong t c → has_term t c ≡ true
among_has t [] m = absurd m
among_has t (u ∷ c) (inl e) = ap (λ b. b || has_term t c) (true_same t u e)
among_has t (u ∷ c) (inr m) = ap (λ b. same_term t u || b) (among_has t c m) ∙ or_true (same_term t u)

module _ (s : Shell) (y : Term) (tests : List Term) where
  with_recognizer : (b : Bool) → b ≡ true → (if b then guard_with s.base y tests else None) ≡ None → guard_with s.base y tests ≡ None
  with_recognizer true h e = e
  with_recognizer false h e = absurd cc

  none_here : IsAmong (recognizes s y) tests → guard_at s y tests ≡ None → guard_with s.base y tests ≡ None
  none_here m e = with_recognizer (has_term (recognizes s y) tests) (among_has (recognizes s y) tests m) e

  some_plain : s.base ≡ None → guard_with s.base y tests ≡ None → ⊥
  some_plain n e = let some : guard_with s.base y tests ≡ Some Recognized = ap (λ o. guard_with o y tests) n in absurd cc

  no_first : (b : Bool) (o : Option OwnGuard) → b ≡ true → (if b then Some Unequal else o) ≡ None → ⊥
  no_first true o h e = absurd cc
  no_first false o h e = absurd cc

  no_second : (b d : Bool) → d ≡ true → (if b then Some Unequal else if d then Some UnequalTurned else None) ≡ None → ⊥
  no_second true d h e = absurd cc
  no_second false true h e = absurd cc
  no_second false false h e = absurd cc

  some_unequal : (n : Name) → s.base ≡ Some n → IsAmong (not_term (equal_term y (Function n))) tests → guard_with s.base y tests ≡ None → ⊥
  some_unequal n is m e =
      let none : base_guard n y tests ≡ None = ap (λ o. guard_with o y tests) (sym is) ∙ e in
      no_first (has_term (not_term (equal_term y (Function n))) tests) (if has_term (not_term (equal_term (Function n) y)) tests then Some UnequalTurned else None) (among_has (not_term (equal_term y (Function n))) tests m) none

  some_turned : (n : Name) → s.base ≡ Some n → IsAmong (not_term (equal_term (Function n) y)) tests → guard_with s.base y tests ≡ None → ⊥
  some_turned n is m e =
      let none : base_guard n y tests ≡ None = ap (λ o. guard_with o y tests) (sym is) ∙ e in
      no_second (has_term (not_term (equal_term y (Function n))) tests) (has_term (not_term (equal_term (Function n) y)) tests) (among_has (not_term (equal_term (Function n) y)) tests m) none

  -- where the tests say so there is a guard
  there : IsUserShell s → IsGuarded tests s y → guard_at s y tests ≡ None → ⊥
  there user (recognized n m) e = some_plain n (none_here m e)
  there user (no_atom is m) e = user.no_list is
  there user (no_base n is m k) e = some_unequal n is k (none_here m e)
  there user (no_base_turned n is m k) e = some_turned n is k (none_here m e)
  there user (no_zero is m) e = user.no_number is

  module _ (g : OwnGuard) where
    by_turned : (n : Name) → s.base ≡ Some n → IsAmong (recognizes s y) tests → (d : Bool) → has_term (not_term (equal_term (Function n) y)) tests ≡ d → (if d then Some UnequalTurned else None) ≡ Some g → IsGuarded tests s y
    by_turned n is m true h e = no_base_turned n is m (found (not_term (equal_term (Function n) y)) tests h)
    by_turned n is m false h e = absurd cc

    by_unequal : (n : Name) → s.base ≡ Some n → IsAmong (recognizes s y) tests → (b : Bool) → has_term (not_term (equal_term y (Function n))) tests ≡ b →
        (if b then Some Unequal else if has_term (not_term (equal_term (Function n) y)) tests then Some UnequalTurned else None) ≡ Some g → IsGuarded tests s y
    by_unequal n is m true h e = no_base n is m (found (not_term (equal_term y (Function n))) tests h)
    by_unequal n is m false h e = by_turned n is m (has_term (not_term (equal_term (Function n) y)) tests) refl e

    by_base : IsAmong (recognizes s y) tests → (o : Option Name) → s.base ≡ o → guard_with o y tests ≡ Some g → IsGuarded tests s y
    by_base m None is e = recognized is m
    by_base m (Some n) is e = by_unequal n is m (has_term (not_term (equal_term y (Function n))) tests) refl e

    by_recognizer : (b : Bool) → has_term (recognizes s y) tests ≡ b → (if b then guard_with s.base y tests else None) ≡ Some g → IsGuarded tests s y
    by_recognizer true h e = by_base (found (recognizes s y) tests h) s.base refl e
    by_recognizer false h e = absurd cc

pub guard_exact : GuardIsExact
guard_exact s y tests user = (there s y tests user, λ g e. by_recognizer s y tests g (has_term (recognizes s y) tests) refl e)
