-- The first shell of which a test holds.
use Rattle.std.proofs.Common.{◌≡◌, ◌+◌, ℕ, zero, suc, Bool, true, false, Some, None, List, [], ◌∷◌, refl, sym, subst, arith}
use Rattle.std.specs.Prelude.{slice_get, if◌then◌else◌}
use Rattle.nq_logic.specs.Histories.{Shell}
use Rattle.nq_proof.proofs.Tests.{some_same, none_is_not_some}
use Rattle.nq_types.specs.Finding.{first_from}

pub record Found (test : Shell → Bool) (place p : ℕ) (shells : List Shell) : Type 0 where
  pub shell : Shell
  pub offset : ℕ
  pub at : slice_get shells offset ≡ Some shell
  pub is : p ≡ place + offset
  pub holds : test shell ≡ true

pub found : (test : Shell → Bool) (place : ℕ) (shells : List Shell) (p : ℕ) → first_from test place shells ≡ Some p → Found test place p shells
found test place [] p e = absurd (none_is_not_some p e)
found test place (s ∷ shells) p e = by_test (test s) refl (found test (suc place) shells p) e
  where
    by_test : (b : Bool) → test s ≡ b → (first_from test (suc place) shells ≡ Some p → Found test (suc place) p shells) → (if b then Some place else first_from test (suc place) shells) ≡ Some p → Found test place p (s ∷ shells)
    by_test true h rest same = let here : place ≡ p = some_same place p same in record { shell = s; offset = 0; at = refl; is = omega (arith, here); holds = h }
    by_test false h rest same = let f = rest same in record { shell = f.shell; offset = suc f.offset; at = f.at; is = omega (arith, f.is); holds = f.holds }

pub found_none : (test : Shell → Bool) (place : ℕ) (shells : List Shell) → first_from test place shells ≡ None → (k : ℕ) (s : Shell) → slice_get shells k ≡ Some s → test s ≡ false
found_none test place [] e k s at = absurd (none_is_not_some s at)
found_none test place (q ∷ shells) e k s at = by_test (test q) refl (found_none test (suc place) shells) e k at
  where
    by_test : (b : Bool) → test q ≡ b → (first_from test (suc place) shells ≡ None → (k : ℕ) (s : Shell) → slice_get shells k ≡ Some s → test s ≡ false) → (if b then Some place else first_from test (suc place) shells) ≡ None → (k : ℕ) → slice_get (q ∷ shells) k ≡ Some s → test s ≡ false
    by_test true h rest same k at = absurd (none_is_not_some place (sym same))
    by_test false h rest same zero at = subst (λ x. test x ≡ false) (some_same q s at) h
    by_test false h rest same (suc k) at = rest same k s at
