-- What is replaced in the literal that says that what an accessor takes from a term is smaller than the term.
use Rattle.std.proofs.Common.{◌≡◌, Bool, true, false, Option, Some, None, [], ◌∷◌, refl, ap}
use Rattle.std.specs.Prelude.{bytes_eq, codes, if◌then◌else◌, is_some}
use Rattle.nq_logic.specs.Terms.{Name, Term, Function, Applied}
use Rattle.nq_logic.specs.Words.{call1}
use Rattle.nq_logic.specs.Numerals.{number_of, next_number}
use Rattle.nq_proof.specs.Paths.{around, replaced_at}
use Rattle.nq_arith.specs.Nests.{is_smaller}

-- of the term within the accessor's call
pub taken_replaced : (f : Name) (c r u : Term) → bytes_eq f (codes "ADD1") ≡ false → replaced_at (1 ∷ 1 ∷ 1 ∷ []) u (is_smaller (Applied (Function f) c) r) ≡ Some (c, is_smaller (Applied (Function f) u) r)
unfolding number_of
taken_replaced f c r u other = ap F other
  where
    F : Bool → Option (Term × Term)
    F b =
        around (λ v. Applied v (call1 "COUNT" r)) (around (λ v. Applied (Function (codes "LESSP")) v) (around (λ v. Applied (Function (codes "COUNT")) v) (
        elim (is_some (if b then next_number (number_of c) else None)) as (λ b. Option (Term × Term)) [ true ↦ None | false ↦ around (λ v. Applied (Function f) v) (Some (c, u)) ])))

-- of the other
pub other_replaced : (t r u : Term) → replaced_at (2 ∷ 1 ∷ []) u (is_smaller t r) ≡ Some (r, is_smaller t u)
unfolding number_of
other_replaced t r u = refl
