-- The row of a part or of an earlier shell.
use Rattle.std.proofs.Common.{◌≡◌, ◌<◌, ℕ, zero, suc, Option, Some, None, List, [], ◌∷◌, length, get_or, map, sym, ap, ◌∙◌, arith}
use Rattle.std.specs.Prelude.{slice_get}
use Rattle.nq_logic.specs.Terms.{Term}
use Rattle.nq_proof.specs.Rows.{found_row}
use Rattle.nq_proof.specs.Clauses.{Clause}

get_mapped : {A B : Type 0} (v : A → B) (xs : List A) (k : ℕ) (a : A) → k < length xs → a ≡ get_or xs k a → slice_get (map v xs) k ≡ Some (v a)
get_mapped v [] k a less is = absurd (omega arith)
get_mapped v (x ∷ xs) zero a less is = ap (λ y. Some (v y)) (sym is)
get_mapped v (x ∷ xs) (suc k) a less is = get_mapped v xs k a (omega arith) is

found_suc : {A B : Type 0} (v : A → B) (row : ℕ → B → Option Clause) (xs : List A) (k : ℕ) (a : A) → k < length xs → a ≡ get_or xs k a → found_row (suc k) row (map v xs) ≡ row k (v a)
found_suc v row xs k a less is = ap (λ o. elim o as (λ o. Option (List Term)) [ None ↦ None | Some x ↦ row k x ]) (get_mapped v xs k a less is)

pub found_at : {A B : Type 0} (v : A → B) (row : ℕ → B → Option Clause) (xs : List A) (i k : ℕ) (a : A) → i ≡ suc k → k < length xs → a ≡ get_or xs k a → found_row i row (map v xs) ≡ row k (v a)
found_at v row xs i k a is less at = ap (λ n. found_row n row (map v xs)) is ∙ found_suc v row xs k a less at
