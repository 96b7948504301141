-- The place of an atom.
use Rattle.std.specs.Prelude.{ℕ, suc, List, [], ◌∷◌, ℤ, if◌then◌else◌}
use Rattle.nq_logic.specs.Terms.{Term}
use Rattle.nq_proof.specs.Clauses.{same_term}

-- the first place of a term among the atoms, or their count where there is none
abbrev pub place_of : Term → List (Term × ℤ) → ℕ
place_of t [] = 0
place_of t (a ∷ atoms) = if same_term t a.0 then 0 else suc (place_of t atoms)
