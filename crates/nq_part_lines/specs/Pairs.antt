-- Terms in the places of variables.
use Rattle.std.specs.Prelude.{ℕ, List, [], ◌∷◌, codes}
use Rattle.nq_logic.specs.Terms.{Term}

-- terms in the place of the variables X, Y and Z
abbrev pub three_pairs : Term → Term → Term → List (List ℕ × Term)
three_pairs x y z = (codes "X", x) ∷ (codes "Y", y) ∷ (codes "Z", z) ∷ []

-- terms in the place of the variables A, B, X, Y and Z
abbrev pub five_pairs : Term → Term → Term → Term → Term → List (List ℕ × Term)
five_pairs a b x y z = (codes "A", a) ∷ (codes "B", b) ∷ three_pairs x y z
