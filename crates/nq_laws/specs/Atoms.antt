-- Laws of a sum to which a product is added, as clauses.
use Rattle.std.specs.Prelude.{List, [], ◌∷◌}
use Rattle.nq_logic.specs.Terms.{Term}
use Rattle.nq_logic.specs.Words.{variable, call0, call1, call2}

-- (EQUAL (PLUS (PLUS 0 X) (PLUS Y 0)) (PLUS (PLUS X 0) (PLUS 0 Y)))
abbrev pub atom_is_new_clause : List Term
atom_is_new_clause = (call2 "EQUAL" (call2 "PLUS" (call2 "PLUS" (call0 "ZERO") (variable "X")) (call2 "PLUS" (variable "Y") (call0 "ZERO"))) (call2 "PLUS" (call2 "PLUS" (variable "X") (call0 "ZERO")) (call2 "PLUS" (call0 "ZERO") (variable "Y")))) ∷ []

-- (EQUAL (PLUS (PLUS A 0) B) (PLUS A (PLUS B 0)))
abbrev pub no_atom_more_clause : List Term
no_atom_more_clause = (call2 "EQUAL" (call2 "PLUS" (call2 "PLUS" (variable "A") (call0 "ZERO")) (variable "B")) (call2 "PLUS" (variable "A") (call2 "PLUS" (variable "B") (call0 "ZERO")))) ∷ []

-- (NOT (EQUAL (PLUS (PLUS P P2) N3) (PLUS P3 (PLUS N N2)))), (EQUAL (PLUS (PLUS (PLUS (TIMES P E) R) (TIMES P2 E)) (PLUS (TIMES N3 E) S)) (PLUS (PLUS (TIMES P3 E) R) (PLUS (PLUS (TIMES N E) S) (TIMES N2 E))))
abbrev pub atom_is_known_clause : List Term
atom_is_known_clause = (call1 "NOT" (call2 "EQUAL" (call2 "PLUS" (call2 "PLUS" (variable "P") (variable "P2")) (variable "N3")) (call2 "PLUS" (variable "P3") (call2 "PLUS" (variable "N") (variable "N2"))))) ∷ (call2 "EQUAL" (call2 "PLUS" (call2 "PLUS" (call2 "PLUS" (call2 "TIMES" (variable "P") (variable "E")) (variable "R")) (call2 "TIMES" (variable "P2") (variable "E"))) (call2 "PLUS" (call2 "TIMES" (variable "N3") (variable "E")) (variable "S"))) (call2 "PLUS" (call2 "PLUS" (call2 "TIMES" (variable "P3") (variable "E")) (variable "R")) (call2 "PLUS" (call2 "PLUS" (call2 "TIMES" (variable "N") (variable "E")) (variable "S")) (call2 "TIMES" (variable "N2") (variable "E"))))) ∷ []

-- (NOT (EQUAL (PLUS (PLUS R X) S) (PLUS P (PLUS N Y)))), (EQUAL (PLUS (PLUS (PLUS U R) X) (PLUS V S)) (PLUS (PLUS U P) (PLUS (PLUS V N) Y)))
abbrev pub atom_is_further_clause : List Term
atom_is_further_clause = (call1 "NOT" (call2 "EQUAL" (call2 "PLUS" (call2 "PLUS" (variable "R") (variable "X")) (variable "S")) (call2 "PLUS" (variable "P") (call2 "PLUS" (variable "N") (variable "Y"))))) ∷ (call2 "EQUAL" (call2 "PLUS" (call2 "PLUS" (call2 "PLUS" (variable "U") (variable "R")) (variable "X")) (call2 "PLUS" (variable "V") (variable "S"))) (call2 "PLUS" (call2 "PLUS" (variable "U") (variable "P")) (call2 "PLUS" (call2 "PLUS" (variable "V") (variable "N")) (variable "Y")))) ∷ []

-- all of these laws
abbrev pub laws_of_atoms : List (List Term)
laws_of_atoms = atom_is_new_clause ∷ no_atom_more_clause ∷ atom_is_known_clause ∷ atom_is_further_clause ∷ []
