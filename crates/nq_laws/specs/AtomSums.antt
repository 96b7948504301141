-- Laws of sums of products, added to each other, as clauses.
use Rattle.std.specs.Prelude.{List, [], ◌∷◌}
use Rattle.nq_logic.specs.Terms.{Term}
use Rattle.nq_logic.specs.Words.{variable, call1, call2}

-- (NOT (EQUAL (PLUS (PLUS A X) G) (PLUS Q (PLUS B Y)))), (NOT (EQUAL (PLUS (PLUS Q M) J) (PLUS I (PLUS G N)))), (EQUAL (PLUS (PLUS A (PLUS X M)) J) (PLUS I (PLUS B (PLUS Y N))))
abbrev pub atoms_after_atom_clause : List Term
atoms_after_atom_clause = (call1 "NOT" (call2 "EQUAL" (call2 "PLUS" (call2 "PLUS" (variable "A") (variable "X")) (variable "G")) (call2 "PLUS" (variable "Q") (call2 "PLUS" (variable "B") (variable "Y"))))) ∷ (call1 "NOT" (call2 "EQUAL" (call2 "PLUS" (call2 "PLUS" (variable "Q") (variable "M")) (variable "J")) (call2 "PLUS" (variable "I") (call2 "PLUS" (variable "G") (variable "N"))))) ∷ (call2 "EQUAL" (call2 "PLUS" (call2 "PLUS" (variable "A") (call2 "PLUS" (variable "X") (variable "M"))) (variable "J")) (call2 "PLUS" (variable "I") (call2 "PLUS" (variable "B") (call2 "PLUS" (variable "Y") (variable "N"))))) ∷ []

-- (NOT (EQUAL (PLUS (PLUS P P2) N3) (PLUS P3 (PLUS N N2)))), (NOT (EQUAL (PLUS (PLUS A M) J) (PLUS I (PLUS B K)))), (EQUAL (PLUS (PLUS (PLUS P A) (PLUS P2 M)) (PLUS N3 J)) (PLUS (PLUS P3 I) (PLUS (PLUS N B) (PLUS N2 K))))
abbrev pub form_after_form_clause : List Term
form_after_form_clause = (call1 "NOT" (call2 "EQUAL" (call2 "PLUS" (call2 "PLUS" (variable "P") (variable "P2")) (variable "N3")) (call2 "PLUS" (variable "P3") (call2 "PLUS" (variable "N") (variable "N2"))))) ∷ (call1 "NOT" (call2 "EQUAL" (call2 "PLUS" (call2 "PLUS" (variable "A") (variable "M")) (variable "J")) (call2 "PLUS" (variable "I") (call2 "PLUS" (variable "B") (variable "K"))))) ∷ (call2 "EQUAL" (call2 "PLUS" (call2 "PLUS" (call2 "PLUS" (variable "P") (variable "A")) (call2 "PLUS" (variable "P2") (variable "M"))) (call2 "PLUS" (variable "N3") (variable "J"))) (call2 "PLUS" (call2 "PLUS" (variable "P3") (variable "I")) (call2 "PLUS" (call2 "PLUS" (variable "N") (variable "B")) (call2 "PLUS" (variable "N2") (variable "K"))))) ∷ []

-- all of these laws
abbrev pub laws_of_atom_sums : List (List Term)
laws_of_atom_sums = atoms_after_atom_clause ∷ form_after_form_clause ∷ []
