-- Laws of each ground function, which equals the body of its definition; IDENTITY is among the parts, as clauses.
use Rattle.std.specs.Prelude.{List, [], ◌∷◌}
use Rattle.nq_logic.specs.Terms.{Term}
use Rattle.nq_logic.specs.Words.{variable, call0, call1, call2, call3, literal_atom}

-- (EQUAL (PLUS X Y) (IF (ZEROP X) (FIX Y) (ADD1 (PLUS (SUB1 X) Y))))
abbrev pub plus_opens_clause : List Term
plus_opens_clause = (call2 "EQUAL" (call2 "PLUS" (variable "X") (variable "Y")) (call3 "IF" (call1 "ZEROP" (variable "X")) (call1 "FIX" (variable "Y")) (call1 "ADD1" (call2 "PLUS" (call1 "SUB1" (variable "X")) (variable "Y"))))) ∷ []

-- (EQUAL (FIX X) (IF (NUMBERP X) X 0))
abbrev pub fix_opens_clause : List Term
fix_opens_clause = (call2 "EQUAL" (call1 "FIX" (variable "X")) (call3 "IF" (call1 "NUMBERP" (variable "X")) (variable "X") (call0 "ZERO"))) ∷ []

-- (EQUAL (ZEROP X) (IF (EQUAL X 0) T (IF (NUMBERP X) F T)))
abbrev pub zerop_opens_clause : List Term
zerop_opens_clause = (call2 "EQUAL" (call1 "ZEROP" (variable "X")) (call3 "IF" (call2 "EQUAL" (variable "X") (call0 "ZERO")) (call0 "TRUE") (call3 "IF" (call1 "NUMBERP" (variable "X")) (call0 "FALSE") (call0 "TRUE")))) ∷ []

-- (EQUAL (ORDINALP X) (IF (LISTP X) (AND (ORDINALP (CAR X)) (AND (NOT (EQUAL (CAR X) 0)) (AND (ORDINALP (CDR X)) (OR (NOT (LISTP (CDR X))) (NOT (ORD-LESSP (CAR X) (CAR (CDR X)))))))) (NUMBERP X)))
abbrev pub ordinalp_opens_clause : List Term
ordinalp_opens_clause = (call2 "EQUAL" (call1 "ORDINALP" (variable "X")) (call3 "IF" (call1 "LISTP" (variable "X")) (call2 "AND" (call1 "ORDINALP" (call1 "CAR" (variable "X"))) (call2 "AND" (call1 "NOT" (call2 "EQUAL" (call1 "CAR" (variable "X")) (call0 "ZERO"))) (call2 "AND" (call1 "ORDINALP" (call1 "CDR" (variable "X"))) (call2 "OR" (call1 "NOT" (call1 "LISTP" (call1 "CDR" (variable "X")))) (call1 "NOT" (call2 "ORD-LESSP" (call1 "CAR" (variable "X")) (call1 "CAR" (call1 "CDR" (variable "X"))))))))) (call1 "NUMBERP" (variable "X")))) ∷ []

-- (EQUAL (ORD-LESSP X Y) (IF (NOT (LISTP X)) (IF (NOT (LISTP Y)) (LESSP X Y) T) (IF (NOT (LISTP Y)) F (IF (ORD-LESSP (CAR X) (CAR Y)) T (AND (EQUAL (CAR X) (CAR Y)) (ORD-LESSP (CDR X) (CDR Y)))))))
abbrev pub ord_lessp_opens_clause : List Term
ord_lessp_opens_clause = (call2 "EQUAL" (call2 "ORD-LESSP" (variable "X") (variable "Y")) (call3 "IF" (call1 "NOT" (call1 "LISTP" (variable "X"))) (call3 "IF" (call1 "NOT" (call1 "LISTP" (variable "Y"))) (call2 "LESSP" (variable "X") (variable "Y")) (call0 "TRUE")) (call3 "IF" (call1 "NOT" (call1 "LISTP" (variable "Y"))) (call0 "FALSE") (call3 "IF" (call2 "ORD-LESSP" (call1 "CAR" (variable "X")) (call1 "CAR" (variable "Y"))) (call0 "TRUE") (call2 "AND" (call2 "EQUAL" (call1 "CAR" (variable "X")) (call1 "CAR" (variable "Y"))) (call2 "ORD-LESSP" (call1 "CDR" (variable "X")) (call1 "CDR" (variable "Y")))))))) ∷ []

-- (EQUAL (LESSP X Y) (IF (ZEROP Y) F (IF (ZEROP X) T (LESSP (SUB1 X) (SUB1 Y)))))
abbrev pub lessp_opens_clause : List Term
lessp_opens_clause = (call2 "EQUAL" (call2 "LESSP" (variable "X") (variable "Y")) (call3 "IF" (call1 "ZEROP" (variable "Y")) (call0 "FALSE") (call3 "IF" (call1 "ZEROP" (variable "X")) (call0 "TRUE") (call2 "LESSP" (call1 "SUB1" (variable "X")) (call1 "SUB1" (variable "Y")))))) ∷ []

-- (EQUAL (TIMES X Y) (IF (ZEROP X) 0 (PLUS Y (TIMES (SUB1 X) Y))))
abbrev pub times_opens_clause : List Term
times_opens_clause = (call2 "EQUAL" (call2 "TIMES" (variable "X") (variable "Y")) (call3 "IF" (call1 "ZEROP" (variable "X")) (call0 "ZERO") (call2 "PLUS" (variable "Y") (call2 "TIMES" (call1 "SUB1" (variable "X")) (variable "Y"))))) ∷ []

-- (EQUAL (IMPLIES P Q) (IF P (IF Q T F) T))
abbrev pub implies_opens_clause : List Term
implies_opens_clause = (call2 "EQUAL" (call2 "IMPLIES" (variable "P") (variable "Q")) (call3 "IF" (variable "P") (call3 "IF" (variable "Q") (call0 "TRUE") (call0 "FALSE")) (call0 "TRUE"))) ∷ []

-- (EQUAL (NOT P) (IF P F T))
abbrev pub not_opens_clause : List Term
not_opens_clause = (call2 "EQUAL" (call1 "NOT" (variable "P")) (call3 "IF" (variable "P") (call0 "FALSE") (call0 "TRUE"))) ∷ []

-- (EQUAL (AND P Q) (IF P (IF Q T F) F))
abbrev pub and_opens_clause : List Term
and_opens_clause = (call2 "EQUAL" (call2 "AND" (variable "P") (variable "Q")) (call3 "IF" (variable "P") (call3 "IF" (variable "Q") (call0 "TRUE") (call0 "FALSE")) (call0 "FALSE"))) ∷ []

-- (EQUAL (OR P Q) (IF P T (IF Q T F)))
abbrev pub or_opens_clause : List Term
or_opens_clause = (call2 "EQUAL" (call2 "OR" (variable "P") (variable "Q")) (call3 "IF" (variable "P") (call0 "TRUE") (call3 "IF" (variable "Q") (call0 "TRUE") (call0 "FALSE")))) ∷ []

-- (EQUAL (IFF P Q) (IF P (IF Q T F) (IF Q F T)))
abbrev pub iff_opens_clause : List Term
iff_opens_clause = (call2 "EQUAL" (call2 "IFF" (variable "P") (variable "Q")) (call3 "IF" (variable "P") (call3 "IF" (variable "Q") (call0 "TRUE") (call0 "FALSE")) (call3 "IF" (variable "Q") (call0 "FALSE") (call0 "TRUE")))) ∷ []

-- (EQUAL (TRUEP X) (EQUAL X T))
abbrev pub truep_opens_clause : List Term
truep_opens_clause = (call2 "EQUAL" (call1 "TRUEP" (variable "X")) (call2 "EQUAL" (variable "X") (call0 "TRUE"))) ∷ []

-- (EQUAL (FALSEP X) (EQUAL X F))
abbrev pub falsep_opens_clause : List Term
falsep_opens_clause = (call2 "EQUAL" (call1 "FALSEP" (variable "X")) (call2 "EQUAL" (variable "X") (call0 "FALSE"))) ∷ []

-- (EQUAL (NLISTP X) (NOT (LISTP X)))
abbrev pub nlistp_opens_clause : List Term
nlistp_opens_clause = (call2 "EQUAL" (call1 "NLISTP" (variable "X")) (call1 "NOT" (call1 "LISTP" (variable "X")))) ∷ []

-- (EQUAL (GREATERP X Y) (LESSP Y X))
abbrev pub greaterp_opens_clause : List Term
greaterp_opens_clause = (call2 "EQUAL" (call2 "GREATERP" (variable "X") (variable "Y")) (call2 "LESSP" (variable "Y") (variable "X"))) ∷ []

-- (EQUAL (LEQ X Y) (NOT (LESSP Y X)))
abbrev pub leq_opens_clause : List Term
leq_opens_clause = (call2 "EQUAL" (call2 "LEQ" (variable "X") (variable "Y")) (call1 "NOT" (call2 "LESSP" (variable "Y") (variable "X")))) ∷ []

-- (EQUAL (GEQ X Y) (NOT (LESSP X Y)))
abbrev pub geq_opens_clause : List Term
geq_opens_clause = (call2 "EQUAL" (call2 "GEQ" (variable "X") (variable "Y")) (call1 "NOT" (call2 "LESSP" (variable "X") (variable "Y")))) ∷ []

-- (EQUAL (MAX X Y) (IF (LESSP X Y) Y (FIX X)))
abbrev pub max_opens_clause : List Term
max_opens_clause = (call2 "EQUAL" (call2 "MAX" (variable "X") (variable "Y")) (call3 "IF" (call2 "LESSP" (variable "X") (variable "Y")) (variable "Y") (call1 "FIX" (variable "X")))) ∷ []

-- (EQUAL (DIFFERENCE X Y) (IF (ZEROP X) 0 (IF (ZEROP Y) X (DIFFERENCE (SUB1 X) (SUB1 Y)))))
abbrev pub difference_opens_clause : List Term
difference_opens_clause = (call2 "EQUAL" (call2 "DIFFERENCE" (variable "X") (variable "Y")) (call3 "IF" (call1 "ZEROP" (variable "X")) (call0 "ZERO") (call3 "IF" (call1 "ZEROP" (variable "Y")) (variable "X") (call2 "DIFFERENCE" (call1 "SUB1" (variable "X")) (call1 "SUB1" (variable "Y")))))) ∷ []

-- (EQUAL (QUOTIENT X Y) (IF (ZEROP Y) 0 (IF (LESSP X Y) 0 (ADD1 (QUOTIENT (DIFFERENCE X Y) Y)))))
abbrev pub quotient_opens_clause : List Term
quotient_opens_clause = (call2 "EQUAL" (call2 "QUOTIENT" (variable "X") (variable "Y")) (call3 "IF" (call1 "ZEROP" (variable "Y")) (call0 "ZERO") (call3 "IF" (call2 "LESSP" (variable "X") (variable "Y")) (call0 "ZERO") (call1 "ADD1" (call2 "QUOTIENT" (call2 "DIFFERENCE" (variable "X") (variable "Y")) (variable "Y")))))) ∷ []

-- (EQUAL (REMAINDER X Y) (IF (ZEROP Y) (FIX X) (IF (LESSP X Y) (FIX X) (REMAINDER (DIFFERENCE X Y) Y))))
abbrev pub remainder_opens_clause : List Term
remainder_opens_clause = (call2 "EQUAL" (call2 "REMAINDER" (variable "X") (variable "Y")) (call3 "IF" (call1 "ZEROP" (variable "Y")) (call1 "FIX" (variable "X")) (call3 "IF" (call2 "LESSP" (variable "X") (variable "Y")) (call1 "FIX" (variable "X")) (call2 "REMAINDER" (call2 "DIFFERENCE" (variable "X") (variable "Y")) (variable "Y"))))) ∷ []

-- (EQUAL (APPEND X Y) (IF (LISTP X) (CONS (CAR X) (APPEND (CDR X) Y)) Y))
abbrev pub append_opens_clause : List Term
append_opens_clause = (call2 "EQUAL" (call2 "APPEND" (variable "X") (variable "Y")) (call3 "IF" (call1 "LISTP" (variable "X")) (call2 "CONS" (call1 "CAR" (variable "X")) (call2 "APPEND" (call1 "CDR" (variable "X")) (variable "Y"))) (variable "Y"))) ∷ []

-- (EQUAL (MEMBER X Y) (IF (NLISTP Y) F (IF (EQUAL X (CAR Y)) T (MEMBER X (CDR Y)))))
abbrev pub member_opens_clause : List Term
member_opens_clause = (call2 "EQUAL" (call2 "MEMBER" (variable "X") (variable "Y")) (call3 "IF" (call1 "NLISTP" (variable "Y")) (call0 "FALSE") (call3 "IF" (call2 "EQUAL" (variable "X") (call1 "CAR" (variable "Y"))) (call0 "TRUE") (call2 "MEMBER" (variable "X") (call1 "CDR" (variable "Y")))))) ∷ []

-- (EQUAL (UNION X Y) (IF (LISTP X) (IF (MEMBER (CAR X) Y) (UNION (CDR X) Y) (CONS (CAR X) (UNION (CDR X) Y))) Y))
abbrev pub union_opens_clause : List Term
union_opens_clause = (call2 "EQUAL" (call2 "UNION" (variable "X") (variable "Y")) (call3 "IF" (call1 "LISTP" (variable "X")) (call3 "IF" (call2 "MEMBER" (call1 "CAR" (variable "X")) (variable "Y")) (call2 "UNION" (call1 "CDR" (variable "X")) (variable "Y")) (call2 "CONS" (call1 "CAR" (variable "X")) (call2 "UNION" (call1 "CDR" (variable "X")) (variable "Y")))) (variable "Y"))) ∷ []

-- (EQUAL (ADD-TO-SET X Y) (IF (MEMBER X Y) Y (CONS X Y)))
abbrev pub add_to_set_opens_clause : List Term
add_to_set_opens_clause = (call2 "EQUAL" (call2 "ADD-TO-SET" (variable "X") (variable "Y")) (call3 "IF" (call2 "MEMBER" (variable "X") (variable "Y")) (variable "Y") (call2 "CONS" (variable "X") (variable "Y")))) ∷ []

-- (EQUAL (ASSOC X Y) (IF (LISTP Y) (IF (EQUAL X (CAR (CAR Y))) (CAR Y) (ASSOC X (CDR Y))) F))
abbrev pub assoc_opens_clause : List Term
assoc_opens_clause = (call2 "EQUAL" (call2 "ASSOC" (variable "X") (variable "Y")) (call3 "IF" (call1 "LISTP" (variable "Y")) (call3 "IF" (call2 "EQUAL" (variable "X") (call1 "CAR" (call1 "CAR" (variable "Y")))) (call1 "CAR" (variable "Y")) (call2 "ASSOC" (variable "X") (call1 "CDR" (variable "Y")))) (call0 "FALSE"))) ∷ []

-- (EQUAL (PAIRLIST X Y) (IF (LISTP X) (CONS (CONS (CAR X) (CAR Y)) (PAIRLIST (CDR X) (CDR Y))) NIL))
abbrev pub pairlist_opens_clause : List Term
pairlist_opens_clause = (call2 "EQUAL" (call2 "PAIRLIST" (variable "X") (variable "Y")) (call3 "IF" (call1 "LISTP" (variable "X")) (call2 "CONS" (call2 "CONS" (call1 "CAR" (variable "X")) (call1 "CAR" (variable "Y"))) (call2 "PAIRLIST" (call1 "CDR" (variable "X")) (call1 "CDR" (variable "Y")))) (literal_atom "NIL"))) ∷ []

-- all of these laws
abbrev pub laws_of_definitions : List (List Term)
laws_of_definitions = plus_opens_clause ∷ fix_opens_clause ∷ zerop_opens_clause ∷ ordinalp_opens_clause ∷ ord_lessp_opens_clause ∷ lessp_opens_clause ∷ times_opens_clause ∷ implies_opens_clause ∷ not_opens_clause ∷ and_opens_clause ∷ or_opens_clause ∷ iff_opens_clause ∷ truep_opens_clause ∷ falsep_opens_clause ∷ nlistp_opens_clause ∷ greaterp_opens_clause ∷ leq_opens_clause ∷ geq_opens_clause ∷ max_opens_clause ∷ difference_opens_clause ∷ quotient_opens_clause ∷ remainder_opens_clause ∷ append_opens_clause ∷ member_opens_clause ∷ union_opens_clause ∷ add_to_set_opens_clause ∷ assoc_opens_clause ∷ pairlist_opens_clause ∷ []
