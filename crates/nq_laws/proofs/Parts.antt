-- Laws of the parts of values in the ground history, each by a log over earlier ones, and at terms of any history.
use Rattle.std.proofs.Common.{List, [], ◌∷◌, refl}
use Rattle.std.specs.Prelude.{codes}
use Rattle.nq_logic.specs.Terms.{Term, IsTerm}
use Rattle.nq_logic.specs.Words.{variable, call0, call1, call2, call3}
use Rattle.nq_logic.specs.Histories.{History}
use Rattle.nq_logic.specs.Ground.{symbols_of}
use Rattle.nq_logic.specs.Numerals.{number_of}
use Rattle.nq_logic.specs.Formulas.{clause}
use Rattle.nq_logic.specs.Derivations.{Derivable}
use Rattle.nq_proof.specs.Rules.{Taut, AxiomRow, Cut, Instance, Reflexive, Replace, Forwards, Backwards}
use Rattle.nq_proof.specs.Logs.{LogLine, Ruled}
use Rattle.nq_proof.proofs.SoundLogs.{everywhere, grown}
use Rattle.nq_proof.proofs.ByLaw.{by_law}
use Rattle.nq_laws.specs.Laws.{AreDerivable}
use Rattle.nq_logic.proofs.Symbols.{add1_symbol, car_symbol, cdr_symbol, cons_symbol, count_symbol, equal_symbol, minus_symbol, negative_guts_symbol, pack_symbol, sub1_symbol, unpack_symbol, zero_symbol}
use Rattle.nq_laws.specs.Parts.{sub1_of_add1_clause, sub1_of_zero_numeral_clause, part_of_negative_clause, first_of_pair_clause, rest_of_pair_clause, part_of_atom_clause, first_of_other_clause, rest_of_other_clause, atom_part_of_other_clause, negative_part_of_other_clause, add1_of_other_clause, negative_of_other_clause, size_of_zero_clause, size_step_clause, laws_of_parts}

-- (NOT (NUMBERP X1)), (EQUAL (SUB1 (ADD1 X1)) X1)
abbrev sub1_of_add1_log : List LogLine
sub1_of_add1_log =
    Ruled (AxiomRow (codes "ADD1") 6 1) ∷ []

pub sub1_of_add1 : Derivable [] (clause sub1_of_add1_clause)
unfolding symbols_of number_of
sub1_of_add1 = everywhere [] sub1_of_add1_log sub1_of_add1_clause refl tt refl

pub sub1_of_add1_at : (h : History) (x1 : Term) → IsTerm (symbols_of h) x1 → Derivable h (clause ((call1 "NUMBERP" x1) ∷ [])) → Derivable h (clause ((call2 "EQUAL" (call1 "SUB1" (call1 "ADD1" x1)) x1) ∷ []))
sub1_of_add1_at h x1 ox1 d1 =
    by_law h ((call1 "NUMBERP" (variable "X1")) ∷ []) (call2 "EQUAL" (call1 "SUB1" (call1 "ADD1" (variable "X1"))) (variable "X1")) ((codes "X1", x1) ∷ []) (grown sub1_of_add1_clause sub1_of_add1 h) (d1, tt) ((equal_symbol h, (sub1_symbol h, (add1_symbol h, ox1))), ox1)

-- (EQUAL (SUB1 0) 0)
abbrev sub1_of_zero_numeral_log : List LogLine
sub1_of_zero_numeral_log =
    Ruled (AxiomRow (codes "ADD1") 9 1) ∷ []

pub sub1_of_zero_numeral : Derivable [] (clause sub1_of_zero_numeral_clause)
unfolding symbols_of number_of
sub1_of_zero_numeral = everywhere [] sub1_of_zero_numeral_log sub1_of_zero_numeral_clause refl tt refl

pub sub1_of_zero_numeral_at : (h : History) → Derivable h (clause sub1_of_zero_numeral_clause)
sub1_of_zero_numeral_at h = grown sub1_of_zero_numeral_clause sub1_of_zero_numeral h

-- (NOT (NUMBERP X1)), (EQUAL (NEGATIVE-GUTS (MINUS X1)) X1)
abbrev part_of_negative_log : List LogLine
part_of_negative_log =
    Ruled (AxiomRow (codes "MINUS") 6 1) ∷ []

pub part_of_negative : Derivable [] (clause part_of_negative_clause)
unfolding symbols_of number_of
part_of_negative = everywhere [] part_of_negative_log part_of_negative_clause refl tt refl

pub part_of_negative_at : (h : History) (x1 : Term) → IsTerm (symbols_of h) x1 → Derivable h (clause ((call1 "NUMBERP" x1) ∷ [])) → Derivable h (clause ((call2 "EQUAL" (call1 "NEGATIVE-GUTS" (call1 "MINUS" x1)) x1) ∷ []))
part_of_negative_at h x1 ox1 d1 =
    by_law h ((call1 "NUMBERP" (variable "X1")) ∷ []) (call2 "EQUAL" (call1 "NEGATIVE-GUTS" (call1 "MINUS" (variable "X1"))) (variable "X1")) ((codes "X1", x1) ∷ []) (grown part_of_negative_clause part_of_negative h) (d1, tt) ((equal_symbol h, (negative_guts_symbol h, (minus_symbol h, ox1))), ox1)

-- (EQUAL (CAR (CONS X1 X2)) X1)
abbrev first_of_pair_log : List LogLine
first_of_pair_log =
    Ruled (AxiomRow (codes "TRUE") 1 0)
    ∷ Ruled (AxiomRow (codes "CONS") 6 1)
    ∷ Ruled (Cut 1 2 (call0 "TRUE")) ∷ []

pub first_of_pair : Derivable [] (clause first_of_pair_clause)
unfolding symbols_of number_of
first_of_pair = everywhere [] first_of_pair_log first_of_pair_clause refl tt refl

pub first_of_pair_at : (h : History) (x1 x2 : Term) → IsTerm (symbols_of h) x1 → IsTerm (symbols_of h) x2 → Derivable h (clause ((call2 "EQUAL" (call1 "CAR" (call2 "CONS" x1 x2)) x1) ∷ []))
first_of_pair_at h x1 x2 ox1 ox2 =
    by_law h [] (call2 "EQUAL" (call1 "CAR" (call2 "CONS" (variable "X1") (variable "X2"))) (variable "X1")) ((codes "X1", x1) ∷ (codes "X2", x2) ∷ []) (grown first_of_pair_clause first_of_pair h) tt ((equal_symbol h, (car_symbol h, ((cons_symbol h, ox1), ox2))), ox1)

-- (EQUAL (CDR (CONS X1 X2)) X2)
abbrev rest_of_pair_log : List LogLine
rest_of_pair_log =
    Ruled (AxiomRow (codes "TRUE") 1 0)
    ∷ Ruled (AxiomRow (codes "CONS") 6 2)
    ∷ Ruled (Cut 1 2 (call0 "TRUE")) ∷ []

pub rest_of_pair : Derivable [] (clause rest_of_pair_clause)
unfolding symbols_of number_of
rest_of_pair = everywhere [] rest_of_pair_log rest_of_pair_clause refl tt refl

pub rest_of_pair_at : (h : History) (x1 x2 : Term) → IsTerm (symbols_of h) x1 → IsTerm (symbols_of h) x2 → Derivable h (clause ((call2 "EQUAL" (call1 "CDR" (call2 "CONS" x1 x2)) x2) ∷ []))
rest_of_pair_at h x1 x2 ox1 ox2 =
    by_law h [] (call2 "EQUAL" (call1 "CDR" (call2 "CONS" (variable "X1") (variable "X2"))) (variable "X2")) ((codes "X1", x1) ∷ (codes "X2", x2) ∷ []) (grown rest_of_pair_clause rest_of_pair h) tt ((equal_symbol h, (cdr_symbol h, ((cons_symbol h, ox1), ox2))), ox2)

-- (EQUAL (UNPACK (PACK X1)) X1)
abbrev part_of_atom_log : List LogLine
part_of_atom_log =
    Ruled (AxiomRow (codes "TRUE") 1 0)
    ∷ Ruled (AxiomRow (codes "PACK") 6 1)
    ∷ Ruled (Cut 1 2 (call0 "TRUE")) ∷ []

pub part_of_atom : Derivable [] (clause part_of_atom_clause)
unfolding symbols_of number_of
part_of_atom = everywhere [] part_of_atom_log part_of_atom_clause refl tt refl

pub part_of_atom_at : (h : History) (x1 : Term) → IsTerm (symbols_of h) x1 → Derivable h (clause ((call2 "EQUAL" (call1 "UNPACK" (call1 "PACK" x1)) x1) ∷ []))
part_of_atom_at h x1 ox1 =
    by_law h [] (call2 "EQUAL" (call1 "UNPACK" (call1 "PACK" (variable "X1"))) (variable "X1")) ((codes "X1", x1) ∷ []) (grown part_of_atom_clause part_of_atom h) tt ((equal_symbol h, (unpack_symbol h, (pack_symbol h, ox1))), ox1)

-- (NOT (EQUAL (LISTP X) F)), (EQUAL (CAR X) 0)
abbrev first_of_other_log : List LogLine
first_of_other_log =
    Ruled (AxiomRow (codes "FALSE") 1 0)
    ∷ Ruled (Taut ((call1 "LISTP" (variable "X")) ∷ (call1 "NOT" (call1 "LISTP" (variable "X"))) ∷ []))
    ∷ Ruled (Replace 2 1 [] (call0 "FALSE") Forwards)
    ∷ Ruled (Cut 3 1 (call0 "FALSE"))
    ∷ Ruled (AxiomRow (codes "CONS") 8 1)
    ∷ Ruled (Cut 5 4 (call1 "LISTP" (variable "X")))
    ∷ Ruled (Taut ((call1 "NOT" (call2 "EQUAL" (call1 "CAR" (variable "X")) (call0 "ZERO"))) ∷ (call2 "EQUAL" (call1 "CAR" (variable "X")) (call0 "ZERO")) ∷ []))
    ∷ Ruled (Cut 6 7 (call2 "EQUAL" (call1 "CAR" (variable "X")) (call0 "ZERO"))) ∷ []

pub first_of_other : Derivable [] (clause first_of_other_clause)
unfolding symbols_of number_of
first_of_other = everywhere [] first_of_other_log first_of_other_clause refl tt refl

pub first_of_other_at : (h : History) (x : Term) → IsTerm (symbols_of h) x → Derivable h (clause ((call2 "EQUAL" (call1 "LISTP" x) (call0 "FALSE")) ∷ [])) → Derivable h (clause ((call2 "EQUAL" (call1 "CAR" x) (call0 "ZERO")) ∷ []))
first_of_other_at h x ox d1 =
    by_law h ((call2 "EQUAL" (call1 "LISTP" (variable "X")) (call0 "FALSE")) ∷ []) (call2 "EQUAL" (call1 "CAR" (variable "X")) (call0 "ZERO")) ((codes "X", x) ∷ []) (grown first_of_other_clause first_of_other h) (d1, tt) ((equal_symbol h, (car_symbol h, ox)), (zero_symbol h))

-- (NOT (EQUAL (LISTP X) F)), (EQUAL (CDR X) 0)
abbrev rest_of_other_log : List LogLine
rest_of_other_log =
    Ruled (AxiomRow (codes "FALSE") 1 0)
    ∷ Ruled (Taut ((call1 "LISTP" (variable "X")) ∷ (call1 "NOT" (call1 "LISTP" (variable "X"))) ∷ []))
    ∷ Ruled (Replace 2 1 [] (call0 "FALSE") Forwards)
    ∷ Ruled (Cut 3 1 (call0 "FALSE"))
    ∷ Ruled (AxiomRow (codes "CONS") 8 2)
    ∷ Ruled (Cut 5 4 (call1 "LISTP" (variable "X")))
    ∷ Ruled (Taut ((call1 "NOT" (call2 "EQUAL" (call1 "CDR" (variable "X")) (call0 "ZERO"))) ∷ (call2 "EQUAL" (call1 "CDR" (variable "X")) (call0 "ZERO")) ∷ []))
    ∷ Ruled (Cut 6 7 (call2 "EQUAL" (call1 "CDR" (variable "X")) (call0 "ZERO"))) ∷ []

pub rest_of_other : Derivable [] (clause rest_of_other_clause)
unfolding symbols_of number_of
rest_of_other = everywhere [] rest_of_other_log rest_of_other_clause refl tt refl

pub rest_of_other_at : (h : History) (x : Term) → IsTerm (symbols_of h) x → Derivable h (clause ((call2 "EQUAL" (call1 "LISTP" x) (call0 "FALSE")) ∷ [])) → Derivable h (clause ((call2 "EQUAL" (call1 "CDR" x) (call0 "ZERO")) ∷ []))
rest_of_other_at h x ox d1 =
    by_law h ((call2 "EQUAL" (call1 "LISTP" (variable "X")) (call0 "FALSE")) ∷ []) (call2 "EQUAL" (call1 "CDR" (variable "X")) (call0 "ZERO")) ((codes "X", x) ∷ []) (grown rest_of_other_clause rest_of_other h) (d1, tt) ((equal_symbol h, (cdr_symbol h, ox)), (zero_symbol h))

-- (NOT (EQUAL (LITATOM X) F)), (EQUAL (UNPACK X) 0)
abbrev atom_part_of_other_log : List LogLine
atom_part_of_other_log =
    Ruled (AxiomRow (codes "FALSE") 1 0)
    ∷ Ruled (Taut ((call1 "LITATOM" (variable "X")) ∷ (call1 "NOT" (call1 "LITATOM" (variable "X"))) ∷ []))
    ∷ Ruled (Replace 2 1 [] (call0 "FALSE") Forwards)
    ∷ Ruled (Cut 3 1 (call0 "FALSE"))
    ∷ Ruled (AxiomRow (codes "PACK") 8 1)
    ∷ Ruled (Cut 5 4 (call1 "LITATOM" (variable "X")))
    ∷ Ruled (Taut ((call1 "NOT" (call2 "EQUAL" (call1 "UNPACK" (variable "X")) (call0 "ZERO"))) ∷ (call2 "EQUAL" (call1 "UNPACK" (variable "X")) (call0 "ZERO")) ∷ []))
    ∷ Ruled (Cut 6 7 (call2 "EQUAL" (call1 "UNPACK" (variable "X")) (call0 "ZERO"))) ∷ []

pub atom_part_of_other : Derivable [] (clause atom_part_of_other_clause)
unfolding symbols_of number_of
atom_part_of_other = everywhere [] atom_part_of_other_log atom_part_of_other_clause refl tt refl

pub atom_part_of_other_at : (h : History) (x : Term) → IsTerm (symbols_of h) x → Derivable h (clause ((call2 "EQUAL" (call1 "LITATOM" x) (call0 "FALSE")) ∷ [])) → Derivable h (clause ((call2 "EQUAL" (call1 "UNPACK" x) (call0 "ZERO")) ∷ []))
atom_part_of_other_at h x ox d1 =
    by_law h ((call2 "EQUAL" (call1 "LITATOM" (variable "X")) (call0 "FALSE")) ∷ []) (call2 "EQUAL" (call1 "UNPACK" (variable "X")) (call0 "ZERO")) ((codes "X", x) ∷ []) (grown atom_part_of_other_clause atom_part_of_other h) (d1, tt) ((equal_symbol h, (unpack_symbol h, ox)), (zero_symbol h))

-- (NOT (EQUAL (NEGATIVEP X) F)), (EQUAL (NEGATIVE-GUTS X) 0)
abbrev negative_part_of_other_log : List LogLine
negative_part_of_other_log =
    Ruled (AxiomRow (codes "FALSE") 1 0)
    ∷ Ruled (Taut ((call1 "NEGATIVEP" (variable "X")) ∷ (call1 "NOT" (call1 "NEGATIVEP" (variable "X"))) ∷ []))
    ∷ Ruled (Replace 2 1 [] (call0 "FALSE") Forwards)
    ∷ Ruled (Cut 3 1 (call0 "FALSE"))
    ∷ Ruled (AxiomRow (codes "MINUS") 8 1)
    ∷ Ruled (Cut 5 4 (call1 "NEGATIVEP" (variable "X")))
    ∷ Ruled (Taut ((call1 "NOT" (call2 "EQUAL" (call1 "NEGATIVE-GUTS" (variable "X")) (call0 "ZERO"))) ∷ (call2 "EQUAL" (call1 "NEGATIVE-GUTS" (variable "X")) (call0 "ZERO")) ∷ []))
    ∷ Ruled (Cut 6 7 (call2 "EQUAL" (call1 "NEGATIVE-GUTS" (variable "X")) (call0 "ZERO"))) ∷ []

pub negative_part_of_other : Derivable [] (clause negative_part_of_other_clause)
unfolding symbols_of number_of
negative_part_of_other = everywhere [] negative_part_of_other_log negative_part_of_other_clause refl tt refl

pub negative_part_of_other_at : (h : History) (x : Term) → IsTerm (symbols_of h) x → Derivable h (clause ((call2 "EQUAL" (call1 "NEGATIVEP" x) (call0 "FALSE")) ∷ [])) → Derivable h (clause ((call2 "EQUAL" (call1 "NEGATIVE-GUTS" x) (call0 "ZERO")) ∷ []))
negative_part_of_other_at h x ox d1 =
    by_law h ((call2 "EQUAL" (call1 "NEGATIVEP" (variable "X")) (call0 "FALSE")) ∷ []) (call2 "EQUAL" (call1 "NEGATIVE-GUTS" (variable "X")) (call0 "ZERO")) ((codes "X", x) ∷ []) (grown negative_part_of_other_clause negative_part_of_other h) (d1, tt) ((equal_symbol h, (negative_guts_symbol h, ox)), (zero_symbol h))

-- (NOT (EQUAL (NUMBERP X1) F)), (EQUAL (ADD1 X1) (ADD1 0))
abbrev add1_of_other_log : List LogLine
add1_of_other_log =
    Ruled (AxiomRow (codes "ADD1") 10 1)
    ∷ Ruled (AxiomRow (codes "FALSE") 1 0)
    ∷ Ruled (Taut ((call1 "NUMBERP" (variable "X1")) ∷ (call1 "NOT" (call1 "NUMBERP" (variable "X1"))) ∷ []))
    ∷ Ruled (Replace 3 1 [] (call0 "FALSE") Forwards)
    ∷ Ruled (Cut 4 2 (call0 "FALSE"))
    ∷ Ruled (Cut 1 5 (call1 "NUMBERP" (variable "X1")))
    ∷ Ruled (Taut ((call1 "NOT" (call2 "EQUAL" (call1 "ADD1" (variable "X1")) (call1 "ADD1" (call0 "ZERO")))) ∷ (call2 "EQUAL" (call1 "ADD1" (variable "X1")) (call1 "ADD1" (call0 "ZERO"))) ∷ []))
    ∷ Ruled (Cut 6 7 (call2 "EQUAL" (call1 "ADD1" (variable "X1")) (call1 "ADD1" (call0 "ZERO")))) ∷ []

pub add1_of_other : Derivable [] (clause add1_of_other_clause)
unfolding symbols_of number_of
add1_of_other = everywhere [] add1_of_other_log add1_of_other_clause refl tt refl

pub add1_of_other_at : (h : History) (x1 : Term) → IsTerm (symbols_of h) x1 → Derivable h (clause ((call2 "EQUAL" (call1 "NUMBERP" x1) (call0 "FALSE")) ∷ [])) → Derivable h (clause ((call2 "EQUAL" (call1 "ADD1" x1) (call1 "ADD1" (call0 "ZERO"))) ∷ []))
add1_of_other_at h x1 ox1 d1 =
    by_law h ((call2 "EQUAL" (call1 "NUMBERP" (variable "X1")) (call0 "FALSE")) ∷ []) (call2 "EQUAL" (call1 "ADD1" (variable "X1")) (call1 "ADD1" (call0 "ZERO"))) ((codes "X1", x1) ∷ []) (grown add1_of_other_clause add1_of_other h) (d1, tt) ((equal_symbol h, (add1_symbol h, ox1)), (add1_symbol h, (zero_symbol h)))

-- (NOT (EQUAL (NUMBERP X1) F)), (EQUAL (MINUS X1) (MINUS 0))
abbrev negative_of_other_log : List LogLine
negative_of_other_log =
    Ruled (AxiomRow (codes "FALSE") 1 0)
    ∷ Ruled (Taut ((call1 "NUMBERP" (variable "X1")) ∷ (call1 "NOT" (call1 "NUMBERP" (variable "X1"))) ∷ []))
    ∷ Ruled (Replace 2 1 [] (call0 "FALSE") Forwards)
    ∷ Ruled (Cut 3 1 (call0 "FALSE"))
    ∷ Ruled (AxiomRow (codes "MINUS") 10 1)
    ∷ Ruled (Cut 5 4 (call1 "NUMBERP" (variable "X1")))
    ∷ Ruled (Taut ((call1 "NOT" (call2 "EQUAL" (call1 "MINUS" (variable "X1")) (call1 "MINUS" (call0 "ZERO")))) ∷ (call2 "EQUAL" (call1 "MINUS" (variable "X1")) (call1 "MINUS" (call0 "ZERO"))) ∷ []))
    ∷ Ruled (Cut 6 7 (call2 "EQUAL" (call1 "MINUS" (variable "X1")) (call1 "MINUS" (call0 "ZERO")))) ∷ []

pub negative_of_other : Derivable [] (clause negative_of_other_clause)
unfolding symbols_of number_of
negative_of_other = everywhere [] negative_of_other_log negative_of_other_clause refl tt refl

pub negative_of_other_at : (h : History) (x1 : Term) → IsTerm (symbols_of h) x1 → Derivable h (clause ((call2 "EQUAL" (call1 "NUMBERP" x1) (call0 "FALSE")) ∷ [])) → Derivable h (clause ((call2 "EQUAL" (call1 "MINUS" x1) (call1 "MINUS" (call0 "ZERO"))) ∷ []))
negative_of_other_at h x1 ox1 d1 =
    by_law h ((call2 "EQUAL" (call1 "NUMBERP" (variable "X1")) (call0 "FALSE")) ∷ []) (call2 "EQUAL" (call1 "MINUS" (variable "X1")) (call1 "MINUS" (call0 "ZERO"))) ((codes "X1", x1) ∷ []) (grown negative_of_other_clause negative_of_other h) (d1, tt) ((equal_symbol h, (minus_symbol h, ox1)), (minus_symbol h, (zero_symbol h)))

-- (EQUAL (COUNT 0) 0)
abbrev size_of_zero_log : List LogLine
size_of_zero_log =
    Ruled (AxiomRow (codes "ADD1") 15 0) ∷ []

pub size_of_zero : Derivable [] (clause size_of_zero_clause)
unfolding symbols_of number_of
size_of_zero = everywhere [] size_of_zero_log size_of_zero_clause refl tt refl

pub size_of_zero_at : (h : History) → Derivable h (clause size_of_zero_clause)
size_of_zero_at h = grown size_of_zero_clause size_of_zero h

-- (NOT (NUMBERP A)), (NOT (EQUAL (COUNT A) A)), (EQUAL (COUNT (ADD1 A)) (ADD1 A))
abbrev size_step_log : List LogLine
size_step_log =
    Ruled (AxiomRow (codes "IF") 2 0)
    ∷ Ruled (AxiomRow (codes "ADD1") 14 0)
    ∷ Ruled (Instance 2 ((codes "X1", (variable "A")) ∷ []))
    ∷ Ruled (Instance 1 ((codes "X", (call1 "NUMBERP" (variable "A"))) ∷ (codes "Y", (variable "A")) ∷ (codes "Z", (call0 "ZERO")) ∷ []))
    ∷ Ruled (Reflexive (call1 "ADD1" (variable "A")))
    ∷ Ruled (Replace 5 1 (1 ∷ 1 ∷ []) (call3 "IF" (call1 "NUMBERP" (variable "A")) (variable "A") (call0 "ZERO")) Backwards)
    ∷ Ruled (Cut 4 6 (call2 "EQUAL" (call3 "IF" (call1 "NUMBERP" (variable "A")) (variable "A") (call0 "ZERO")) (variable "A")))
    ∷ Ruled (Replace 7 2 (1 ∷ 1 ∷ 2 ∷ []) (call1 "COUNT" (variable "A")) Backwards)
    ∷ Ruled (Replace 8 2 (1 ∷ []) (call1 "COUNT" (call1 "ADD1" (variable "A"))) Backwards)
    ∷ Ruled (Cut 3 9 (call2 "EQUAL" (call1 "COUNT" (call1 "ADD1" (variable "A"))) (call1 "ADD1" (call3 "IF" (call1 "NUMBERP" (variable "A")) (call1 "COUNT" (variable "A")) (call0 "ZERO")))))
    ∷ Ruled (Taut ((call1 "NOT" (call2 "EQUAL" (call1 "COUNT" (call1 "ADD1" (variable "A"))) (call1 "ADD1" (variable "A")))) ∷ (call2 "EQUAL" (call1 "COUNT" (call1 "ADD1" (variable "A"))) (call1 "ADD1" (variable "A"))) ∷ []))
    ∷ Ruled (Cut 10 11 (call2 "EQUAL" (call1 "COUNT" (call1 "ADD1" (variable "A"))) (call1 "ADD1" (variable "A")))) ∷ []

pub size_step : Derivable [] (clause size_step_clause)
unfolding symbols_of number_of
size_step = everywhere [] size_step_log size_step_clause refl tt refl

pub size_step_at : (h : History) (a : Term) → IsTerm (symbols_of h) a → Derivable h (clause ((call1 "NUMBERP" a) ∷ [])) → Derivable h (clause ((call2 "EQUAL" (call1 "COUNT" a) a) ∷ [])) → Derivable h (clause ((call2 "EQUAL" (call1 "COUNT" (call1 "ADD1" a)) (call1 "ADD1" a)) ∷ []))
size_step_at h a oa d1 d2 =
    by_law h ((call1 "NUMBERP" (variable "A")) ∷ (call2 "EQUAL" (call1 "COUNT" (variable "A")) (variable "A")) ∷ []) (call2 "EQUAL" (call1 "COUNT" (call1 "ADD1" (variable "A"))) (call1 "ADD1" (variable "A"))) ((codes "A", a) ∷ []) (grown size_step_clause size_step h) (d1, (d2, tt)) ((equal_symbol h, (count_symbol h, (add1_symbol h, oa))), (add1_symbol h, oa))

pub laws_of_parts_hold : AreDerivable laws_of_parts
laws_of_parts_hold h = (grown sub1_of_add1_clause sub1_of_add1 h, (grown sub1_of_zero_numeral_clause sub1_of_zero_numeral h, (grown part_of_negative_clause part_of_negative h, (grown first_of_pair_clause first_of_pair h, (grown rest_of_pair_clause rest_of_pair h, (grown part_of_atom_clause part_of_atom h, (grown first_of_other_clause first_of_other h, (grown rest_of_other_clause rest_of_other h, (grown atom_part_of_other_clause atom_part_of_other h, (grown negative_part_of_other_clause negative_part_of_other h, (grown add1_of_other_clause add1_of_other h, (grown negative_of_other_clause negative_of_other h, (grown size_of_zero_clause size_of_zero h, (grown size_step_clause size_step h, tt))))))))))))))
