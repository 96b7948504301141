-- Laws of each ground function, which equals the body of its definition; IDENTITY is among the parts in the ground history, each by a log over earlier ones, and at terms of any history.
use Rattle.std.proofs.Common.{List, [], ◌∷◌, refl}
use Rattle.std.specs.Prelude.{codes}
use Rattle.nq_logic.specs.Terms.{Term, IsTerm}
use Rattle.nq_logic.specs.Words.{variable, call0, call1, call2, call3, numeral, literal_atom}
use Rattle.nq_logic.specs.Histories.{History}
use Rattle.nq_logic.specs.Ground.{symbols_of}
use Rattle.nq_logic.specs.Numerals.{number_of}
use Rattle.nq_logic.specs.Formulas.{clause}
use Rattle.nq_logic.specs.Derivations.{Derivable}
use Rattle.nq_proof.specs.Rules.{AxiomRow}
use Rattle.nq_proof.specs.Logs.{LogLine, Ruled}
use Rattle.nq_proof.proofs.SoundLogs.{everywhere, grown}
use Rattle.nq_proof.proofs.ByLaw.{by_law}
use Rattle.nq_proof.proofs.ValueSymbols.{literal_atom_over}
use Rattle.nq_laws.specs.Laws.{AreDerivable}
use Rattle.nq_logic.proofs.Symbols.{add1_symbol, add_to_set_symbol, and_symbol, append_symbol, assoc_symbol, car_symbol, cdr_symbol, cons_symbol, difference_symbol, equal_symbol, false_symbol, falsep_symbol, fix_symbol, geq_symbol, greaterp_symbol, if_symbol, iff_symbol, implies_symbol, leq_symbol, lessp_symbol, listp_symbol, max_symbol, member_symbol, nlistp_symbol, not_symbol, numberp_symbol, or_symbol, ord_lessp_symbol, ordinalp_symbol, pairlist_symbol, plus_symbol, quotient_symbol, remainder_symbol, sub1_symbol, times_symbol, true_symbol, truep_symbol, union_symbol, zero_symbol, zerop_symbol}
use Rattle.nq_laws.specs.Definitions.{plus_opens_clause, fix_opens_clause, zerop_opens_clause, ordinalp_opens_clause, ord_lessp_opens_clause, lessp_opens_clause, times_opens_clause, implies_opens_clause, not_opens_clause, and_opens_clause, or_opens_clause, iff_opens_clause, truep_opens_clause, falsep_opens_clause, nlistp_opens_clause, greaterp_opens_clause, leq_opens_clause, geq_opens_clause, max_opens_clause, difference_opens_clause, quotient_opens_clause, remainder_opens_clause, append_opens_clause, member_opens_clause, union_opens_clause, add_to_set_opens_clause, assoc_opens_clause, pairlist_opens_clause, laws_of_definitions}

-- (EQUAL (PLUS X Y) (IF (ZEROP X) (FIX Y) (ADD1 (PLUS (SUB1 X) Y))))
abbrev plus_opens_log : List LogLine
plus_opens_log =
    Ruled (AxiomRow (codes "PLUS") 1 0) ∷ []

pub plus_opens : Derivable [] (clause plus_opens_clause)
unfolding symbols_of number_of
plus_opens = everywhere [] plus_opens_log plus_opens_clause refl tt refl

pub plus_opens_at : (h : History) (x y : Term) → IsTerm (symbols_of h) x → IsTerm (symbols_of h) y → Derivable h (clause ((call2 "EQUAL" (call2 "PLUS" x y) (call3 "IF" (call1 "ZEROP" x) (call1 "FIX" y) (call1 "ADD1" (call2 "PLUS" (call1 "SUB1" x) y)))) ∷ []))
plus_opens_at h x y ox oy =
    by_law h [] (call2 "EQUAL" (call2 "PLUS" (variable "X") (variable "Y")) (call3 "IF" (call1 "ZEROP" (variable "X")) (call1 "FIX" (variable "Y")) (call1 "ADD1" (call2 "PLUS" (call1 "SUB1" (variable "X")) (variable "Y"))))) ((codes "X", x) ∷ (codes "Y", y) ∷ []) (grown plus_opens_clause plus_opens h) tt ((equal_symbol h, ((plus_symbol h, ox), oy)), (((if_symbol h, (zerop_symbol h, ox)), (fix_symbol h, oy)), (add1_symbol h, ((plus_symbol h, (sub1_symbol h, ox)), oy))))

-- (EQUAL (FIX X) (IF (NUMBERP X) X 0))
abbrev fix_opens_log : List LogLine
fix_opens_log =
    Ruled (AxiomRow (codes "FIX") 1 0) ∷ []

pub fix_opens : Derivable [] (clause fix_opens_clause)
unfolding symbols_of number_of
fix_opens = everywhere [] fix_opens_log fix_opens_clause refl tt refl

pub fix_opens_at : (h : History) (x : Term) → IsTerm (symbols_of h) x → Derivable h (clause ((call2 "EQUAL" (call1 "FIX" x) (call3 "IF" (call1 "NUMBERP" x) x (call0 "ZERO"))) ∷ []))
fix_opens_at h x ox =
    by_law h [] (call2 "EQUAL" (call1 "FIX" (variable "X")) (call3 "IF" (call1 "NUMBERP" (variable "X")) (variable "X") (call0 "ZERO"))) ((codes "X", x) ∷ []) (grown fix_opens_clause fix_opens h) tt ((equal_symbol h, (fix_symbol h, ox)), (((if_symbol h, (numberp_symbol h, ox)), ox), (zero_symbol h)))

-- (EQUAL (ZEROP X) (IF (EQUAL X 0) T (IF (NUMBERP X) F T)))
abbrev zerop_opens_log : List LogLine
zerop_opens_log =
    Ruled (AxiomRow (codes "ZEROP") 1 0) ∷ []

pub zerop_opens : Derivable [] (clause zerop_opens_clause)
unfolding symbols_of number_of
zerop_opens = everywhere [] zerop_opens_log zerop_opens_clause refl tt refl

pub zerop_opens_at : (h : History) (x : Term) → IsTerm (symbols_of h) x → Derivable h (clause ((call2 "EQUAL" (call1 "ZEROP" x) (call3 "IF" (call2 "EQUAL" x (call0 "ZERO")) (call0 "TRUE") (call3 "IF" (call1 "NUMBERP" x) (call0 "FALSE") (call0 "TRUE")))) ∷ []))
zerop_opens_at h x ox =
    by_law h [] (call2 "EQUAL" (call1 "ZEROP" (variable "X")) (call3 "IF" (call2 "EQUAL" (variable "X") (call0 "ZERO")) (call0 "TRUE") (call3 "IF" (call1 "NUMBERP" (variable "X")) (call0 "FALSE") (call0 "TRUE")))) ((codes "X", x) ∷ []) (grown zerop_opens_clause zerop_opens h) tt ((equal_symbol h, (zerop_symbol h, ox)), (((if_symbol h, ((equal_symbol h, ox), (zero_symbol h))), (true_symbol h)), (((if_symbol h, (numberp_symbol h, ox)), (false_symbol h)), (true_symbol h))))

-- (EQUAL (ORDINALP X) (IF (LISTP X) (AND (ORDINALP (CAR X)) (AND (NOT (EQUAL (CAR X) 0)) (AND (ORDINALP (CDR X)) (OR (NOT (LISTP (CDR X))) (NOT (ORD-LESSP (CAR X) (CAR (CDR X)))))))) (NUMBERP X)))
abbrev ordinalp_opens_log : List LogLine
ordinalp_opens_log =
    Ruled (AxiomRow (codes "ORDINALP") 1 0) ∷ []

pub ordinalp_opens : Derivable [] (clause ordinalp_opens_clause)
unfolding symbols_of number_of
ordinalp_opens = everywhere [] ordinalp_opens_log ordinalp_opens_clause refl tt refl

pub ordinalp_opens_at : (h : History) (x : Term) → IsTerm (symbols_of h) x → Derivable h (clause ((call2 "EQUAL" (call1 "ORDINALP" x) (call3 "IF" (call1 "LISTP" x) (call2 "AND" (call1 "ORDINALP" (call1 "CAR" x)) (call2 "AND" (call1 "NOT" (call2 "EQUAL" (call1 "CAR" x) (call0 "ZERO"))) (call2 "AND" (call1 "ORDINALP" (call1 "CDR" x)) (call2 "OR" (call1 "NOT" (call1 "LISTP" (call1 "CDR" x))) (call1 "NOT" (call2 "ORD-LESSP" (call1 "CAR" x) (call1 "CAR" (call1 "CDR" x)))))))) (call1 "NUMBERP" x))) ∷ []))
ordinalp_opens_at h x ox =
    by_law h [] (call2 "EQUAL" (call1 "ORDINALP" (variable "X")) (call3 "IF" (call1 "LISTP" (variable "X")) (call2 "AND" (call1 "ORDINALP" (call1 "CAR" (variable "X"))) (call2 "AND" (call1 "NOT" (call2 "EQUAL" (call1 "CAR" (variable "X")) (call0 "ZERO"))) (call2 "AND" (call1 "ORDINALP" (call1 "CDR" (variable "X"))) (call2 "OR" (call1 "NOT" (call1 "LISTP" (call1 "CDR" (variable "X")))) (call1 "NOT" (call2 "ORD-LESSP" (call1 "CAR" (variable "X")) (call1 "CAR" (call1 "CDR" (variable "X"))))))))) (call1 "NUMBERP" (variable "X")))) ((codes "X", x) ∷ []) (grown ordinalp_opens_clause ordinalp_opens h) tt ((equal_symbol h, (ordinalp_symbol h, ox)), (((if_symbol h, (listp_symbol h, ox)), ((and_symbol h, (ordinalp_symbol h, (car_symbol h, ox))), ((and_symbol h, (not_symbol h, ((equal_symbol h, (car_symbol h, ox)), (zero_symbol h)))), ((and_symbol h, (ordinalp_symbol h, (cdr_symbol h, ox))), ((or_symbol h, (not_symbol h, (listp_symbol h, (cdr_symbol h, ox)))), (not_symbol h, ((ord_lessp_symbol h, (car_symbol h, ox)), (car_symbol h, (cdr_symbol h, ox))))))))), (numberp_symbol h, ox)))

-- (EQUAL (ORD-LESSP X Y) (IF (NOT (LISTP X)) (IF (NOT (LISTP Y)) (LESSP X Y) T) (IF (NOT (LISTP Y)) F (IF (ORD-LESSP (CAR X) (CAR Y)) T (AND (EQUAL (CAR X) (CAR Y)) (ORD-LESSP (CDR X) (CDR Y)))))))
abbrev ord_lessp_opens_log : List LogLine
ord_lessp_opens_log =
    Ruled (AxiomRow (codes "ORD-LESSP") 1 0) ∷ []

pub ord_lessp_opens : Derivable [] (clause ord_lessp_opens_clause)
unfolding symbols_of number_of
ord_lessp_opens = everywhere [] ord_lessp_opens_log ord_lessp_opens_clause refl tt refl

pub ord_lessp_opens_at : (h : History) (x y : Term) → IsTerm (symbols_of h) x → IsTerm (symbols_of h) y → Derivable h (clause ((call2 "EQUAL" (call2 "ORD-LESSP" x y) (call3 "IF" (call1 "NOT" (call1 "LISTP" x)) (call3 "IF" (call1 "NOT" (call1 "LISTP" y)) (call2 "LESSP" x y) (call0 "TRUE")) (call3 "IF" (call1 "NOT" (call1 "LISTP" y)) (call0 "FALSE") (call3 "IF" (call2 "ORD-LESSP" (call1 "CAR" x) (call1 "CAR" y)) (call0 "TRUE") (call2 "AND" (call2 "EQUAL" (call1 "CAR" x) (call1 "CAR" y)) (call2 "ORD-LESSP" (call1 "CDR" x) (call1 "CDR" y))))))) ∷ []))
ord_lessp_opens_at h x y ox oy =
    by_law h [] (call2 "EQUAL" (call2 "ORD-LESSP" (variable "X") (variable "Y")) (call3 "IF" (call1 "NOT" (call1 "LISTP" (variable "X"))) (call3 "IF" (call1 "NOT" (call1 "LISTP" (variable "Y"))) (call2 "LESSP" (variable "X") (variable "Y")) (call0 "TRUE")) (call3 "IF" (call1 "NOT" (call1 "LISTP" (variable "Y"))) (call0 "FALSE") (call3 "IF" (call2 "ORD-LESSP" (call1 "CAR" (variable "X")) (call1 "CAR" (variable "Y"))) (call0 "TRUE") (call2 "AND" (call2 "EQUAL" (call1 "CAR" (variable "X")) (call1 "CAR" (variable "Y"))) (call2 "ORD-LESSP" (call1 "CDR" (variable "X")) (call1 "CDR" (variable "Y")))))))) ((codes "X", x) ∷ (codes "Y", y) ∷ []) (grown ord_lessp_opens_clause ord_lessp_opens h) tt ((equal_symbol h, ((ord_lessp_symbol h, ox), oy)), (((if_symbol h, (not_symbol h, (listp_symbol h, ox))), (((if_symbol h, (not_symbol h, (listp_symbol h, oy))), ((lessp_symbol h, ox), oy)), (true_symbol h))), (((if_symbol h, (not_symbol h, (listp_symbol h, oy))), (false_symbol h)), (((if_symbol h, ((ord_lessp_symbol h, (car_symbol h, ox)), (car_symbol h, oy))), (true_symbol h)), ((and_symbol h, ((equal_symbol h, (car_symbol h, ox)), (car_symbol h, oy))), ((ord_lessp_symbol h, (cdr_symbol h, ox)), (cdr_symbol h, oy)))))))

-- (EQUAL (LESSP X Y) (IF (ZEROP Y) F (IF (ZEROP X) T (LESSP (SUB1 X) (SUB1 Y)))))
abbrev lessp_opens_log : List LogLine
lessp_opens_log =
    Ruled (AxiomRow (codes "LESSP") 1 0) ∷ []

pub lessp_opens : Derivable [] (clause lessp_opens_clause)
unfolding symbols_of number_of
lessp_opens = everywhere [] lessp_opens_log lessp_opens_clause refl tt refl

pub lessp_opens_at : (h : History) (x y : Term) → IsTerm (symbols_of h) x → IsTerm (symbols_of h) y → Derivable h (clause ((call2 "EQUAL" (call2 "LESSP" x y) (call3 "IF" (call1 "ZEROP" y) (call0 "FALSE") (call3 "IF" (call1 "ZEROP" x) (call0 "TRUE") (call2 "LESSP" (call1 "SUB1" x) (call1 "SUB1" y))))) ∷ []))
lessp_opens_at h x y ox oy =
    by_law h [] (call2 "EQUAL" (call2 "LESSP" (variable "X") (variable "Y")) (call3 "IF" (call1 "ZEROP" (variable "Y")) (call0 "FALSE") (call3 "IF" (call1 "ZEROP" (variable "X")) (call0 "TRUE") (call2 "LESSP" (call1 "SUB1" (variable "X")) (call1 "SUB1" (variable "Y")))))) ((codes "X", x) ∷ (codes "Y", y) ∷ []) (grown lessp_opens_clause lessp_opens h) tt ((equal_symbol h, ((lessp_symbol h, ox), oy)), (((if_symbol h, (zerop_symbol h, oy)), (false_symbol h)), (((if_symbol h, (zerop_symbol h, ox)), (true_symbol h)), ((lessp_symbol h, (sub1_symbol h, ox)), (sub1_symbol h, oy)))))

-- (EQUAL (TIMES X Y) (IF (ZEROP X) 0 (PLUS Y (TIMES (SUB1 X) Y))))
abbrev times_opens_log : List LogLine
times_opens_log =
    Ruled (AxiomRow (codes "TIMES") 1 0) ∷ []

pub times_opens : Derivable [] (clause times_opens_clause)
unfolding symbols_of number_of
times_opens = everywhere [] times_opens_log times_opens_clause refl tt refl

pub times_opens_at : (h : History) (x y : Term) → IsTerm (symbols_of h) x → IsTerm (symbols_of h) y → Derivable h (clause ((call2 "EQUAL" (call2 "TIMES" x y) (call3 "IF" (call1 "ZEROP" x) (call0 "ZERO") (call2 "PLUS" y (call2 "TIMES" (call1 "SUB1" x) y)))) ∷ []))
times_opens_at h x y ox oy =
    by_law h [] (call2 "EQUAL" (call2 "TIMES" (variable "X") (variable "Y")) (call3 "IF" (call1 "ZEROP" (variable "X")) (call0 "ZERO") (call2 "PLUS" (variable "Y") (call2 "TIMES" (call1 "SUB1" (variable "X")) (variable "Y"))))) ((codes "X", x) ∷ (codes "Y", y) ∷ []) (grown times_opens_clause times_opens h) tt ((equal_symbol h, ((times_symbol h, ox), oy)), (((if_symbol h, (zerop_symbol h, ox)), (zero_symbol h)), ((plus_symbol h, oy), ((times_symbol h, (sub1_symbol h, ox)), oy))))

-- (EQUAL (IMPLIES P Q) (IF P (IF Q T F) T))
abbrev implies_opens_log : List LogLine
implies_opens_log =
    Ruled (AxiomRow (codes "IMPLIES") 1 0) ∷ []

pub implies_opens : Derivable [] (clause implies_opens_clause)
unfolding symbols_of number_of
implies_opens = everywhere [] implies_opens_log implies_opens_clause refl tt refl

pub implies_opens_at : (h : History) (p q : Term) → IsTerm (symbols_of h) p → IsTerm (symbols_of h) q → Derivable h (clause ((call2 "EQUAL" (call2 "IMPLIES" p q) (call3 "IF" p (call3 "IF" q (call0 "TRUE") (call0 "FALSE")) (call0 "TRUE"))) ∷ []))
implies_opens_at h p q op oq =
    by_law h [] (call2 "EQUAL" (call2 "IMPLIES" (variable "P") (variable "Q")) (call3 "IF" (variable "P") (call3 "IF" (variable "Q") (call0 "TRUE") (call0 "FALSE")) (call0 "TRUE"))) ((codes "P", p) ∷ (codes "Q", q) ∷ []) (grown implies_opens_clause implies_opens h) tt ((equal_symbol h, ((implies_symbol h, op), oq)), (((if_symbol h, op), (((if_symbol h, oq), (true_symbol h)), (false_symbol h))), (true_symbol h)))

-- (EQUAL (NOT P) (IF P F T))
abbrev not_opens_log : List LogLine
not_opens_log =
    Ruled (AxiomRow (codes "NOT") 1 0) ∷ []

pub not_opens : Derivable [] (clause not_opens_clause)
unfolding symbols_of number_of
not_opens = everywhere [] not_opens_log not_opens_clause refl tt refl

pub not_opens_at : (h : History) (p : Term) → IsTerm (symbols_of h) p → Derivable h (clause ((call2 "EQUAL" (call1 "NOT" p) (call3 "IF" p (call0 "FALSE") (call0 "TRUE"))) ∷ []))
not_opens_at h p op =
    by_law h [] (call2 "EQUAL" (call1 "NOT" (variable "P")) (call3 "IF" (variable "P") (call0 "FALSE") (call0 "TRUE"))) ((codes "P", p) ∷ []) (grown not_opens_clause not_opens h) tt ((equal_symbol h, (not_symbol h, op)), (((if_symbol h, op), (false_symbol h)), (true_symbol h)))

-- (EQUAL (AND P Q) (IF P (IF Q T F) F))
abbrev and_opens_log : List LogLine
and_opens_log =
    Ruled (AxiomRow (codes "AND") 1 0) ∷ []

pub and_opens : Derivable [] (clause and_opens_clause)
unfolding symbols_of number_of
and_opens = everywhere [] and_opens_log and_opens_clause refl tt refl

pub and_opens_at : (h : History) (p q : Term) → IsTerm (symbols_of h) p → IsTerm (symbols_of h) q → Derivable h (clause ((call2 "EQUAL" (call2 "AND" p q) (call3 "IF" p (call3 "IF" q (call0 "TRUE") (call0 "FALSE")) (call0 "FALSE"))) ∷ []))
and_opens_at h p q op oq =
    by_law h [] (call2 "EQUAL" (call2 "AND" (variable "P") (variable "Q")) (call3 "IF" (variable "P") (call3 "IF" (variable "Q") (call0 "TRUE") (call0 "FALSE")) (call0 "FALSE"))) ((codes "P", p) ∷ (codes "Q", q) ∷ []) (grown and_opens_clause and_opens h) tt ((equal_symbol h, ((and_symbol h, op), oq)), (((if_symbol h, op), (((if_symbol h, oq), (true_symbol h)), (false_symbol h))), (false_symbol h)))

-- (EQUAL (OR P Q) (IF P T (IF Q T F)))
abbrev or_opens_log : List LogLine
or_opens_log =
    Ruled (AxiomRow (codes "OR") 1 0) ∷ []

pub or_opens : Derivable [] (clause or_opens_clause)
unfolding symbols_of number_of
or_opens = everywhere [] or_opens_log or_opens_clause refl tt refl

pub or_opens_at : (h : History) (p q : Term) → IsTerm (symbols_of h) p → IsTerm (symbols_of h) q → Derivable h (clause ((call2 "EQUAL" (call2 "OR" p q) (call3 "IF" p (call0 "TRUE") (call3 "IF" q (call0 "TRUE") (call0 "FALSE")))) ∷ []))
or_opens_at h p q op oq =
    by_law h [] (call2 "EQUAL" (call2 "OR" (variable "P") (variable "Q")) (call3 "IF" (variable "P") (call0 "TRUE") (call3 "IF" (variable "Q") (call0 "TRUE") (call0 "FALSE")))) ((codes "P", p) ∷ (codes "Q", q) ∷ []) (grown or_opens_clause or_opens h) tt ((equal_symbol h, ((or_symbol h, op), oq)), (((if_symbol h, op), (true_symbol h)), (((if_symbol h, oq), (true_symbol h)), (false_symbol h))))

-- (EQUAL (IFF P Q) (IF P (IF Q T F) (IF Q F T)))
abbrev iff_opens_log : List LogLine
iff_opens_log =
    Ruled (AxiomRow (codes "IFF") 1 0) ∷ []

pub iff_opens : Derivable [] (clause iff_opens_clause)
unfolding symbols_of number_of
iff_opens = everywhere [] iff_opens_log iff_opens_clause refl tt refl

pub iff_opens_at : (h : History) (p q : Term) → IsTerm (symbols_of h) p → IsTerm (symbols_of h) q → Derivable h (clause ((call2 "EQUAL" (call2 "IFF" p q) (call3 "IF" p (call3 "IF" q (call0 "TRUE") (call0 "FALSE")) (call3 "IF" q (call0 "FALSE") (call0 "TRUE")))) ∷ []))
iff_opens_at h p q op oq =
    by_law h [] (call2 "EQUAL" (call2 "IFF" (variable "P") (variable "Q")) (call3 "IF" (variable "P") (call3 "IF" (variable "Q") (call0 "TRUE") (call0 "FALSE")) (call3 "IF" (variable "Q") (call0 "FALSE") (call0 "TRUE")))) ((codes "P", p) ∷ (codes "Q", q) ∷ []) (grown iff_opens_clause iff_opens h) tt ((equal_symbol h, ((iff_symbol h, op), oq)), (((if_symbol h, op), (((if_symbol h, oq), (true_symbol h)), (false_symbol h))), (((if_symbol h, oq), (false_symbol h)), (true_symbol h))))

-- (EQUAL (TRUEP X) (EQUAL X T))
abbrev truep_opens_log : List LogLine
truep_opens_log =
    Ruled (AxiomRow (codes "TRUEP") 1 0) ∷ []

pub truep_opens : Derivable [] (clause truep_opens_clause)
unfolding symbols_of number_of
truep_opens = everywhere [] truep_opens_log truep_opens_clause refl tt refl

pub truep_opens_at : (h : History) (x : Term) → IsTerm (symbols_of h) x → Derivable h (clause ((call2 "EQUAL" (call1 "TRUEP" x) (call2 "EQUAL" x (call0 "TRUE"))) ∷ []))
truep_opens_at h x ox =
    by_law h [] (call2 "EQUAL" (call1 "TRUEP" (variable "X")) (call2 "EQUAL" (variable "X") (call0 "TRUE"))) ((codes "X", x) ∷ []) (grown truep_opens_clause truep_opens h) tt ((equal_symbol h, (truep_symbol h, ox)), ((equal_symbol h, ox), (true_symbol h)))

-- (EQUAL (FALSEP X) (EQUAL X F))
abbrev falsep_opens_log : List LogLine
falsep_opens_log =
    Ruled (AxiomRow (codes "FALSEP") 1 0) ∷ []

pub falsep_opens : Derivable [] (clause falsep_opens_clause)
unfolding symbols_of number_of
falsep_opens = everywhere [] falsep_opens_log falsep_opens_clause refl tt refl

pub falsep_opens_at : (h : History) (x : Term) → IsTerm (symbols_of h) x → Derivable h (clause ((call2 "EQUAL" (call1 "FALSEP" x) (call2 "EQUAL" x (call0 "FALSE"))) ∷ []))
falsep_opens_at h x ox =
    by_law h [] (call2 "EQUAL" (call1 "FALSEP" (variable "X")) (call2 "EQUAL" (variable "X") (call0 "FALSE"))) ((codes "X", x) ∷ []) (grown falsep_opens_clause falsep_opens h) tt ((equal_symbol h, (falsep_symbol h, ox)), ((equal_symbol h, ox), (false_symbol h)))

-- (EQUAL (NLISTP X) (NOT (LISTP X)))
abbrev nlistp_opens_log : List LogLine
nlistp_opens_log =
    Ruled (AxiomRow (codes "NLISTP") 1 0) ∷ []

pub nlistp_opens : Derivable [] (clause nlistp_opens_clause)
unfolding symbols_of number_of
nlistp_opens = everywhere [] nlistp_opens_log nlistp_opens_clause refl tt refl

pub nlistp_opens_at : (h : History) (x : Term) → IsTerm (symbols_of h) x → Derivable h (clause ((call2 "EQUAL" (call1 "NLISTP" x) (call1 "NOT" (call1 "LISTP" x))) ∷ []))
nlistp_opens_at h x ox =
    by_law h [] (call2 "EQUAL" (call1 "NLISTP" (variable "X")) (call1 "NOT" (call1 "LISTP" (variable "X")))) ((codes "X", x) ∷ []) (grown nlistp_opens_clause nlistp_opens h) tt ((equal_symbol h, (nlistp_symbol h, ox)), (not_symbol h, (listp_symbol h, ox)))

-- (EQUAL (GREATERP X Y) (LESSP Y X))
abbrev greaterp_opens_log : List LogLine
greaterp_opens_log =
    Ruled (AxiomRow (codes "GREATERP") 1 0) ∷ []

pub greaterp_opens : Derivable [] (clause greaterp_opens_clause)
unfolding symbols_of number_of
greaterp_opens = everywhere [] greaterp_opens_log greaterp_opens_clause refl tt refl

pub greaterp_opens_at : (h : History) (x y : Term) → IsTerm (symbols_of h) x → IsTerm (symbols_of h) y → Derivable h (clause ((call2 "EQUAL" (call2 "GREATERP" x y) (call2 "LESSP" y x)) ∷ []))
greaterp_opens_at h x y ox oy =
    by_law h [] (call2 "EQUAL" (call2 "GREATERP" (variable "X") (variable "Y")) (call2 "LESSP" (variable "Y") (variable "X"))) ((codes "X", x) ∷ (codes "Y", y) ∷ []) (grown greaterp_opens_clause greaterp_opens h) tt ((equal_symbol h, ((greaterp_symbol h, ox), oy)), ((lessp_symbol h, oy), ox))

-- (EQUAL (LEQ X Y) (NOT (LESSP Y X)))
abbrev leq_opens_log : List LogLine
leq_opens_log =
    Ruled (AxiomRow (codes "LEQ") 1 0) ∷ []

pub leq_opens : Derivable [] (clause leq_opens_clause)
unfolding symbols_of number_of
leq_opens = everywhere [] leq_opens_log leq_opens_clause refl tt refl

pub leq_opens_at : (h : History) (x y : Term) → IsTerm (symbols_of h) x → IsTerm (symbols_of h) y → Derivable h (clause ((call2 "EQUAL" (call2 "LEQ" x y) (call1 "NOT" (call2 "LESSP" y x))) ∷ []))
leq_opens_at h x y ox oy =
    by_law h [] (call2 "EQUAL" (call2 "LEQ" (variable "X") (variable "Y")) (call1 "NOT" (call2 "LESSP" (variable "Y") (variable "X")))) ((codes "X", x) ∷ (codes "Y", y) ∷ []) (grown leq_opens_clause leq_opens h) tt ((equal_symbol h, ((leq_symbol h, ox), oy)), (not_symbol h, ((lessp_symbol h, oy), ox)))

-- (EQUAL (GEQ X Y) (NOT (LESSP X Y)))
abbrev geq_opens_log : List LogLine
geq_opens_log =
    Ruled (AxiomRow (codes "GEQ") 1 0) ∷ []

pub geq_opens : Derivable [] (clause geq_opens_clause)
unfolding symbols_of number_of
geq_opens = everywhere [] geq_opens_log geq_opens_clause refl tt refl

pub geq_opens_at : (h : History) (x y : Term) → IsTerm (symbols_of h) x → IsTerm (symbols_of h) y → Derivable h (clause ((call2 "EQUAL" (call2 "GEQ" x y) (call1 "NOT" (call2 "LESSP" x y))) ∷ []))
geq_opens_at h x y ox oy =
    by_law h [] (call2 "EQUAL" (call2 "GEQ" (variable "X") (variable "Y")) (call1 "NOT" (call2 "LESSP" (variable "X") (variable "Y")))) ((codes "X", x) ∷ (codes "Y", y) ∷ []) (grown geq_opens_clause geq_opens h) tt ((equal_symbol h, ((geq_symbol h, ox), oy)), (not_symbol h, ((lessp_symbol h, ox), oy)))

-- (EQUAL (MAX X Y) (IF (LESSP X Y) Y (FIX X)))
abbrev max_opens_log : List LogLine
max_opens_log =
    Ruled (AxiomRow (codes "MAX") 1 0) ∷ []

pub max_opens : Derivable [] (clause max_opens_clause)
unfolding symbols_of number_of
max_opens = everywhere [] max_opens_log max_opens_clause refl tt refl

pub max_opens_at : (h : History) (x y : Term) → IsTerm (symbols_of h) x → IsTerm (symbols_of h) y → Derivable h (clause ((call2 "EQUAL" (call2 "MAX" x y) (call3 "IF" (call2 "LESSP" x y) y (call1 "FIX" x))) ∷ []))
max_opens_at h x y ox oy =
    by_law h [] (call2 "EQUAL" (call2 "MAX" (variable "X") (variable "Y")) (call3 "IF" (call2 "LESSP" (variable "X") (variable "Y")) (variable "Y") (call1 "FIX" (variable "X")))) ((codes "X", x) ∷ (codes "Y", y) ∷ []) (grown max_opens_clause max_opens h) tt ((equal_symbol h, ((max_symbol h, ox), oy)), (((if_symbol h, ((lessp_symbol h, ox), oy)), oy), (fix_symbol h, ox)))

-- (EQUAL (DIFFERENCE X Y) (IF (ZEROP X) 0 (IF (ZEROP Y) X (DIFFERENCE (SUB1 X) (SUB1 Y)))))
abbrev difference_opens_log : List LogLine
difference_opens_log =
    Ruled (AxiomRow (codes "DIFFERENCE") 1 0) ∷ []

pub difference_opens : Derivable [] (clause difference_opens_clause)
unfolding symbols_of number_of
difference_opens = everywhere [] difference_opens_log difference_opens_clause refl tt refl

pub difference_opens_at : (h : History) (x y : Term) → IsTerm (symbols_of h) x → IsTerm (symbols_of h) y → Derivable h (clause ((call2 "EQUAL" (call2 "DIFFERENCE" x y) (call3 "IF" (call1 "ZEROP" x) (call0 "ZERO") (call3 "IF" (call1 "ZEROP" y) x (call2 "DIFFERENCE" (call1 "SUB1" x) (call1 "SUB1" y))))) ∷ []))
difference_opens_at h x y ox oy =
    by_law h [] (call2 "EQUAL" (call2 "DIFFERENCE" (variable "X") (variable "Y")) (call3 "IF" (call1 "ZEROP" (variable "X")) (call0 "ZERO") (call3 "IF" (call1 "ZEROP" (variable "Y")) (variable "X") (call2 "DIFFERENCE" (call1 "SUB1" (variable "X")) (call1 "SUB1" (variable "Y")))))) ((codes "X", x) ∷ (codes "Y", y) ∷ []) (grown difference_opens_clause difference_opens h) tt ((equal_symbol h, ((difference_symbol h, ox), oy)), (((if_symbol h, (zerop_symbol h, ox)), (zero_symbol h)), (((if_symbol h, (zerop_symbol h, oy)), ox), ((difference_symbol h, (sub1_symbol h, ox)), (sub1_symbol h, oy)))))

-- (EQUAL (QUOTIENT X Y) (IF (ZEROP Y) 0 (IF (LESSP X Y) 0 (ADD1 (QUOTIENT (DIFFERENCE X Y) Y)))))
abbrev quotient_opens_log : List LogLine
quotient_opens_log =
    Ruled (AxiomRow (codes "QUOTIENT") 1 0) ∷ []

pub quotient_opens : Derivable [] (clause quotient_opens_clause)
unfolding symbols_of number_of
quotient_opens = everywhere [] quotient_opens_log quotient_opens_clause refl tt refl

pub quotient_opens_at : (h : History) (x y : Term) → IsTerm (symbols_of h) x → IsTerm (symbols_of h) y → Derivable h (clause ((call2 "EQUAL" (call2 "QUOTIENT" x y) (call3 "IF" (call1 "ZEROP" y) (call0 "ZERO") (call3 "IF" (call2 "LESSP" x y) (call0 "ZERO") (call1 "ADD1" (call2 "QUOTIENT" (call2 "DIFFERENCE" x y) y))))) ∷ []))
quotient_opens_at h x y ox oy =
    by_law h [] (call2 "EQUAL" (call2 "QUOTIENT" (variable "X") (variable "Y")) (call3 "IF" (call1 "ZEROP" (variable "Y")) (call0 "ZERO") (call3 "IF" (call2 "LESSP" (variable "X") (variable "Y")) (call0 "ZERO") (call1 "ADD1" (call2 "QUOTIENT" (call2 "DIFFERENCE" (variable "X") (variable "Y")) (variable "Y")))))) ((codes "X", x) ∷ (codes "Y", y) ∷ []) (grown quotient_opens_clause quotient_opens h) tt ((equal_symbol h, ((quotient_symbol h, ox), oy)), (((if_symbol h, (zerop_symbol h, oy)), (zero_symbol h)), (((if_symbol h, ((lessp_symbol h, ox), oy)), (zero_symbol h)), (add1_symbol h, ((quotient_symbol h, ((difference_symbol h, ox), oy)), oy)))))

-- (EQUAL (REMAINDER X Y) (IF (ZEROP Y) (FIX X) (IF (LESSP X Y) (FIX X) (REMAINDER (DIFFERENCE X Y) Y))))
abbrev remainder_opens_log : List LogLine
remainder_opens_log =
    Ruled (AxiomRow (codes "REMAINDER") 1 0) ∷ []

pub remainder_opens : Derivable [] (clause remainder_opens_clause)
unfolding symbols_of number_of
remainder_opens = everywhere [] remainder_opens_log remainder_opens_clause refl tt refl

pub remainder_opens_at : (h : History) (x y : Term) → IsTerm (symbols_of h) x → IsTerm (symbols_of h) y → Derivable h (clause ((call2 "EQUAL" (call2 "REMAINDER" x y) (call3 "IF" (call1 "ZEROP" y) (call1 "FIX" x) (call3 "IF" (call2 "LESSP" x y) (call1 "FIX" x) (call2 "REMAINDER" (call2 "DIFFERENCE" x y) y)))) ∷ []))
remainder_opens_at h x y ox oy =
    by_law h [] (call2 "EQUAL" (call2 "REMAINDER" (variable "X") (variable "Y")) (call3 "IF" (call1 "ZEROP" (variable "Y")) (call1 "FIX" (variable "X")) (call3 "IF" (call2 "LESSP" (variable "X") (variable "Y")) (call1 "FIX" (variable "X")) (call2 "REMAINDER" (call2 "DIFFERENCE" (variable "X") (variable "Y")) (variable "Y"))))) ((codes "X", x) ∷ (codes "Y", y) ∷ []) (grown remainder_opens_clause remainder_opens h) tt ((equal_symbol h, ((remainder_symbol h, ox), oy)), (((if_symbol h, (zerop_symbol h, oy)), (fix_symbol h, ox)), (((if_symbol h, ((lessp_symbol h, ox), oy)), (fix_symbol h, ox)), ((remainder_symbol h, ((difference_symbol h, ox), oy)), oy))))

-- (EQUAL (APPEND X Y) (IF (LISTP X) (CONS (CAR X) (APPEND (CDR X) Y)) Y))
abbrev append_opens_log : List LogLine
append_opens_log =
    Ruled (AxiomRow (codes "APPEND") 1 0) ∷ []

pub append_opens : Derivable [] (clause append_opens_clause)
unfolding symbols_of number_of
append_opens = everywhere [] append_opens_log append_opens_clause refl tt refl

pub append_opens_at : (h : History) (x y : Term) → IsTerm (symbols_of h) x → IsTerm (symbols_of h) y → Derivable h (clause ((call2 "EQUAL" (call2 "APPEND" x y) (call3 "IF" (call1 "LISTP" x) (call2 "CONS" (call1 "CAR" x) (call2 "APPEND" (call1 "CDR" x) y)) y)) ∷ []))
append_opens_at h x y ox oy =
    by_law h [] (call2 "EQUAL" (call2 "APPEND" (variable "X") (variable "Y")) (call3 "IF" (call1 "LISTP" (variable "X")) (call2 "CONS" (call1 "CAR" (variable "X")) (call2 "APPEND" (call1 "CDR" (variable "X")) (variable "Y"))) (variable "Y"))) ((codes "X", x) ∷ (codes "Y", y) ∷ []) (grown append_opens_clause append_opens h) tt ((equal_symbol h, ((append_symbol h, ox), oy)), (((if_symbol h, (listp_symbol h, ox)), ((cons_symbol h, (car_symbol h, ox)), ((append_symbol h, (cdr_symbol h, ox)), oy))), oy))

-- (EQUAL (MEMBER X Y) (IF (NLISTP Y) F (IF (EQUAL X (CAR Y)) T (MEMBER X (CDR Y)))))
abbrev member_opens_log : List LogLine
member_opens_log =
    Ruled (AxiomRow (codes "MEMBER") 1 0) ∷ []

pub member_opens : Derivable [] (clause member_opens_clause)
unfolding symbols_of number_of
member_opens = everywhere [] member_opens_log member_opens_clause refl tt refl

pub member_opens_at : (h : History) (x y : Term) → IsTerm (symbols_of h) x → IsTerm (symbols_of h) y → Derivable h (clause ((call2 "EQUAL" (call2 "MEMBER" x y) (call3 "IF" (call1 "NLISTP" y) (call0 "FALSE") (call3 "IF" (call2 "EQUAL" x (call1 "CAR" y)) (call0 "TRUE") (call2 "MEMBER" x (call1 "CDR" y))))) ∷ []))
member_opens_at h x y ox oy =
    by_law h [] (call2 "EQUAL" (call2 "MEMBER" (variable "X") (variable "Y")) (call3 "IF" (call1 "NLISTP" (variable "Y")) (call0 "FALSE") (call3 "IF" (call2 "EQUAL" (variable "X") (call1 "CAR" (variable "Y"))) (call0 "TRUE") (call2 "MEMBER" (variable "X") (call1 "CDR" (variable "Y")))))) ((codes "X", x) ∷ (codes "Y", y) ∷ []) (grown member_opens_clause member_opens h) tt ((equal_symbol h, ((member_symbol h, ox), oy)), (((if_symbol h, (nlistp_symbol h, oy)), (false_symbol h)), (((if_symbol h, ((equal_symbol h, ox), (car_symbol h, oy))), (true_symbol h)), ((member_symbol h, ox), (cdr_symbol h, oy)))))

-- (EQUAL (UNION X Y) (IF (LISTP X) (IF (MEMBER (CAR X) Y) (UNION (CDR X) Y) (CONS (CAR X) (UNION (CDR X) Y))) Y))
abbrev union_opens_log : List LogLine
union_opens_log =
    Ruled (AxiomRow (codes "UNION") 1 0) ∷ []

pub union_opens : Derivable [] (clause union_opens_clause)
unfolding symbols_of number_of
union_opens = everywhere [] union_opens_log union_opens_clause refl tt refl

pub union_opens_at : (h : History) (x y : Term) → IsTerm (symbols_of h) x → IsTerm (symbols_of h) y → Derivable h (clause ((call2 "EQUAL" (call2 "UNION" x y) (call3 "IF" (call1 "LISTP" x) (call3 "IF" (call2 "MEMBER" (call1 "CAR" x) y) (call2 "UNION" (call1 "CDR" x) y) (call2 "CONS" (call1 "CAR" x) (call2 "UNION" (call1 "CDR" x) y))) y)) ∷ []))
union_opens_at h x y ox oy =
    by_law h [] (call2 "EQUAL" (call2 "UNION" (variable "X") (variable "Y")) (call3 "IF" (call1 "LISTP" (variable "X")) (call3 "IF" (call2 "MEMBER" (call1 "CAR" (variable "X")) (variable "Y")) (call2 "UNION" (call1 "CDR" (variable "X")) (variable "Y")) (call2 "CONS" (call1 "CAR" (variable "X")) (call2 "UNION" (call1 "CDR" (variable "X")) (variable "Y")))) (variable "Y"))) ((codes "X", x) ∷ (codes "Y", y) ∷ []) (grown union_opens_clause union_opens h) tt ((equal_symbol h, ((union_symbol h, ox), oy)), (((if_symbol h, (listp_symbol h, ox)), (((if_symbol h, ((member_symbol h, (car_symbol h, ox)), oy)), ((union_symbol h, (cdr_symbol h, ox)), oy)), ((cons_symbol h, (car_symbol h, ox)), ((union_symbol h, (cdr_symbol h, ox)), oy)))), oy))

-- (EQUAL (ADD-TO-SET X Y) (IF (MEMBER X Y) Y (CONS X Y)))
abbrev add_to_set_opens_log : List LogLine
add_to_set_opens_log =
    Ruled (AxiomRow (codes "ADD-TO-SET") 1 0) ∷ []

pub add_to_set_opens : Derivable [] (clause add_to_set_opens_clause)
unfolding symbols_of number_of
add_to_set_opens = everywhere [] add_to_set_opens_log add_to_set_opens_clause refl tt refl

pub add_to_set_opens_at : (h : History) (x y : Term) → IsTerm (symbols_of h) x → IsTerm (symbols_of h) y → Derivable h (clause ((call2 "EQUAL" (call2 "ADD-TO-SET" x y) (call3 "IF" (call2 "MEMBER" x y) y (call2 "CONS" x y))) ∷ []))
add_to_set_opens_at h x y ox oy =
    by_law h [] (call2 "EQUAL" (call2 "ADD-TO-SET" (variable "X") (variable "Y")) (call3 "IF" (call2 "MEMBER" (variable "X") (variable "Y")) (variable "Y") (call2 "CONS" (variable "X") (variable "Y")))) ((codes "X", x) ∷ (codes "Y", y) ∷ []) (grown add_to_set_opens_clause add_to_set_opens h) tt ((equal_symbol h, ((add_to_set_symbol h, ox), oy)), (((if_symbol h, ((member_symbol h, ox), oy)), oy), ((cons_symbol h, ox), oy)))

-- (EQUAL (ASSOC X Y) (IF (LISTP Y) (IF (EQUAL X (CAR (CAR Y))) (CAR Y) (ASSOC X (CDR Y))) F))
abbrev assoc_opens_log : List LogLine
assoc_opens_log =
    Ruled (AxiomRow (codes "ASSOC") 1 0) ∷ []

pub assoc_opens : Derivable [] (clause assoc_opens_clause)
unfolding symbols_of number_of
assoc_opens = everywhere [] assoc_opens_log assoc_opens_clause refl tt refl

pub assoc_opens_at : (h : History) (x y : Term) → IsTerm (symbols_of h) x → IsTerm (symbols_of h) y → Derivable h (clause ((call2 "EQUAL" (call2 "ASSOC" x y) (call3 "IF" (call1 "LISTP" y) (call3 "IF" (call2 "EQUAL" x (call1 "CAR" (call1 "CAR" y))) (call1 "CAR" y) (call2 "ASSOC" x (call1 "CDR" y))) (call0 "FALSE"))) ∷ []))
assoc_opens_at h x y ox oy =
    by_law h [] (call2 "EQUAL" (call2 "ASSOC" (variable "X") (variable "Y")) (call3 "IF" (call1 "LISTP" (variable "Y")) (call3 "IF" (call2 "EQUAL" (variable "X") (call1 "CAR" (call1 "CAR" (variable "Y")))) (call1 "CAR" (variable "Y")) (call2 "ASSOC" (variable "X") (call1 "CDR" (variable "Y")))) (call0 "FALSE"))) ((codes "X", x) ∷ (codes "Y", y) ∷ []) (grown assoc_opens_clause assoc_opens h) tt ((equal_symbol h, ((assoc_symbol h, ox), oy)), (((if_symbol h, (listp_symbol h, oy)), (((if_symbol h, ((equal_symbol h, ox), (car_symbol h, (car_symbol h, oy)))), (car_symbol h, oy)), ((assoc_symbol h, ox), (cdr_symbol h, oy)))), (false_symbol h)))

-- (EQUAL (PAIRLIST X Y) (IF (LISTP X) (CONS (CONS (CAR X) (CAR Y)) (PAIRLIST (CDR X) (CDR Y))) NIL))
abbrev pairlist_opens_log : List LogLine
pairlist_opens_log =
    Ruled (AxiomRow (codes "PAIRLIST") 1 0) ∷ []

pub pairlist_opens : Derivable [] (clause pairlist_opens_clause)
unfolding symbols_of number_of
pairlist_opens = everywhere [] pairlist_opens_log pairlist_opens_clause refl tt refl

pub pairlist_opens_at : (h : History) (x y : Term) → IsTerm (symbols_of h) x → IsTerm (symbols_of h) y → Derivable h (clause ((call2 "EQUAL" (call2 "PAIRLIST" x y) (call3 "IF" (call1 "LISTP" x) (call2 "CONS" (call2 "CONS" (call1 "CAR" x) (call1 "CAR" y)) (call2 "PAIRLIST" (call1 "CDR" x) (call1 "CDR" y))) (literal_atom "NIL"))) ∷ []))
unfolding numeral
pairlist_opens_at h x y ox oy =
    by_law h [] (call2 "EQUAL" (call2 "PAIRLIST" (variable "X") (variable "Y")) (call3 "IF" (call1 "LISTP" (variable "X")) (call2 "CONS" (call2 "CONS" (call1 "CAR" (variable "X")) (call1 "CAR" (variable "Y"))) (call2 "PAIRLIST" (call1 "CDR" (variable "X")) (call1 "CDR" (variable "Y")))) (literal_atom "NIL"))) ((codes "X", x) ∷ (codes "Y", y) ∷ []) (grown pairlist_opens_clause pairlist_opens h) tt ((equal_symbol h, ((pairlist_symbol h, ox), oy)), (((if_symbol h, (listp_symbol h, ox)), ((cons_symbol h, ((cons_symbol h, (car_symbol h, ox)), (car_symbol h, oy))), ((pairlist_symbol h, (cdr_symbol h, ox)), (cdr_symbol h, oy)))), (literal_atom_over h "NIL")))

pub laws_of_definitions_hold : AreDerivable laws_of_definitions
laws_of_definitions_hold h = (grown plus_opens_clause plus_opens h, (grown fix_opens_clause fix_opens h, (grown zerop_opens_clause zerop_opens h, (grown ordinalp_opens_clause ordinalp_opens h, (grown ord_lessp_opens_clause ord_lessp_opens h, (grown lessp_opens_clause lessp_opens h, (grown times_opens_clause times_opens h, (grown implies_opens_clause implies_opens h, (grown not_opens_clause not_opens h, (grown and_opens_clause and_opens h, (grown or_opens_clause or_opens h, (grown iff_opens_clause iff_opens h, (grown truep_opens_clause truep_opens h, (grown falsep_opens_clause falsep_opens h, (grown nlistp_opens_clause nlistp_opens h, (grown greaterp_opens_clause greaterp_opens h, (grown leq_opens_clause leq_opens h, (grown geq_opens_clause geq_opens h, (grown max_opens_clause max_opens h, (grown difference_opens_clause difference_opens h, (grown quotient_opens_clause quotient_opens h, (grown remainder_opens_clause remainder_opens h, (grown append_opens_clause append_opens h, (grown member_opens_clause member_opens h, (grown union_opens_clause union_opens h, (grown add_to_set_opens_clause add_to_set_opens h, (grown assoc_opens_clause assoc_opens h, (grown pairlist_opens_clause pairlist_opens h, tt))))))))))))))))))))))))))))
