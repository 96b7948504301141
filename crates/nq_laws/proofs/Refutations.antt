-- Laws of bounds that a negative form refutes in the ground history, each by a log over earlier ones, and at terms of any history.
use Rattle.std.proofs.Common.{List, [], ◌∷◌, refl}
use Rattle.std.specs.Prelude.{codes}
use Rattle.nq_logic.specs.Terms.{Term, IsTerm}
use Rattle.nq_logic.specs.Words.{variable, call0, call1, call2}
use Rattle.nq_logic.specs.Histories.{History}
use Rattle.nq_logic.specs.Ground.{symbols_of}
use Rattle.nq_logic.specs.Numerals.{number_of}
use Rattle.nq_logic.specs.Formulas.{clause}
use Rattle.nq_logic.specs.Derivations.{Derivable}
use Rattle.nq_logic.proofs.Clauses.{instance_law}
use Rattle.nq_proof.specs.Rules.{Taut, Cut, Instance, Reflexive, Replace, Forwards}
use Rattle.nq_proof.specs.Logs.{LogLine, Ruled}
use Rattle.nq_proof.proofs.SoundLogs.{everywhere, grown}
use Rattle.nq_proof.proofs.ByLaw.{by_law}
use Rattle.nq_laws.specs.Laws.{AreDerivable}
use Rattle.nq_logic.proofs.Symbols.{add1_symbol, equal_symbol, lessp_symbol, not_symbol, plus_symbol, times_symbol, zero_symbol}
use Rattle.nq_laws.specs.Refutations.{bound_of_not_less_clause, negative_is_less_clause, no_atom_is_zero_clause, no_constant_is_zero_clause, laws_of_refutations}
use Rattle.nq_laws.specs.Zero.{zero_is_zero_clause, fix_of_number_clause, fix_of_zero_clause}
use Rattle.nq_laws.proofs.Zero.{zero_is_zero, fix_of_number, fix_of_zero}
use Rattle.nq_laws.specs.Plus.{sum_at_zero_clause, sum_with_zero_clause, add1_of_fix_clause, fix_of_add1_clause, sum_with_add1_clause, fix_is_number_clause}
use Rattle.nq_laws.proofs.Plus.{sum_at_zero, sum_with_zero, add1_of_fix, fix_of_add1, sum_with_add1, fix_is_number}
use Rattle.nq_laws.specs.Less.{less_of_fixes_clause}
use Rattle.nq_laws.proofs.Less.{less_of_fixes}
use Rattle.nq_laws.specs.Times.{product_of_zero_clause}
use Rattle.nq_laws.proofs.Times.{product_of_zero}
use Rattle.nq_laws.specs.Sizes.{less_than_sum_clause}
use Rattle.nq_laws.proofs.Sizes.{less_than_sum}
use Rattle.nq_laws.specs.Products.{sum_of_add1_and_any_clause}
use Rattle.nq_laws.proofs.Products.{sum_of_add1_and_any}
use Rattle.nq_laws.specs.LessTurns.{less_turns_clause, less_with_fix_clause}
use Rattle.nq_laws.proofs.LessTurns.{less_turns, less_with_fix}

-- (NOT (LESSP A B)), (NOT (LESSP (PLUS (PLUS B 0) 0) (PLUS (PLUS 0 A) (ADD1 0))))
abbrev bound_of_not_less_log : List LogLine
bound_of_not_less_log =
    Ruled (Instance 2 ((codes "X", (call1 "FIX" (variable "X"))) ∷ []))
    ∷ Ruled (Cut 8 11 (call1 "NUMBERP" (call1 "FIX" (variable "X"))))
    ∷ Ruled (Instance 3 ((codes "X", (call0 "ZERO")) ∷ []))
    ∷ Ruled (Cut 1 13 (call1 "ZEROP" (call0 "ZERO")))
    ∷ Ruled (Instance 4 ((codes "X", (variable "B")) ∷ []))
    ∷ Ruled (Instance 14 ((codes "Y", (variable "A")) ∷ []))
    ∷ Ruled (Reflexive (call2 "LESSP" (call2 "PLUS" (call2 "PLUS" (variable "B") (call0 "ZERO")) (call0 "ZERO")) (call2 "PLUS" (call2 "PLUS" (call0 "ZERO") (variable "A")) (call1 "ADD1" (call0 "ZERO")))))
    ∷ Ruled (Instance 4 ((codes "X", (call2 "PLUS" (variable "B") (call0 "ZERO"))) ∷ []))
    ∷ Ruled (Replace 17 1 (2 ∷ 1 ∷ []) (call1 "FIX" (call2 "PLUS" (variable "B") (call0 "ZERO"))) Forwards)
    ∷ Ruled (Cut 18 19 (call2 "EQUAL" (call2 "PLUS" (call2 "PLUS" (variable "B") (call0 "ZERO")) (call0 "ZERO")) (call1 "FIX" (call2 "PLUS" (variable "B") (call0 "ZERO")))))
    ∷ Ruled (Replace 20 1 (2 ∷ 1 ∷ 1 ∷ []) (call1 "FIX" (variable "B")) Forwards)
    ∷ Ruled (Cut 15 21 (call2 "EQUAL" (call2 "PLUS" (variable "B") (call0 "ZERO")) (call1 "FIX" (variable "B"))))
    ∷ Ruled (Instance 7 ((codes "X", (call2 "PLUS" (call0 "ZERO") (variable "A"))) ∷ (codes "Y", (call0 "ZERO")) ∷ []))
    ∷ Ruled (Replace 22 1 (2 ∷ 2 ∷ []) (call1 "ADD1" (call2 "PLUS" (call2 "PLUS" (call0 "ZERO") (variable "A")) (call0 "ZERO"))) Forwards)
    ∷ Ruled (Cut 23 24 (call2 "EQUAL" (call2 "PLUS" (call2 "PLUS" (call0 "ZERO") (variable "A")) (call1 "ADD1" (call0 "ZERO"))) (call1 "ADD1" (call2 "PLUS" (call2 "PLUS" (call0 "ZERO") (variable "A")) (call0 "ZERO")))))
    ∷ Ruled (Instance 4 ((codes "X", (call2 "PLUS" (call0 "ZERO") (variable "A"))) ∷ []))
    ∷ Ruled (Replace 25 1 (2 ∷ 2 ∷ 1 ∷ []) (call1 "FIX" (call2 "PLUS" (call0 "ZERO") (variable "A"))) Forwards)
    ∷ Ruled (Cut 26 27 (call2 "EQUAL" (call2 "PLUS" (call2 "PLUS" (call0 "ZERO") (variable "A")) (call0 "ZERO")) (call1 "FIX" (call2 "PLUS" (call0 "ZERO") (variable "A")))))
    ∷ Ruled (Instance 5 ((codes "Y", (call2 "PLUS" (call0 "ZERO") (variable "A"))) ∷ []))
    ∷ Ruled (Replace 28 1 (2 ∷ 2 ∷ []) (call1 "ADD1" (call2 "PLUS" (call0 "ZERO") (variable "A"))) Forwards)
    ∷ Ruled (Cut 29 30 (call2 "EQUAL" (call1 "ADD1" (call1 "FIX" (call2 "PLUS" (call0 "ZERO") (variable "A")))) (call1 "ADD1" (call2 "PLUS" (call0 "ZERO") (variable "A")))))
    ∷ Ruled (Replace 31 1 (2 ∷ 2 ∷ 1 ∷ []) (call1 "FIX" (variable "A")) Forwards)
    ∷ Ruled (Cut 16 32 (call2 "EQUAL" (call2 "PLUS" (call0 "ZERO") (variable "A")) (call1 "FIX" (variable "A"))))
    ∷ Ruled (Instance 5 ((codes "Y", (variable "A")) ∷ []))
    ∷ Ruled (Replace 33 1 (2 ∷ 2 ∷ []) (call1 "ADD1" (variable "A")) Forwards)
    ∷ Ruled (Cut 34 35 (call2 "EQUAL" (call1 "ADD1" (call1 "FIX" (variable "A"))) (call1 "ADD1" (variable "A"))))
    ∷ Ruled (Instance 12 ((codes "X", (variable "B")) ∷ []))
    ∷ Ruled (Replace 36 1 (2 ∷ 1 ∷ []) (call1 "FIX" (variable "B")) Forwards)
    ∷ Ruled (Cut 37 38 (call2 "EQUAL" (call1 "FIX" (call1 "FIX" (variable "B"))) (call1 "FIX" (variable "B"))))
    ∷ Ruled (Reflexive (call2 "LESSP" (call1 "FIX" (variable "B")) (call1 "FIX" (call1 "ADD1" (variable "A")))))
    ∷ Ruled (Instance 9 ((codes "X", (variable "B")) ∷ (codes "Y", (call1 "ADD1" (variable "A"))) ∷ []))
    ∷ Ruled (Replace 40 1 (2 ∷ []) (call2 "LESSP" (variable "B") (call1 "ADD1" (variable "A"))) Forwards)
    ∷ Ruled (Cut 41 42 (call2 "EQUAL" (call2 "LESSP" (call1 "FIX" (variable "B")) (call1 "FIX" (call1 "ADD1" (variable "A")))) (call2 "LESSP" (variable "B") (call1 "ADD1" (variable "A")))))
    ∷ Ruled (Instance 6 ((codes "X", (variable "A")) ∷ []))
    ∷ Ruled (Replace 43 1 (1 ∷ 2 ∷ []) (call1 "ADD1" (variable "A")) Forwards)
    ∷ Ruled (Cut 44 45 (call2 "EQUAL" (call1 "FIX" (call1 "ADD1" (variable "A"))) (call1 "ADD1" (variable "A"))))
    ∷ Ruled (Replace 39 1 (2 ∷ []) (call2 "LESSP" (variable "B") (call1 "ADD1" (variable "A"))) Forwards)
    ∷ Ruled (Cut 46 47 (call2 "EQUAL" (call2 "LESSP" (call1 "FIX" (variable "B")) (call1 "ADD1" (variable "A"))) (call2 "LESSP" (variable "B") (call1 "ADD1" (variable "A")))))
    ∷ Ruled (Replace 17 1 (1 ∷ []) (call2 "LESSP" (variable "B") (call1 "ADD1" (variable "A"))) Forwards)
    ∷ Ruled (Cut 48 49 (call2 "EQUAL" (call2 "LESSP" (call2 "PLUS" (call2 "PLUS" (variable "B") (call0 "ZERO")) (call0 "ZERO")) (call2 "PLUS" (call2 "PLUS" (call0 "ZERO") (variable "A")) (call1 "ADD1" (call0 "ZERO")))) (call2 "LESSP" (variable "B") (call1 "ADD1" (variable "A")))))
    ∷ Ruled (Replace 10 2 (1 ∷ []) (call2 "LESSP" (call2 "PLUS" (call2 "PLUS" (variable "B") (call0 "ZERO")) (call0 "ZERO")) (call2 "PLUS" (call2 "PLUS" (call0 "ZERO") (variable "A")) (call1 "ADD1" (call0 "ZERO")))) Forwards)
    ∷ Ruled (Cut 50 51 (call2 "EQUAL" (call2 "LESSP" (variable "B") (call1 "ADD1" (variable "A"))) (call2 "LESSP" (call2 "PLUS" (call2 "PLUS" (variable "B") (call0 "ZERO")) (call0 "ZERO")) (call2 "PLUS" (call2 "PLUS" (call0 "ZERO") (variable "A")) (call1 "ADD1" (call0 "ZERO")))))) ∷ []

pub bound_of_not_less : Derivable [] (clause bound_of_not_less_clause)
unfolding symbols_of number_of
bound_of_not_less = everywhere (zero_is_zero_clause ∷ fix_of_number_clause ∷ sum_at_zero_clause ∷ sum_with_zero_clause ∷ add1_of_fix_clause ∷ fix_of_add1_clause ∷ sum_with_add1_clause ∷ fix_is_number_clause ∷ less_of_fixes_clause ∷ less_turns_clause ∷ []) bound_of_not_less_log bound_of_not_less_clause refl (zero_is_zero, (fix_of_number, (sum_at_zero, (sum_with_zero, (add1_of_fix, (fix_of_add1, (sum_with_add1, (fix_is_number, (less_of_fixes, (less_turns, tt)))))))))) refl

pub bound_of_not_less_clause_at : (h : History) (a b : Term) → IsTerm (symbols_of h) a → IsTerm (symbols_of h) b → Derivable h (clause ((call1 "NOT" (call2 "LESSP" a b)) ∷ (call1 "NOT" (call2 "LESSP" (call2 "PLUS" (call2 "PLUS" b (call0 "ZERO")) (call0 "ZERO")) (call2 "PLUS" (call2 "PLUS" (call0 "ZERO") a) (call1 "ADD1" (call0 "ZERO"))))) ∷ []))
bound_of_not_less_clause_at h a b oa ob =
    instance_law h ((codes "A", a) ∷ (codes "B", b) ∷ []) bound_of_not_less_clause (grown bound_of_not_less_clause bound_of_not_less h) ((not_symbol h, ((lessp_symbol h, oa), ob)), ((not_symbol h, ((lessp_symbol h, ((plus_symbol h, ((plus_symbol h, ob), (zero_symbol h))), (zero_symbol h))), ((plus_symbol h, ((plus_symbol h, (zero_symbol h)), oa)), (add1_symbol h, (zero_symbol h))))), tt))

-- (NOT (EQUAL (PLUS A (PLUS (ADD1 C) W)) (PLUS B P))), (NOT (EQUAL P 0)), (LESSP A B)
abbrev negative_is_less_log : List LogLine
negative_is_less_log =
    Ruled (Instance 1 ((codes "X", (variable "B")) ∷ []))
    ∷ Ruled (Reflexive (call2 "PLUS" (variable "A") (call2 "PLUS" (call1 "ADD1" (variable "C")) (variable "W"))))
    ∷ Ruled (Replace 7 1 (2 ∷ []) (call2 "PLUS" (variable "B") (variable "P")) Forwards)
    ∷ Ruled (Replace 8 1 (2 ∷ 2 ∷ []) (call0 "ZERO") Forwards)
    ∷ Ruled (Replace 9 1 (2 ∷ []) (call1 "FIX" (variable "B")) Forwards)
    ∷ Ruled (Cut 6 10 (call2 "EQUAL" (call2 "PLUS" (variable "B") (call0 "ZERO")) (call1 "FIX" (variable "B"))))
    ∷ Ruled (Instance 4 ((codes "X", (variable "C")) ∷ (codes "Y", (variable "W")) ∷ []))
    ∷ Ruled (Replace 11 1 (1 ∷ 2 ∷ []) (call1 "ADD1" (call2 "PLUS" (variable "C") (variable "W"))) Forwards)
    ∷ Ruled (Cut 12 13 (call2 "EQUAL" (call2 "PLUS" (call1 "ADD1" (variable "C")) (variable "W")) (call1 "ADD1" (call2 "PLUS" (variable "C") (variable "W")))))
    ∷ Ruled (Instance 2 ((codes "X", (variable "A")) ∷ (codes "Y", (call2 "PLUS" (variable "C") (variable "W"))) ∷ []))
    ∷ Ruled (Replace 14 1 (1 ∷ []) (call1 "ADD1" (call2 "PLUS" (variable "A") (call2 "PLUS" (variable "C") (variable "W")))) Forwards)
    ∷ Ruled (Cut 15 16 (call2 "EQUAL" (call2 "PLUS" (variable "A") (call1 "ADD1" (call2 "PLUS" (variable "C") (variable "W")))) (call1 "ADD1" (call2 "PLUS" (variable "A") (call2 "PLUS" (variable "C") (variable "W"))))))
    ∷ Ruled (Instance 3 ((codes "X", (variable "A")) ∷ (codes "Y", (call2 "PLUS" (variable "C") (variable "W"))) ∷ []))
    ∷ Ruled (Replace 18 1 (2 ∷ []) (call1 "FIX" (variable "B")) Forwards)
    ∷ Ruled (Cut 17 19 (call2 "EQUAL" (call1 "ADD1" (call2 "PLUS" (variable "A") (call2 "PLUS" (variable "C") (variable "W")))) (call1 "FIX" (variable "B"))))
    ∷ Ruled (Instance 5 ((codes "X", (variable "A")) ∷ (codes "Y", (variable "B")) ∷ []))
    ∷ Ruled (Replace 20 3 [] (call2 "LESSP" (variable "A") (variable "B")) Forwards)
    ∷ Ruled (Cut 21 22 (call2 "EQUAL" (call2 "LESSP" (variable "A") (call1 "FIX" (variable "B"))) (call2 "LESSP" (variable "A") (variable "B")))) ∷ []

pub negative_is_less : Derivable [] (clause negative_is_less_clause)
unfolding symbols_of number_of
negative_is_less = everywhere (sum_with_zero_clause ∷ sum_with_add1_clause ∷ less_than_sum_clause ∷ sum_of_add1_and_any_clause ∷ less_with_fix_clause ∷ []) negative_is_less_log negative_is_less_clause refl (sum_with_zero, (sum_with_add1, (less_than_sum, (sum_of_add1_and_any, (less_with_fix, tt))))) refl

pub negative_is_less_at : (h : History) (a b c p w : Term) → IsTerm (symbols_of h) a → IsTerm (symbols_of h) b → IsTerm (symbols_of h) c → IsTerm (symbols_of h) p → IsTerm (symbols_of h) w → Derivable h (clause ((call2 "EQUAL" (call2 "PLUS" a (call2 "PLUS" (call1 "ADD1" c) w)) (call2 "PLUS" b p)) ∷ [])) → Derivable h (clause ((call2 "EQUAL" p (call0 "ZERO")) ∷ [])) → Derivable h (clause ((call2 "LESSP" a b) ∷ []))
negative_is_less_at h a b c p w oa ob oc op ow d1 d2 =
    by_law h ((call2 "EQUAL" (call2 "PLUS" (variable "A") (call2 "PLUS" (call1 "ADD1" (variable "C")) (variable "W"))) (call2 "PLUS" (variable "B") (variable "P"))) ∷ (call2 "EQUAL" (variable "P") (call0 "ZERO")) ∷ []) (call2 "LESSP" (variable "A") (variable "B")) ((codes "A", a) ∷ (codes "B", b) ∷ (codes "C", c) ∷ (codes "P", p) ∷ (codes "W", w) ∷ []) (grown negative_is_less_clause negative_is_less h) (d1, (d2, tt)) ((lessp_symbol h, oa), ob)

-- (NOT (EQUAL W 0)), (EQUAL (PLUS (TIMES 0 E) W) 0)
abbrev no_atom_is_zero_log : List LogLine
no_atom_is_zero_log =
    Ruled (Instance 2 ((codes "X", (call0 "ZERO")) ∷ []))
    ∷ Ruled (Cut 1 5 (call1 "ZEROP" (call0 "ZERO")))
    ∷ Ruled (Instance 3 ((codes "X", (call0 "ZERO")) ∷ []))
    ∷ Ruled (Cut 1 7 (call1 "ZEROP" (call0 "ZERO")))
    ∷ Ruled (Instance 8 ((codes "Y", (call0 "ZERO")) ∷ []))
    ∷ Ruled (Instance 4 ((codes "Y", (variable "E")) ∷ []))
    ∷ Ruled (Reflexive (call2 "PLUS" (call2 "TIMES" (call0 "ZERO") (variable "E")) (variable "W")))
    ∷ Ruled (Replace 11 1 (2 ∷ 2 ∷ []) (call0 "ZERO") Forwards)
    ∷ Ruled (Replace 12 1 (2 ∷ 1 ∷ []) (call0 "ZERO") Forwards)
    ∷ Ruled (Cut 10 13 (call2 "EQUAL" (call2 "TIMES" (call0 "ZERO") (variable "E")) (call0 "ZERO")))
    ∷ Ruled (Replace 14 1 (2 ∷ []) (call1 "FIX" (call0 "ZERO")) Forwards)
    ∷ Ruled (Cut 9 15 (call2 "EQUAL" (call2 "PLUS" (call0 "ZERO") (call0 "ZERO")) (call1 "FIX" (call0 "ZERO"))))
    ∷ Ruled (Replace 16 1 (2 ∷ []) (call0 "ZERO") Forwards)
    ∷ Ruled (Cut 6 17 (call2 "EQUAL" (call1 "FIX" (call0 "ZERO")) (call0 "ZERO")))
    ∷ Ruled (Taut ((call1 "NOT" (call2 "EQUAL" (call2 "PLUS" (call2 "TIMES" (call0 "ZERO") (variable "E")) (variable "W")) (call0 "ZERO"))) ∷ (call2 "EQUAL" (call2 "PLUS" (call2 "TIMES" (call0 "ZERO") (variable "E")) (variable "W")) (call0 "ZERO")) ∷ []))
    ∷ Ruled (Cut 18 19 (call2 "EQUAL" (call2 "PLUS" (call2 "TIMES" (call0 "ZERO") (variable "E")) (variable "W")) (call0 "ZERO"))) ∷ []

pub no_atom_is_zero : Derivable [] (clause no_atom_is_zero_clause)
unfolding symbols_of number_of
no_atom_is_zero = everywhere (zero_is_zero_clause ∷ fix_of_zero_clause ∷ sum_at_zero_clause ∷ product_of_zero_clause ∷ []) no_atom_is_zero_log no_atom_is_zero_clause refl (zero_is_zero, (fix_of_zero, (sum_at_zero, (product_of_zero, tt)))) refl

pub no_atom_is_zero_at : (h : History) (e w : Term) → IsTerm (symbols_of h) e → IsTerm (symbols_of h) w → Derivable h (clause ((call2 "EQUAL" w (call0 "ZERO")) ∷ [])) → Derivable h (clause ((call2 "EQUAL" (call2 "PLUS" (call2 "TIMES" (call0 "ZERO") e) w) (call0 "ZERO")) ∷ []))
no_atom_is_zero_at h e w oe ow d1 =
    by_law h ((call2 "EQUAL" (variable "W") (call0 "ZERO")) ∷ []) (call2 "EQUAL" (call2 "PLUS" (call2 "TIMES" (call0 "ZERO") (variable "E")) (variable "W")) (call0 "ZERO")) ((codes "E", e) ∷ (codes "W", w) ∷ []) (grown no_atom_is_zero_clause no_atom_is_zero h) (d1, tt) ((equal_symbol h, ((plus_symbol h, ((times_symbol h, (zero_symbol h)), oe)), ow)), (zero_symbol h))

-- (NOT (EQUAL W 0)), (EQUAL (PLUS 0 W) 0)
abbrev no_constant_is_zero_log : List LogLine
no_constant_is_zero_log =
    Ruled (Instance 2 ((codes "X", (call0 "ZERO")) ∷ []))
    ∷ Ruled (Cut 1 4 (call1 "ZEROP" (call0 "ZERO")))
    ∷ Ruled (Instance 3 ((codes "X", (call0 "ZERO")) ∷ []))
    ∷ Ruled (Cut 1 6 (call1 "ZEROP" (call0 "ZERO")))
    ∷ Ruled (Instance 7 ((codes "Y", (call0 "ZERO")) ∷ []))
    ∷ Ruled (Reflexive (call2 "PLUS" (call0 "ZERO") (variable "W")))
    ∷ Ruled (Replace 9 1 (2 ∷ 2 ∷ []) (call0 "ZERO") Forwards)
    ∷ Ruled (Replace 10 1 (2 ∷ []) (call1 "FIX" (call0 "ZERO")) Forwards)
    ∷ Ruled (Cut 8 11 (call2 "EQUAL" (call2 "PLUS" (call0 "ZERO") (call0 "ZERO")) (call1 "FIX" (call0 "ZERO"))))
    ∷ Ruled (Replace 12 1 (2 ∷ []) (call0 "ZERO") Forwards)
    ∷ Ruled (Cut 5 13 (call2 "EQUAL" (call1 "FIX" (call0 "ZERO")) (call0 "ZERO")))
    ∷ Ruled (Taut ((call1 "NOT" (call2 "EQUAL" (call2 "PLUS" (call0 "ZERO") (variable "W")) (call0 "ZERO"))) ∷ (call2 "EQUAL" (call2 "PLUS" (call0 "ZERO") (variable "W")) (call0 "ZERO")) ∷ []))
    ∷ Ruled (Cut 14 15 (call2 "EQUAL" (call2 "PLUS" (call0 "ZERO") (variable "W")) (call0 "ZERO"))) ∷ []

pub no_constant_is_zero : Derivable [] (clause no_constant_is_zero_clause)
unfolding symbols_of number_of
no_constant_is_zero = everywhere (zero_is_zero_clause ∷ fix_of_zero_clause ∷ sum_at_zero_clause ∷ []) no_constant_is_zero_log no_constant_is_zero_clause refl (zero_is_zero, (fix_of_zero, (sum_at_zero, tt))) refl

pub no_constant_is_zero_at : (h : History) (w : Term) → IsTerm (symbols_of h) w → Derivable h (clause ((call2 "EQUAL" w (call0 "ZERO")) ∷ [])) → Derivable h (clause ((call2 "EQUAL" (call2 "PLUS" (call0 "ZERO") w) (call0 "ZERO")) ∷ []))
no_constant_is_zero_at h w ow d1 =
    by_law h ((call2 "EQUAL" (variable "W") (call0 "ZERO")) ∷ []) (call2 "EQUAL" (call2 "PLUS" (call0 "ZERO") (variable "W")) (call0 "ZERO")) ((codes "W", w) ∷ []) (grown no_constant_is_zero_clause no_constant_is_zero h) (d1, tt) ((equal_symbol h, ((plus_symbol h, (zero_symbol h)), ow)), (zero_symbol h))

pub laws_of_refutations_hold : AreDerivable laws_of_refutations
laws_of_refutations_hold h = (grown bound_of_not_less_clause bound_of_not_less h, (grown negative_is_less_clause negative_is_less h, (grown no_atom_is_zero_clause no_atom_is_zero h, (grown no_constant_is_zero_clause no_constant_is_zero h, tt))))
