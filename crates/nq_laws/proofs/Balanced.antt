-- Laws of numbers, products and sums as two sides that agree in the ground history, each by a log over earlier ones, and at terms of any history.
use Rattle.std.proofs.Common.{List, [], ◌∷◌, refl}
use Rattle.std.specs.Prelude.{codes}
use Rattle.nq_logic.specs.Terms.{Term, IsTerm}
use Rattle.nq_logic.specs.Words.{variable, call0, call1, call2}
use Rattle.nq_logic.specs.Histories.{History}
use Rattle.nq_logic.specs.Ground.{symbols_of}
use Rattle.nq_logic.specs.Numerals.{number_of}
use Rattle.nq_logic.specs.Formulas.{clause}
use Rattle.nq_logic.specs.Derivations.{Derivable}
use Rattle.nq_proof.specs.Rules.{Taut, AxiomRow, Cut, Instance, Reflexive, Replace, Forwards, Backwards}
use Rattle.nq_proof.specs.Logs.{LogLine, Ruled}
use Rattle.nq_proof.proofs.SoundLogs.{everywhere, grown}
use Rattle.nq_proof.proofs.ByLaw.{by_law}
use Rattle.nq_laws.specs.Laws.{AreDerivable}
use Rattle.nq_logic.proofs.Symbols.{add1_symbol, equal_symbol, plus_symbol, times_symbol, zero_symbol}
use Rattle.nq_laws.specs.Balanced.{constant_balances_clause, negative_constant_balances_clause, atom_balances_clause, sum_balances_alone_clause, add1_balances_clause, product_balances_clause, product_balances_turned_clause, equal_through_clause, sum_on_the_left_clause, sum_on_the_right_clause, equation_turns_clause, laws_of_balanced}
use Rattle.nq_laws.specs.Zero.{zero_is_number_clause, add1_is_not_zero_clause}
use Rattle.nq_laws.proofs.Zero.{zero_is_number, add1_is_not_zero}
use Rattle.nq_laws.specs.Plus.{sum_with_zero_clause, add1_of_fix_clause, sum_with_add1_clause}
use Rattle.nq_laws.proofs.Plus.{sum_with_zero, add1_of_fix, sum_with_add1}
use Rattle.nq_laws.specs.PlusOrder.{sum_associates_clause, sum_commutes_clause}
use Rattle.nq_laws.proofs.PlusOrder.{sum_associates, sum_commutes}
use Rattle.nq_laws.specs.Times.{sum_exchanges_clause, product_at_positive_clause, product_of_zero_clause}
use Rattle.nq_laws.proofs.Times.{sum_exchanges, product_at_positive, product_of_zero}
use Rattle.nq_laws.specs.Parts.{sub1_of_add1_clause}
use Rattle.nq_laws.proofs.Parts.{sub1_of_add1}
use Rattle.nq_laws.specs.Differences.{sum_with_one_zero_more_clause}
use Rattle.nq_laws.proofs.Differences.{sum_with_one_zero_more}
use Rattle.nq_laws.specs.Products.{product_with_zero_clause, product_commutes_clause}
use Rattle.nq_laws.proofs.Products.{product_with_zero, product_commutes}

-- (EQUAL (PLUS A (PLUS 0 0)) (PLUS 0 (PLUS A 0)))
abbrev constant_balances_log : List LogLine
constant_balances_log =
    Ruled (Reflexive (call2 "PLUS" (variable "A") (call2 "PLUS" (call0 "ZERO") (call0 "ZERO"))))
    ∷ Ruled (Reflexive (call2 "PLUS" (call0 "ZERO") (call2 "PLUS" (variable "A") (call0 "ZERO"))))
    ∷ Ruled (Instance 1 ((codes "X", (call0 "ZERO")) ∷ (codes "Y", (variable "A")) ∷ (codes "Z", (call0 "ZERO")) ∷ []))
    ∷ Ruled (Replace 3 1 (2 ∷ []) (call2 "PLUS" (variable "A") (call2 "PLUS" (call0 "ZERO") (call0 "ZERO"))) Forwards)
    ∷ Ruled (Cut 4 5 (call2 "EQUAL" (call2 "PLUS" (call0 "ZERO") (call2 "PLUS" (variable "A") (call0 "ZERO"))) (call2 "PLUS" (variable "A") (call2 "PLUS" (call0 "ZERO") (call0 "ZERO")))))
    ∷ Ruled (Replace 3 1 (1 ∷ []) (call2 "PLUS" (variable "A") (call2 "PLUS" (call0 "ZERO") (call0 "ZERO"))) Forwards)
    ∷ Ruled (Cut 6 7 (call2 "EQUAL" (call2 "PLUS" (call0 "ZERO") (call2 "PLUS" (variable "A") (call0 "ZERO"))) (call2 "PLUS" (variable "A") (call2 "PLUS" (call0 "ZERO") (call0 "ZERO")))))
    ∷ Ruled (Replace 2 1 (2 ∷ []) (call2 "PLUS" (call0 "ZERO") (call2 "PLUS" (variable "A") (call0 "ZERO"))) Forwards)
    ∷ Ruled (Cut 8 9 (call2 "EQUAL" (call2 "PLUS" (variable "A") (call2 "PLUS" (call0 "ZERO") (call0 "ZERO"))) (call2 "PLUS" (call0 "ZERO") (call2 "PLUS" (variable "A") (call0 "ZERO"))))) ∷ []

pub constant_balances : Derivable [] (clause constant_balances_clause)
unfolding symbols_of number_of
constant_balances = everywhere (sum_exchanges_clause ∷ []) constant_balances_log constant_balances_clause refl (sum_exchanges, tt) refl

pub constant_balances_at : (h : History) (a : Term) → IsTerm (symbols_of h) a → Derivable h (clause ((call2 "EQUAL" (call2 "PLUS" a (call2 "PLUS" (call0 "ZERO") (call0 "ZERO"))) (call2 "PLUS" (call0 "ZERO") (call2 "PLUS" a (call0 "ZERO")))) ∷ []))
constant_balances_at h a oa =
    by_law h [] (call2 "EQUAL" (call2 "PLUS" (variable "A") (call2 "PLUS" (call0 "ZERO") (call0 "ZERO"))) (call2 "PLUS" (call0 "ZERO") (call2 "PLUS" (variable "A") (call0 "ZERO")))) ((codes "A", a) ∷ []) (grown constant_balances_clause constant_balances h) tt ((equal_symbol h, ((plus_symbol h, oa), ((plus_symbol h, (zero_symbol h)), (zero_symbol h)))), ((plus_symbol h, (zero_symbol h)), ((plus_symbol h, oa), (zero_symbol h))))

-- (EQUAL (PLUS 0 (PLUS A 0)) (PLUS A (PLUS 0 0)))
abbrev negative_constant_balances_log : List LogLine
negative_constant_balances_log =
    Ruled (Reflexive (call2 "PLUS" (variable "A") (call2 "PLUS" (call0 "ZERO") (call0 "ZERO"))))
    ∷ Ruled (Reflexive (call2 "PLUS" (call0 "ZERO") (call2 "PLUS" (variable "A") (call0 "ZERO"))))
    ∷ Ruled (Instance 1 ((codes "X", (call0 "ZERO")) ∷ (codes "Y", (variable "A")) ∷ (codes "Z", (call0 "ZERO")) ∷ []))
    ∷ Ruled (Replace 3 1 (2 ∷ []) (call2 "PLUS" (variable "A") (call2 "PLUS" (call0 "ZERO") (call0 "ZERO"))) Forwards)
    ∷ Ruled (Cut 4 5 (call2 "EQUAL" (call2 "PLUS" (call0 "ZERO") (call2 "PLUS" (variable "A") (call0 "ZERO"))) (call2 "PLUS" (variable "A") (call2 "PLUS" (call0 "ZERO") (call0 "ZERO")))))
    ∷ Ruled (Replace 2 1 (1 ∷ []) (call2 "PLUS" (variable "A") (call2 "PLUS" (call0 "ZERO") (call0 "ZERO"))) Forwards)
    ∷ Ruled (Cut 2 7 (call2 "EQUAL" (call2 "PLUS" (variable "A") (call2 "PLUS" (call0 "ZERO") (call0 "ZERO"))) (call2 "PLUS" (variable "A") (call2 "PLUS" (call0 "ZERO") (call0 "ZERO")))))
    ∷ Ruled (Replace 6 1 (2 ∷ []) (call2 "PLUS" (variable "A") (call2 "PLUS" (call0 "ZERO") (call0 "ZERO"))) Forwards)
    ∷ Ruled (Cut 8 9 (call2 "EQUAL" (call2 "PLUS" (variable "A") (call2 "PLUS" (call0 "ZERO") (call0 "ZERO"))) (call2 "PLUS" (variable "A") (call2 "PLUS" (call0 "ZERO") (call0 "ZERO"))))) ∷ []

pub negative_constant_balances : Derivable [] (clause negative_constant_balances_clause)
unfolding symbols_of number_of
negative_constant_balances = everywhere (sum_exchanges_clause ∷ []) negative_constant_balances_log negative_constant_balances_clause refl (sum_exchanges, tt) refl

pub negative_constant_balances_at : (h : History) (a : Term) → IsTerm (symbols_of h) a → Derivable h (clause ((call2 "EQUAL" (call2 "PLUS" (call0 "ZERO") (call2 "PLUS" a (call0 "ZERO"))) (call2 "PLUS" a (call2 "PLUS" (call0 "ZERO") (call0 "ZERO")))) ∷ []))
negative_constant_balances_at h a oa =
    by_law h [] (call2 "EQUAL" (call2 "PLUS" (call0 "ZERO") (call2 "PLUS" (variable "A") (call0 "ZERO"))) (call2 "PLUS" (variable "A") (call2 "PLUS" (call0 "ZERO") (call0 "ZERO")))) ((codes "A", a) ∷ []) (grown negative_constant_balances_clause negative_constant_balances h) tt ((equal_symbol h, ((plus_symbol h, (zero_symbol h)), ((plus_symbol h, oa), (zero_symbol h)))), ((plus_symbol h, oa), ((plus_symbol h, (zero_symbol h)), (zero_symbol h))))

-- (EQUAL (PLUS E (PLUS 0 (PLUS (TIMES 0 E) 0))) (PLUS 0 (PLUS 0 (PLUS (TIMES (ADD1 0) E) 0))))
abbrev atom_balances_log : List LogLine
atom_balances_log =
    Ruled (AxiomRow (codes "FALSE") 1 0)
    ∷ Ruled (Reflexive (call2 "PLUS" (variable "E") (call2 "PLUS" (call0 "ZERO") (call2 "PLUS" (call2 "TIMES" (call0 "ZERO") (variable "E")) (call0 "ZERO")))))
    ∷ Ruled (Instance 7 ((codes "Y", (variable "E")) ∷ []))
    ∷ Ruled (Replace 10 1 (2 ∷ 2 ∷ 2 ∷ 1 ∷ []) (call0 "ZERO") Forwards)
    ∷ Ruled (Cut 11 12 (call2 "EQUAL" (call2 "TIMES" (call0 "ZERO") (variable "E")) (call0 "ZERO")))
    ∷ Ruled (Instance 5 ((codes "X", (call1 "ADD1" (call0 "ZERO"))) ∷ (codes "Y", (variable "E")) ∷ []))
    ∷ Ruled (Instance 3 ((codes "X", (call0 "ZERO")) ∷ []))
    ∷ Ruled (Taut ((call1 "ZEROP" (call1 "ADD1" (call0 "ZERO"))) ∷ (call1 "NOT" (call1 "ZEROP" (call1 "ADD1" (call0 "ZERO")))) ∷ []))
    ∷ Ruled (Replace 16 1 [] (call0 "FALSE") Forwards)
    ∷ Ruled (Cut 17 9 (call0 "FALSE"))
    ∷ Ruled (Cut 15 18 (call2 "EQUAL" (call1 "ZEROP" (call1 "ADD1" (call0 "ZERO"))) (call0 "FALSE")))
    ∷ Ruled (Cut 14 19 (call1 "ZEROP" (call1 "ADD1" (call0 "ZERO"))))
    ∷ Ruled (Instance 2 ((codes "X1", (call0 "ZERO")) ∷ []))
    ∷ Ruled (Cut 1 21 (call1 "NUMBERP" (call0 "ZERO")))
    ∷ Ruled (Replace 20 1 (2 ∷ 2 ∷ 1 ∷ []) (call0 "ZERO") Forwards)
    ∷ Ruled (Cut 22 23 (call2 "EQUAL" (call1 "SUB1" (call1 "ADD1" (call0 "ZERO"))) (call0 "ZERO")))
    ∷ Ruled (Replace 24 1 (2 ∷ 2 ∷ []) (call0 "ZERO") Forwards)
    ∷ Ruled (Cut 11 25 (call2 "EQUAL" (call2 "TIMES" (call0 "ZERO") (variable "E")) (call0 "ZERO")))
    ∷ Ruled (Reflexive (call2 "PLUS" (call0 "ZERO") (call2 "PLUS" (call0 "ZERO") (call2 "PLUS" (call2 "TIMES" (call1 "ADD1" (call0 "ZERO")) (variable "E")) (call0 "ZERO")))))
    ∷ Ruled (Replace 27 1 (2 ∷ 2 ∷ 2 ∷ 1 ∷ []) (call2 "PLUS" (variable "E") (call0 "ZERO")) Forwards)
    ∷ Ruled (Cut 26 28 (call2 "EQUAL" (call2 "TIMES" (call1 "ADD1" (call0 "ZERO")) (variable "E")) (call2 "PLUS" (variable "E") (call0 "ZERO"))))
    ∷ Ruled (Reflexive (call2 "PLUS" (variable "E") (call2 "PLUS" (call0 "ZERO") (call2 "PLUS" (call0 "ZERO") (call0 "ZERO")))))
    ∷ Ruled (Instance 8 ((codes "X", (call0 "ZERO")) ∷ (codes "Y", (call0 "ZERO")) ∷ []))
    ∷ Ruled (Replace 30 1 (2 ∷ 2 ∷ 2 ∷ []) (call2 "PLUS" (call0 "ZERO") (call2 "PLUS" (call0 "ZERO") (call0 "ZERO"))) Forwards)
    ∷ Ruled (Cut 31 32 (call2 "EQUAL" (call2 "PLUS" (call0 "ZERO") (call0 "ZERO")) (call2 "PLUS" (call0 "ZERO") (call2 "PLUS" (call0 "ZERO") (call0 "ZERO")))))
    ∷ Ruled (Reflexive (call2 "PLUS" (call0 "ZERO") (call2 "PLUS" (call0 "ZERO") (call2 "PLUS" (call2 "PLUS" (variable "E") (call0 "ZERO")) (call0 "ZERO")))))
    ∷ Ruled (Instance 4 ((codes "X", (variable "E")) ∷ (codes "Y", (call0 "ZERO")) ∷ (codes "Z", (call0 "ZERO")) ∷ []))
    ∷ Ruled (Replace 34 1 (2 ∷ 2 ∷ 2 ∷ []) (call2 "PLUS" (variable "E") (call2 "PLUS" (call0 "ZERO") (call0 "ZERO"))) Forwards)
    ∷ Ruled (Cut 35 36 (call2 "EQUAL" (call2 "PLUS" (call2 "PLUS" (variable "E") (call0 "ZERO")) (call0 "ZERO")) (call2 "PLUS" (variable "E") (call2 "PLUS" (call0 "ZERO") (call0 "ZERO")))))
    ∷ Ruled (Instance 6 ((codes "X", (call0 "ZERO")) ∷ (codes "Y", (variable "E")) ∷ (codes "Z", (call2 "PLUS" (call0 "ZERO") (call0 "ZERO"))) ∷ []))
    ∷ Ruled (Replace 37 1 (2 ∷ 2 ∷ []) (call2 "PLUS" (variable "E") (call2 "PLUS" (call0 "ZERO") (call2 "PLUS" (call0 "ZERO") (call0 "ZERO")))) Forwards)
    ∷ Ruled (Cut 38 39 (call2 "EQUAL" (call2 "PLUS" (call0 "ZERO") (call2 "PLUS" (variable "E") (call2 "PLUS" (call0 "ZERO") (call0 "ZERO")))) (call2 "PLUS" (variable "E") (call2 "PLUS" (call0 "ZERO") (call2 "PLUS" (call0 "ZERO") (call0 "ZERO"))))))
    ∷ Ruled (Instance 6 ((codes "X", (call0 "ZERO")) ∷ (codes "Y", (variable "E")) ∷ (codes "Z", (call2 "PLUS" (call0 "ZERO") (call2 "PLUS" (call0 "ZERO") (call0 "ZERO")))) ∷ []))
    ∷ Ruled (Replace 40 1 (2 ∷ []) (call2 "PLUS" (variable "E") (call2 "PLUS" (call0 "ZERO") (call2 "PLUS" (call0 "ZERO") (call2 "PLUS" (call0 "ZERO") (call0 "ZERO"))))) Forwards)
    ∷ Ruled (Cut 41 42 (call2 "EQUAL" (call2 "PLUS" (call0 "ZERO") (call2 "PLUS" (variable "E") (call2 "PLUS" (call0 "ZERO") (call2 "PLUS" (call0 "ZERO") (call0 "ZERO"))))) (call2 "PLUS" (variable "E") (call2 "PLUS" (call0 "ZERO") (call2 "PLUS" (call0 "ZERO") (call2 "PLUS" (call0 "ZERO") (call0 "ZERO")))))))
    ∷ Ruled (Replace 34 1 (1 ∷ []) (call2 "PLUS" (variable "E") (call2 "PLUS" (call0 "ZERO") (call2 "PLUS" (call0 "ZERO") (call2 "PLUS" (call0 "ZERO") (call0 "ZERO"))))) Forwards)
    ∷ Ruled (Cut 43 44 (call2 "EQUAL" (call2 "PLUS" (call0 "ZERO") (call2 "PLUS" (call0 "ZERO") (call2 "PLUS" (call2 "PLUS" (variable "E") (call0 "ZERO")) (call0 "ZERO")))) (call2 "PLUS" (variable "E") (call2 "PLUS" (call0 "ZERO") (call2 "PLUS" (call0 "ZERO") (call2 "PLUS" (call0 "ZERO") (call0 "ZERO")))))))
    ∷ Ruled (Replace 33 1 (2 ∷ []) (call2 "PLUS" (call0 "ZERO") (call2 "PLUS" (call0 "ZERO") (call2 "PLUS" (call2 "PLUS" (variable "E") (call0 "ZERO")) (call0 "ZERO")))) Forwards)
    ∷ Ruled (Cut 45 46 (call2 "EQUAL" (call2 "PLUS" (variable "E") (call2 "PLUS" (call0 "ZERO") (call2 "PLUS" (call0 "ZERO") (call2 "PLUS" (call0 "ZERO") (call0 "ZERO"))))) (call2 "PLUS" (call0 "ZERO") (call2 "PLUS" (call0 "ZERO") (call2 "PLUS" (call2 "PLUS" (variable "E") (call0 "ZERO")) (call0 "ZERO"))))))
    ∷ Ruled (Replace 13 1 (2 ∷ []) (call2 "PLUS" (call0 "ZERO") (call2 "PLUS" (call0 "ZERO") (call2 "PLUS" (call2 "PLUS" (variable "E") (call0 "ZERO")) (call0 "ZERO")))) Forwards)
    ∷ Ruled (Cut 47 48 (call2 "EQUAL" (call2 "PLUS" (variable "E") (call2 "PLUS" (call0 "ZERO") (call2 "PLUS" (call0 "ZERO") (call0 "ZERO")))) (call2 "PLUS" (call0 "ZERO") (call2 "PLUS" (call0 "ZERO") (call2 "PLUS" (call2 "PLUS" (variable "E") (call0 "ZERO")) (call0 "ZERO"))))))
    ∷ Ruled (Replace 27 1 (1 ∷ []) (call2 "PLUS" (call0 "ZERO") (call2 "PLUS" (call0 "ZERO") (call2 "PLUS" (call2 "PLUS" (variable "E") (call0 "ZERO")) (call0 "ZERO")))) Forwards)
    ∷ Ruled (Cut 29 50 (call2 "EQUAL" (call2 "PLUS" (call0 "ZERO") (call2 "PLUS" (call0 "ZERO") (call2 "PLUS" (call2 "TIMES" (call1 "ADD1" (call0 "ZERO")) (variable "E")) (call0 "ZERO")))) (call2 "PLUS" (call0 "ZERO") (call2 "PLUS" (call0 "ZERO") (call2 "PLUS" (call2 "PLUS" (variable "E") (call0 "ZERO")) (call0 "ZERO"))))))
    ∷ Ruled (Replace 49 1 (2 ∷ []) (call2 "PLUS" (call0 "ZERO") (call2 "PLUS" (call0 "ZERO") (call2 "PLUS" (call2 "TIMES" (call1 "ADD1" (call0 "ZERO")) (variable "E")) (call0 "ZERO")))) Forwards)
    ∷ Ruled (Cut 51 52 (call2 "EQUAL" (call2 "PLUS" (call0 "ZERO") (call2 "PLUS" (call0 "ZERO") (call2 "PLUS" (call2 "PLUS" (variable "E") (call0 "ZERO")) (call0 "ZERO")))) (call2 "PLUS" (call0 "ZERO") (call2 "PLUS" (call0 "ZERO") (call2 "PLUS" (call2 "TIMES" (call1 "ADD1" (call0 "ZERO")) (variable "E")) (call0 "ZERO")))))) ∷ []

pub atom_balances : Derivable [] (clause atom_balances_clause)
unfolding symbols_of number_of
atom_balances = everywhere (zero_is_number_clause ∷ sub1_of_add1_clause ∷ add1_is_not_zero_clause ∷ sum_associates_clause ∷ product_at_positive_clause ∷ sum_exchanges_clause ∷ product_of_zero_clause ∷ sum_with_one_zero_more_clause ∷ []) atom_balances_log atom_balances_clause refl (zero_is_number, (sub1_of_add1, (add1_is_not_zero, (sum_associates, (product_at_positive, (sum_exchanges, (product_of_zero, (sum_with_one_zero_more, tt)))))))) refl

pub atom_balances_at : (h : History) (e : Term) → IsTerm (symbols_of h) e → Derivable h (clause ((call2 "EQUAL" (call2 "PLUS" e (call2 "PLUS" (call0 "ZERO") (call2 "PLUS" (call2 "TIMES" (call0 "ZERO") e) (call0 "ZERO")))) (call2 "PLUS" (call0 "ZERO") (call2 "PLUS" (call0 "ZERO") (call2 "PLUS" (call2 "TIMES" (call1 "ADD1" (call0 "ZERO")) e) (call0 "ZERO"))))) ∷ []))
atom_balances_at h e oe =
    by_law h [] (call2 "EQUAL" (call2 "PLUS" (variable "E") (call2 "PLUS" (call0 "ZERO") (call2 "PLUS" (call2 "TIMES" (call0 "ZERO") (variable "E")) (call0 "ZERO")))) (call2 "PLUS" (call0 "ZERO") (call2 "PLUS" (call0 "ZERO") (call2 "PLUS" (call2 "TIMES" (call1 "ADD1" (call0 "ZERO")) (variable "E")) (call0 "ZERO"))))) ((codes "E", e) ∷ []) (grown atom_balances_clause atom_balances h) tt ((equal_symbol h, ((plus_symbol h, oe), ((plus_symbol h, (zero_symbol h)), ((plus_symbol h, ((times_symbol h, (zero_symbol h)), oe)), (zero_symbol h))))), ((plus_symbol h, (zero_symbol h)), ((plus_symbol h, (zero_symbol h)), ((plus_symbol h, ((times_symbol h, (add1_symbol h, (zero_symbol h))), oe)), (zero_symbol h)))))

-- (NOT (EQUAL (PLUS (PLUS A B) N) (PLUS (PLUS 0 0) P))), (EQUAL (PLUS (PLUS A B) N) (PLUS 0 P))
abbrev sum_balances_alone_log : List LogLine
sum_balances_alone_log =
    Ruled (Reflexive (call2 "PLUS" (call2 "PLUS" (variable "A") (variable "B")) (variable "N")))
    ∷ Ruled (Replace 5 1 (2 ∷ []) (call2 "PLUS" (call2 "PLUS" (call0 "ZERO") (call0 "ZERO")) (variable "P")) Forwards)
    ∷ Ruled (Reflexive (call2 "PLUS" (call2 "PLUS" (call0 "ZERO") (call0 "ZERO")) (variable "P")))
    ∷ Ruled (Instance 2 ((codes "X", (call0 "ZERO")) ∷ (codes "Y", (call0 "ZERO")) ∷ (codes "Z", (variable "P")) ∷ []))
    ∷ Ruled (Replace 7 1 (2 ∷ []) (call2 "PLUS" (call0 "ZERO") (call2 "PLUS" (call0 "ZERO") (variable "P"))) Forwards)
    ∷ Ruled (Cut 8 9 (call2 "EQUAL" (call2 "PLUS" (call2 "PLUS" (call0 "ZERO") (call0 "ZERO")) (variable "P")) (call2 "PLUS" (call0 "ZERO") (call2 "PLUS" (call0 "ZERO") (variable "P")))))
    ∷ Ruled (Instance 1 ((codes "X", (call0 "ZERO")) ∷ (codes "Y", (variable "P")) ∷ []))
    ∷ Ruled (Replace 10 1 (2 ∷ 2 ∷ []) (call2 "PLUS" (variable "P") (call0 "ZERO")) Forwards)
    ∷ Ruled (Cut 11 12 (call2 "EQUAL" (call2 "PLUS" (call0 "ZERO") (variable "P")) (call2 "PLUS" (variable "P") (call0 "ZERO"))))
    ∷ Ruled (Instance 3 ((codes "X", (call0 "ZERO")) ∷ (codes "Y", (variable "P")) ∷ (codes "Z", (call0 "ZERO")) ∷ []))
    ∷ Ruled (Replace 13 1 (2 ∷ []) (call2 "PLUS" (variable "P") (call2 "PLUS" (call0 "ZERO") (call0 "ZERO"))) Forwards)
    ∷ Ruled (Cut 14 15 (call2 "EQUAL" (call2 "PLUS" (call0 "ZERO") (call2 "PLUS" (variable "P") (call0 "ZERO"))) (call2 "PLUS" (variable "P") (call2 "PLUS" (call0 "ZERO") (call0 "ZERO")))))
    ∷ Ruled (Reflexive (call2 "PLUS" (call0 "ZERO") (variable "P")))
    ∷ Ruled (Instance 4 ((codes "X", (call0 "ZERO")) ∷ (codes "Y", (variable "P")) ∷ []))
    ∷ Ruled (Replace 17 1 (2 ∷ []) (call2 "PLUS" (call0 "ZERO") (call2 "PLUS" (variable "P") (call0 "ZERO"))) Forwards)
    ∷ Ruled (Cut 18 19 (call2 "EQUAL" (call2 "PLUS" (call0 "ZERO") (variable "P")) (call2 "PLUS" (call0 "ZERO") (call2 "PLUS" (variable "P") (call0 "ZERO")))))
    ∷ Ruled (Replace 20 1 (2 ∷ []) (call2 "PLUS" (variable "P") (call2 "PLUS" (call0 "ZERO") (call0 "ZERO"))) Forwards)
    ∷ Ruled (Cut 14 21 (call2 "EQUAL" (call2 "PLUS" (call0 "ZERO") (call2 "PLUS" (variable "P") (call0 "ZERO"))) (call2 "PLUS" (variable "P") (call2 "PLUS" (call0 "ZERO") (call0 "ZERO")))))
    ∷ Ruled (Replace 17 1 (1 ∷ []) (call2 "PLUS" (variable "P") (call2 "PLUS" (call0 "ZERO") (call0 "ZERO"))) Forwards)
    ∷ Ruled (Cut 22 23 (call2 "EQUAL" (call2 "PLUS" (call0 "ZERO") (variable "P")) (call2 "PLUS" (variable "P") (call2 "PLUS" (call0 "ZERO") (call0 "ZERO")))))
    ∷ Ruled (Replace 16 1 (2 ∷ []) (call2 "PLUS" (call0 "ZERO") (variable "P")) Forwards)
    ∷ Ruled (Cut 24 25 (call2 "EQUAL" (call2 "PLUS" (variable "P") (call2 "PLUS" (call0 "ZERO") (call0 "ZERO"))) (call2 "PLUS" (call0 "ZERO") (variable "P"))))
    ∷ Ruled (Replace 6 1 (2 ∷ []) (call2 "PLUS" (call0 "ZERO") (variable "P")) Forwards)
    ∷ Ruled (Cut 26 27 (call2 "EQUAL" (call2 "PLUS" (call2 "PLUS" (call0 "ZERO") (call0 "ZERO")) (variable "P")) (call2 "PLUS" (call0 "ZERO") (variable "P"))))
    ∷ Ruled (Taut ((call1 "NOT" (call2 "EQUAL" (call2 "PLUS" (call2 "PLUS" (variable "A") (variable "B")) (variable "N")) (call2 "PLUS" (call0 "ZERO") (variable "P")))) ∷ (call2 "EQUAL" (call2 "PLUS" (call2 "PLUS" (variable "A") (variable "B")) (variable "N")) (call2 "PLUS" (call0 "ZERO") (variable "P"))) ∷ []))
    ∷ Ruled (Cut 28 29 (call2 "EQUAL" (call2 "PLUS" (call2 "PLUS" (variable "A") (variable "B")) (variable "N")) (call2 "PLUS" (call0 "ZERO") (variable "P")))) ∷ []

pub sum_balances_alone : Derivable [] (clause sum_balances_alone_clause)
unfolding symbols_of number_of
sum_balances_alone = everywhere (sum_commutes_clause ∷ sum_associates_clause ∷ sum_exchanges_clause ∷ sum_with_one_zero_more_clause ∷ []) sum_balances_alone_log sum_balances_alone_clause refl (sum_commutes, (sum_associates, (sum_exchanges, (sum_with_one_zero_more, tt)))) refl

pub sum_balances_alone_at : (h : History) (a b n p : Term) → IsTerm (symbols_of h) a → IsTerm (symbols_of h) b → IsTerm (symbols_of h) n → IsTerm (symbols_of h) p → Derivable h (clause ((call2 "EQUAL" (call2 "PLUS" (call2 "PLUS" a b) n) (call2 "PLUS" (call2 "PLUS" (call0 "ZERO") (call0 "ZERO")) p)) ∷ [])) → Derivable h (clause ((call2 "EQUAL" (call2 "PLUS" (call2 "PLUS" a b) n) (call2 "PLUS" (call0 "ZERO") p)) ∷ []))
sum_balances_alone_at h a b n p oa ob on op d1 =
    by_law h ((call2 "EQUAL" (call2 "PLUS" (call2 "PLUS" (variable "A") (variable "B")) (variable "N")) (call2 "PLUS" (call2 "PLUS" (call0 "ZERO") (call0 "ZERO")) (variable "P"))) ∷ []) (call2 "EQUAL" (call2 "PLUS" (call2 "PLUS" (variable "A") (variable "B")) (variable "N")) (call2 "PLUS" (call0 "ZERO") (variable "P"))) ((codes "A", a) ∷ (codes "B", b) ∷ (codes "N", n) ∷ (codes "P", p) ∷ []) (grown sum_balances_alone_clause sum_balances_alone h) (d1, tt) ((equal_symbol h, ((plus_symbol h, ((plus_symbol h, oa), ob)), on)), ((plus_symbol h, (zero_symbol h)), op))

-- (NOT (EQUAL (PLUS (PLUS E (ADD1 0)) N) (PLUS (PLUS 0 0) P))), (EQUAL (PLUS (ADD1 E) N) (PLUS 0 P))
abbrev add1_balances_log : List LogLine
add1_balances_log =
    Ruled (Reflexive (call2 "PLUS" (call2 "PLUS" (call0 "ZERO") (call0 "ZERO")) (variable "P")))
    ∷ Ruled (Instance 5 ((codes "X", (call0 "ZERO")) ∷ (codes "Y", (call0 "ZERO")) ∷ (codes "Z", (variable "P")) ∷ []))
    ∷ Ruled (Replace 8 1 (2 ∷ []) (call2 "PLUS" (call0 "ZERO") (call2 "PLUS" (call0 "ZERO") (variable "P"))) Forwards)
    ∷ Ruled (Cut 9 10 (call2 "EQUAL" (call2 "PLUS" (call2 "PLUS" (call0 "ZERO") (call0 "ZERO")) (variable "P")) (call2 "PLUS" (call0 "ZERO") (call2 "PLUS" (call0 "ZERO") (variable "P")))))
    ∷ Ruled (Instance 4 ((codes "X", (call0 "ZERO")) ∷ (codes "Y", (variable "P")) ∷ []))
    ∷ Ruled (Replace 11 1 (2 ∷ 2 ∷ []) (call2 "PLUS" (variable "P") (call0 "ZERO")) Forwards)
    ∷ Ruled (Cut 12 13 (call2 "EQUAL" (call2 "PLUS" (call0 "ZERO") (variable "P")) (call2 "PLUS" (variable "P") (call0 "ZERO"))))
    ∷ Ruled (Instance 6 ((codes "X", (call0 "ZERO")) ∷ (codes "Y", (variable "P")) ∷ (codes "Z", (call0 "ZERO")) ∷ []))
    ∷ Ruled (Replace 14 1 (2 ∷ []) (call2 "PLUS" (variable "P") (call2 "PLUS" (call0 "ZERO") (call0 "ZERO"))) Forwards)
    ∷ Ruled (Cut 15 16 (call2 "EQUAL" (call2 "PLUS" (call0 "ZERO") (call2 "PLUS" (variable "P") (call0 "ZERO"))) (call2 "PLUS" (variable "P") (call2 "PLUS" (call0 "ZERO") (call0 "ZERO")))))
    ∷ Ruled (Reflexive (call2 "PLUS" (call0 "ZERO") (variable "P")))
    ∷ Ruled (Instance 7 ((codes "X", (call0 "ZERO")) ∷ (codes "Y", (variable "P")) ∷ []))
    ∷ Ruled (Replace 18 1 (2 ∷ []) (call2 "PLUS" (call0 "ZERO") (call2 "PLUS" (variable "P") (call0 "ZERO"))) Forwards)
    ∷ Ruled (Cut 19 20 (call2 "EQUAL" (call2 "PLUS" (call0 "ZERO") (variable "P")) (call2 "PLUS" (call0 "ZERO") (call2 "PLUS" (variable "P") (call0 "ZERO")))))
    ∷ Ruled (Replace 21 1 (2 ∷ []) (call2 "PLUS" (variable "P") (call2 "PLUS" (call0 "ZERO") (call0 "ZERO"))) Forwards)
    ∷ Ruled (Cut 15 22 (call2 "EQUAL" (call2 "PLUS" (call0 "ZERO") (call2 "PLUS" (variable "P") (call0 "ZERO"))) (call2 "PLUS" (variable "P") (call2 "PLUS" (call0 "ZERO") (call0 "ZERO")))))
    ∷ Ruled (Replace 18 1 (1 ∷ []) (call2 "PLUS" (variable "P") (call2 "PLUS" (call0 "ZERO") (call0 "ZERO"))) Forwards)
    ∷ Ruled (Cut 23 24 (call2 "EQUAL" (call2 "PLUS" (call0 "ZERO") (variable "P")) (call2 "PLUS" (variable "P") (call2 "PLUS" (call0 "ZERO") (call0 "ZERO")))))
    ∷ Ruled (Replace 17 1 (2 ∷ []) (call2 "PLUS" (call0 "ZERO") (variable "P")) Forwards)
    ∷ Ruled (Cut 25 26 (call2 "EQUAL" (call2 "PLUS" (variable "P") (call2 "PLUS" (call0 "ZERO") (call0 "ZERO"))) (call2 "PLUS" (call0 "ZERO") (variable "P"))))
    ∷ Ruled (Reflexive (call2 "PLUS" (call1 "ADD1" (variable "E")) (variable "N")))
    ∷ Ruled (Instance 3 ((codes "X", (variable "E")) ∷ (codes "Y", (call0 "ZERO")) ∷ []))
    ∷ Ruled (Instance 1 ((codes "X", (variable "E")) ∷ []))
    ∷ Ruled (Replace 29 1 (2 ∷ 1 ∷ []) (call1 "FIX" (variable "E")) Forwards)
    ∷ Ruled (Cut 30 31 (call2 "EQUAL" (call2 "PLUS" (variable "E") (call0 "ZERO")) (call1 "FIX" (variable "E"))))
    ∷ Ruled (Instance 2 ((codes "Y", (variable "E")) ∷ []))
    ∷ Ruled (Replace 32 1 (2 ∷ []) (call1 "ADD1" (variable "E")) Forwards)
    ∷ Ruled (Cut 33 34 (call2 "EQUAL" (call1 "ADD1" (call1 "FIX" (variable "E"))) (call1 "ADD1" (variable "E"))))
    ∷ Ruled (Reflexive (call2 "PLUS" (variable "E") (call1 "ADD1" (call0 "ZERO"))))
    ∷ Ruled (Replace 36 1 (1 ∷ []) (call1 "ADD1" (variable "E")) Forwards)
    ∷ Ruled (Cut 35 37 (call2 "EQUAL" (call2 "PLUS" (variable "E") (call1 "ADD1" (call0 "ZERO"))) (call1 "ADD1" (variable "E"))))
    ∷ Ruled (Replace 28 1 (2 ∷ 1 ∷ []) (call2 "PLUS" (variable "E") (call1 "ADD1" (call0 "ZERO"))) Forwards)
    ∷ Ruled (Cut 38 39 (call2 "EQUAL" (call1 "ADD1" (variable "E")) (call2 "PLUS" (variable "E") (call1 "ADD1" (call0 "ZERO")))))
    ∷ Ruled (Replace 40 1 (2 ∷ []) (call2 "PLUS" (call2 "PLUS" (call0 "ZERO") (call0 "ZERO")) (variable "P")) Forwards)
    ∷ Ruled (Replace 41 1 (2 ∷ []) (call2 "PLUS" (call0 "ZERO") (variable "P")) Forwards)
    ∷ Ruled (Cut 27 42 (call2 "EQUAL" (call2 "PLUS" (call2 "PLUS" (call0 "ZERO") (call0 "ZERO")) (variable "P")) (call2 "PLUS" (call0 "ZERO") (variable "P"))))
    ∷ Ruled (Taut ((call1 "NOT" (call2 "EQUAL" (call2 "PLUS" (call1 "ADD1" (variable "E")) (variable "N")) (call2 "PLUS" (call0 "ZERO") (variable "P")))) ∷ (call2 "EQUAL" (call2 "PLUS" (call1 "ADD1" (variable "E")) (variable "N")) (call2 "PLUS" (call0 "ZERO") (variable "P"))) ∷ []))
    ∷ Ruled (Cut 43 44 (call2 "EQUAL" (call2 "PLUS" (call1 "ADD1" (variable "E")) (variable "N")) (call2 "PLUS" (call0 "ZERO") (variable "P")))) ∷ []

pub add1_balances : Derivable [] (clause add1_balances_clause)
unfolding symbols_of number_of
add1_balances = everywhere (sum_with_zero_clause ∷ add1_of_fix_clause ∷ sum_with_add1_clause ∷ sum_commutes_clause ∷ sum_associates_clause ∷ sum_exchanges_clause ∷ sum_with_one_zero_more_clause ∷ []) add1_balances_log add1_balances_clause refl (sum_with_zero, (add1_of_fix, (sum_with_add1, (sum_commutes, (sum_associates, (sum_exchanges, (sum_with_one_zero_more, tt))))))) refl

pub add1_balances_at : (h : History) (e n p : Term) → IsTerm (symbols_of h) e → IsTerm (symbols_of h) n → IsTerm (symbols_of h) p → Derivable h (clause ((call2 "EQUAL" (call2 "PLUS" (call2 "PLUS" e (call1 "ADD1" (call0 "ZERO"))) n) (call2 "PLUS" (call2 "PLUS" (call0 "ZERO") (call0 "ZERO")) p)) ∷ [])) → Derivable h (clause ((call2 "EQUAL" (call2 "PLUS" (call1 "ADD1" e) n) (call2 "PLUS" (call0 "ZERO") p)) ∷ []))
add1_balances_at h e n p oe on op d1 =
    by_law h ((call2 "EQUAL" (call2 "PLUS" (call2 "PLUS" (variable "E") (call1 "ADD1" (call0 "ZERO"))) (variable "N")) (call2 "PLUS" (call2 "PLUS" (call0 "ZERO") (call0 "ZERO")) (variable "P"))) ∷ []) (call2 "EQUAL" (call2 "PLUS" (call1 "ADD1" (variable "E")) (variable "N")) (call2 "PLUS" (call0 "ZERO") (variable "P"))) ((codes "E", e) ∷ (codes "N", n) ∷ (codes "P", p) ∷ []) (grown add1_balances_clause add1_balances h) (d1, tt) ((equal_symbol h, ((plus_symbol h, (add1_symbol h, oe)), on)), ((plus_symbol h, (zero_symbol h)), op))

-- (NOT (EQUAL (PLUS (TIMES K B) N) (PLUS (TIMES K 0) P))), (EQUAL (PLUS (TIMES K B) N) (PLUS 0 P))
abbrev product_balances_log : List LogLine
product_balances_log =
    Ruled (Reflexive (call2 "PLUS" (call2 "TIMES" (variable "K") (variable "B")) (variable "N")))
    ∷ Ruled (Replace 2 1 (2 ∷ []) (call2 "PLUS" (call2 "TIMES" (variable "K") (call0 "ZERO")) (variable "P")) Forwards)
    ∷ Ruled (Instance 1 ((codes "X", (variable "K")) ∷ []))
    ∷ Ruled (Replace 3 1 (2 ∷ 1 ∷ []) (call0 "ZERO") Forwards)
    ∷ Ruled (Cut 4 5 (call2 "EQUAL" (call2 "TIMES" (variable "K") (call0 "ZERO")) (call0 "ZERO")))
    ∷ Ruled (Taut ((call1 "NOT" (call2 "EQUAL" (call2 "PLUS" (call2 "TIMES" (variable "K") (variable "B")) (variable "N")) (call2 "PLUS" (call0 "ZERO") (variable "P")))) ∷ (call2 "EQUAL" (call2 "PLUS" (call2 "TIMES" (variable "K") (variable "B")) (variable "N")) (call2 "PLUS" (call0 "ZERO") (variable "P"))) ∷ []))
    ∷ Ruled (Cut 6 7 (call2 "EQUAL" (call2 "PLUS" (call2 "TIMES" (variable "K") (variable "B")) (variable "N")) (call2 "PLUS" (call0 "ZERO") (variable "P")))) ∷ []

pub product_balances : Derivable [] (clause product_balances_clause)
unfolding symbols_of number_of
product_balances = everywhere (product_with_zero_clause ∷ []) product_balances_log product_balances_clause refl (product_with_zero, tt) refl

pub product_balances_at : (h : History) (b k n p : Term) → IsTerm (symbols_of h) b → IsTerm (symbols_of h) k → IsTerm (symbols_of h) n → IsTerm (symbols_of h) p → Derivable h (clause ((call2 "EQUAL" (call2 "PLUS" (call2 "TIMES" k b) n) (call2 "PLUS" (call2 "TIMES" k (call0 "ZERO")) p)) ∷ [])) → Derivable h (clause ((call2 "EQUAL" (call2 "PLUS" (call2 "TIMES" k b) n) (call2 "PLUS" (call0 "ZERO") p)) ∷ []))
product_balances_at h b k n p ob ok on op d1 =
    by_law h ((call2 "EQUAL" (call2 "PLUS" (call2 "TIMES" (variable "K") (variable "B")) (variable "N")) (call2 "PLUS" (call2 "TIMES" (variable "K") (call0 "ZERO")) (variable "P"))) ∷ []) (call2 "EQUAL" (call2 "PLUS" (call2 "TIMES" (variable "K") (variable "B")) (variable "N")) (call2 "PLUS" (call0 "ZERO") (variable "P"))) ((codes "B", b) ∷ (codes "K", k) ∷ (codes "N", n) ∷ (codes "P", p) ∷ []) (grown product_balances_clause product_balances h) (d1, tt) ((equal_symbol h, ((plus_symbol h, ((times_symbol h, ok), ob)), on)), ((plus_symbol h, (zero_symbol h)), op))

-- (NOT (EQUAL (PLUS (TIMES K B) N) (PLUS (TIMES K 0) P))), (EQUAL (PLUS (TIMES B K) N) (PLUS 0 P))
abbrev product_balances_turned_log : List LogLine
product_balances_turned_log =
    Ruled (Instance 1 ((codes "X", (variable "K")) ∷ []))
    ∷ Ruled (Reflexive (call2 "PLUS" (call2 "TIMES" (variable "B") (variable "K")) (variable "N")))
    ∷ Ruled (Instance 2 ((codes "X", (variable "B")) ∷ (codes "Y", (variable "K")) ∷ []))
    ∷ Ruled (Replace 4 1 (2 ∷ 1 ∷ []) (call2 "TIMES" (variable "K") (variable "B")) Forwards)
    ∷ Ruled (Cut 5 6 (call2 "EQUAL" (call2 "TIMES" (variable "B") (variable "K")) (call2 "TIMES" (variable "K") (variable "B"))))
    ∷ Ruled (Replace 7 1 (2 ∷ []) (call2 "PLUS" (call2 "TIMES" (variable "K") (call0 "ZERO")) (variable "P")) Forwards)
    ∷ Ruled (Replace 8 1 (2 ∷ 1 ∷ []) (call0 "ZERO") Forwards)
    ∷ Ruled (Cut 3 9 (call2 "EQUAL" (call2 "TIMES" (variable "K") (call0 "ZERO")) (call0 "ZERO")))
    ∷ Ruled (Taut ((call1 "NOT" (call2 "EQUAL" (call2 "PLUS" (call2 "TIMES" (variable "B") (variable "K")) (variable "N")) (call2 "PLUS" (call0 "ZERO") (variable "P")))) ∷ (call2 "EQUAL" (call2 "PLUS" (call2 "TIMES" (variable "B") (variable "K")) (variable "N")) (call2 "PLUS" (call0 "ZERO") (variable "P"))) ∷ []))
    ∷ Ruled (Cut 10 11 (call2 "EQUAL" (call2 "PLUS" (call2 "TIMES" (variable "B") (variable "K")) (variable "N")) (call2 "PLUS" (call0 "ZERO") (variable "P")))) ∷ []

pub product_balances_turned : Derivable [] (clause product_balances_turned_clause)
unfolding symbols_of number_of
product_balances_turned = everywhere (product_with_zero_clause ∷ product_commutes_clause ∷ []) product_balances_turned_log product_balances_turned_clause refl (product_with_zero, (product_commutes, tt)) refl

pub product_balances_turned_at : (h : History) (b k n p : Term) → IsTerm (symbols_of h) b → IsTerm (symbols_of h) k → IsTerm (symbols_of h) n → IsTerm (symbols_of h) p → Derivable h (clause ((call2 "EQUAL" (call2 "PLUS" (call2 "TIMES" k b) n) (call2 "PLUS" (call2 "TIMES" k (call0 "ZERO")) p)) ∷ [])) → Derivable h (clause ((call2 "EQUAL" (call2 "PLUS" (call2 "TIMES" b k) n) (call2 "PLUS" (call0 "ZERO") p)) ∷ []))
product_balances_turned_at h b k n p ob ok on op d1 =
    by_law h ((call2 "EQUAL" (call2 "PLUS" (call2 "TIMES" (variable "K") (variable "B")) (variable "N")) (call2 "PLUS" (call2 "TIMES" (variable "K") (call0 "ZERO")) (variable "P"))) ∷ []) (call2 "EQUAL" (call2 "PLUS" (call2 "TIMES" (variable "B") (variable "K")) (variable "N")) (call2 "PLUS" (call0 "ZERO") (variable "P"))) ((codes "B", b) ∷ (codes "K", k) ∷ (codes "N", n) ∷ (codes "P", p) ∷ []) (grown product_balances_turned_clause product_balances_turned h) (d1, tt) ((equal_symbol h, ((plus_symbol h, ((times_symbol h, ob), ok)), on)), ((plus_symbol h, (zero_symbol h)), op))

-- (NOT (EQUAL X Z)), (NOT (EQUAL Y Z)), (EQUAL X Y)
abbrev equal_through_log : List LogLine
equal_through_log =
    Ruled (Reflexive (variable "X"))
    ∷ Ruled (Replace 1 1 (2 ∷ []) (variable "Z") Forwards)
    ∷ Ruled (Replace 2 1 (2 ∷ []) (variable "Y") Backwards)
    ∷ Ruled (Taut ((call1 "NOT" (call2 "EQUAL" (variable "X") (variable "Y"))) ∷ (call2 "EQUAL" (variable "X") (variable "Y")) ∷ []))
    ∷ Ruled (Cut 3 4 (call2 "EQUAL" (variable "X") (variable "Y"))) ∷ []

pub equal_through : Derivable [] (clause equal_through_clause)
unfolding symbols_of number_of
equal_through = everywhere [] equal_through_log equal_through_clause refl tt refl

pub equal_through_at : (h : History) (x y z : Term) → IsTerm (symbols_of h) x → IsTerm (symbols_of h) y → IsTerm (symbols_of h) z → Derivable h (clause ((call2 "EQUAL" x z) ∷ [])) → Derivable h (clause ((call2 "EQUAL" y z) ∷ [])) → Derivable h (clause ((call2 "EQUAL" x y) ∷ []))
equal_through_at h x y z ox oy oz d1 d2 =
    by_law h ((call2 "EQUAL" (variable "X") (variable "Z")) ∷ (call2 "EQUAL" (variable "Y") (variable "Z")) ∷ []) (call2 "EQUAL" (variable "X") (variable "Y")) ((codes "X", x) ∷ (codes "Y", y) ∷ (codes "Z", z) ∷ []) (grown equal_through_clause equal_through h) (d1, (d2, tt)) ((equal_symbol h, ox), oy)

-- (NOT (EQUAL (PLUS A B) C)), (NOT (EQUAL (PLUS C D) E)), (EQUAL (PLUS (PLUS A B) D) E)
abbrev sum_on_the_left_log : List LogLine
sum_on_the_left_log =
    Ruled (Reflexive (call2 "PLUS" (call2 "PLUS" (variable "A") (variable "B")) (variable "D")))
    ∷ Ruled (Replace 1 1 (2 ∷ 1 ∷ []) (variable "C") Forwards)
    ∷ Ruled (Replace 2 1 (2 ∷ []) (variable "E") Forwards)
    ∷ Ruled (Taut ((call1 "NOT" (call2 "EQUAL" (call2 "PLUS" (call2 "PLUS" (variable "A") (variable "B")) (variable "D")) (variable "E"))) ∷ (call2 "EQUAL" (call2 "PLUS" (call2 "PLUS" (variable "A") (variable "B")) (variable "D")) (variable "E")) ∷ []))
    ∷ Ruled (Cut 3 4 (call2 "EQUAL" (call2 "PLUS" (call2 "PLUS" (variable "A") (variable "B")) (variable "D")) (variable "E"))) ∷ []

pub sum_on_the_left : Derivable [] (clause sum_on_the_left_clause)
unfolding symbols_of number_of
sum_on_the_left = everywhere [] sum_on_the_left_log sum_on_the_left_clause refl tt refl

pub sum_on_the_left_at : (h : History) (a b c d e : Term) → IsTerm (symbols_of h) a → IsTerm (symbols_of h) b → IsTerm (symbols_of h) c → IsTerm (symbols_of h) d → IsTerm (symbols_of h) e → Derivable h (clause ((call2 "EQUAL" (call2 "PLUS" a b) c) ∷ [])) → Derivable h (clause ((call2 "EQUAL" (call2 "PLUS" c d) e) ∷ [])) → Derivable h (clause ((call2 "EQUAL" (call2 "PLUS" (call2 "PLUS" a b) d) e) ∷ []))
sum_on_the_left_at h a b c d e oa ob oc od oe d1 d2 =
    by_law h ((call2 "EQUAL" (call2 "PLUS" (variable "A") (variable "B")) (variable "C")) ∷ (call2 "EQUAL" (call2 "PLUS" (variable "C") (variable "D")) (variable "E")) ∷ []) (call2 "EQUAL" (call2 "PLUS" (call2 "PLUS" (variable "A") (variable "B")) (variable "D")) (variable "E")) ((codes "A", a) ∷ (codes "B", b) ∷ (codes "C", c) ∷ (codes "D", d) ∷ (codes "E", e) ∷ []) (grown sum_on_the_left_clause sum_on_the_left h) (d1, (d2, tt)) ((equal_symbol h, ((plus_symbol h, ((plus_symbol h, oa), ob)), od)), oe)

-- (NOT (EQUAL (PLUS B C) D)), (NOT (EQUAL (PLUS A D) E)), (EQUAL (PLUS A (PLUS B C)) E)
abbrev sum_on_the_right_log : List LogLine
sum_on_the_right_log =
    Ruled (Reflexive (call2 "PLUS" (variable "A") (call2 "PLUS" (variable "B") (variable "C"))))
    ∷ Ruled (Replace 1 1 (2 ∷ 2 ∷ []) (variable "D") Forwards)
    ∷ Ruled (Replace 2 1 (2 ∷ []) (variable "E") Forwards)
    ∷ Ruled (Taut ((call1 "NOT" (call2 "EQUAL" (call2 "PLUS" (variable "A") (call2 "PLUS" (variable "B") (variable "C"))) (variable "E"))) ∷ (call2 "EQUAL" (call2 "PLUS" (variable "A") (call2 "PLUS" (variable "B") (variable "C"))) (variable "E")) ∷ []))
    ∷ Ruled (Cut 3 4 (call2 "EQUAL" (call2 "PLUS" (variable "A") (call2 "PLUS" (variable "B") (variable "C"))) (variable "E"))) ∷ []

pub sum_on_the_right : Derivable [] (clause sum_on_the_right_clause)
unfolding symbols_of number_of
sum_on_the_right = everywhere [] sum_on_the_right_log sum_on_the_right_clause refl tt refl

pub sum_on_the_right_at : (h : History) (a b c d e : Term) → IsTerm (symbols_of h) a → IsTerm (symbols_of h) b → IsTerm (symbols_of h) c → IsTerm (symbols_of h) d → IsTerm (symbols_of h) e → Derivable h (clause ((call2 "EQUAL" (call2 "PLUS" b c) d) ∷ [])) → Derivable h (clause ((call2 "EQUAL" (call2 "PLUS" a d) e) ∷ [])) → Derivable h (clause ((call2 "EQUAL" (call2 "PLUS" a (call2 "PLUS" b c)) e) ∷ []))
sum_on_the_right_at h a b c d e oa ob oc od oe d1 d2 =
    by_law h ((call2 "EQUAL" (call2 "PLUS" (variable "B") (variable "C")) (variable "D")) ∷ (call2 "EQUAL" (call2 "PLUS" (variable "A") (variable "D")) (variable "E")) ∷ []) (call2 "EQUAL" (call2 "PLUS" (variable "A") (call2 "PLUS" (variable "B") (variable "C"))) (variable "E")) ((codes "A", a) ∷ (codes "B", b) ∷ (codes "C", c) ∷ (codes "D", d) ∷ (codes "E", e) ∷ []) (grown sum_on_the_right_clause sum_on_the_right h) (d1, (d2, tt)) ((equal_symbol h, ((plus_symbol h, oa), ((plus_symbol h, ob), oc))), oe)

-- (NOT (EQUAL X Y)), (EQUAL Y X)
abbrev equation_turns_log : List LogLine
equation_turns_log =
    Ruled (Reflexive (variable "X"))
    ∷ Ruled (Replace 1 1 (1 ∷ []) (variable "Y") Forwards)
    ∷ Ruled (Taut ((call1 "NOT" (call2 "EQUAL" (variable "Y") (variable "X"))) ∷ (call2 "EQUAL" (variable "Y") (variable "X")) ∷ []))
    ∷ Ruled (Cut 2 3 (call2 "EQUAL" (variable "Y") (variable "X"))) ∷ []

pub equation_turns : Derivable [] (clause equation_turns_clause)
unfolding symbols_of number_of
equation_turns = everywhere [] equation_turns_log equation_turns_clause refl tt refl

pub equation_turns_at : (h : History) (x y : Term) → IsTerm (symbols_of h) x → IsTerm (symbols_of h) y → Derivable h (clause ((call2 "EQUAL" x y) ∷ [])) → Derivable h (clause ((call2 "EQUAL" y x) ∷ []))
equation_turns_at h x y ox oy d1 =
    by_law h ((call2 "EQUAL" (variable "X") (variable "Y")) ∷ []) (call2 "EQUAL" (variable "Y") (variable "X")) ((codes "X", x) ∷ (codes "Y", y) ∷ []) (grown equation_turns_clause equation_turns h) (d1, tt) ((equal_symbol h, oy), ox)

pub laws_of_balanced_hold : AreDerivable laws_of_balanced
laws_of_balanced_hold h = (grown constant_balances_clause constant_balances h, (grown negative_constant_balances_clause negative_constant_balances h, (grown atom_balances_clause atom_balances h, (grown sum_balances_alone_clause sum_balances_alone h, (grown add1_balances_clause add1_balances h, (grown product_balances_clause product_balances h, (grown product_balances_turned_clause product_balances_turned h, (grown equal_through_clause equal_through h, (grown sum_on_the_left_clause sum_on_the_left h, (grown sum_on_the_right_clause sum_on_the_right h, (grown equation_turns_clause equation_turns h, tt)))))))))))
