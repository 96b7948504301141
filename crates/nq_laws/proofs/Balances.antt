-- Laws of sums and multiples whose two sides agree in the ground history, each by a log over earlier ones, and at terms of any history.
use Rattle.std.proofs.Common.{List, [], ◌∷◌, refl}
use Rattle.std.specs.Prelude.{codes}
use Rattle.nq_logic.specs.Terms.{Term, IsTerm}
use Rattle.nq_logic.specs.Words.{variable, call1, call2}
use Rattle.nq_logic.specs.Histories.{History}
use Rattle.nq_logic.specs.Ground.{symbols_of}
use Rattle.nq_logic.specs.Numerals.{number_of}
use Rattle.nq_logic.specs.Formulas.{clause}
use Rattle.nq_logic.specs.Derivations.{Derivable}
use Rattle.nq_proof.specs.Rules.{Taut, Cut, Instance, Reflexive, Replace, Forwards}
use Rattle.nq_proof.specs.Logs.{LogLine, Ruled}
use Rattle.nq_proof.proofs.SoundLogs.{everywhere, grown}
use Rattle.nq_proof.proofs.ByLaw.{by_law}
use Rattle.nq_laws.specs.Laws.{AreDerivable}
use Rattle.nq_logic.proofs.Symbols.{equal_symbol, plus_symbol, times_symbol}
use Rattle.nq_laws.specs.Balances.{sum_balances_clause, multiple_balances_clause, multiple_of_atom_clause, multiple_of_constant_clause, laws_of_balances}
use Rattle.nq_laws.specs.PlusOrder.{sum_commutes_clause, sum_associates_clause}
use Rattle.nq_laws.proofs.PlusOrder.{sum_commutes, sum_associates}
use Rattle.nq_laws.specs.Times.{sum_exchanges_clause, product_distributes_clause}
use Rattle.nq_laws.proofs.Times.{sum_exchanges, product_distributes}
use Rattle.nq_laws.specs.Differences.{fix_of_sum_clause, difference_of_sum_clause}
use Rattle.nq_laws.proofs.Differences.{fix_of_sum, difference_of_sum}
use Rattle.nq_laws.specs.Products.{product_associates_clause}
use Rattle.nq_laws.proofs.Products.{product_associates}

-- (NOT (EQUAL (PLUS A N) (PLUS B P))), (NOT (EQUAL (PLUS C N2) (PLUS D P2))), (NOT (EQUAL (PLUS (PLUS P P2) N3) (PLUS P3 (PLUS N N2)))), (EQUAL (PLUS (PLUS A C) N3) (PLUS (PLUS B D) P3))
abbrev sum_balances_log : List LogLine
sum_balances_log =
    Ruled (Reflexive (call2 "PLUS" (call2 "PLUS" (variable "N") (variable "N2")) (call2 "PLUS" (call2 "PLUS" (variable "A") (variable "C")) (variable "N3"))))
    ∷ Ruled (Instance 3 ((codes "X", (variable "N")) ∷ (codes "Y", (variable "N2")) ∷ (codes "Z", (call2 "PLUS" (call2 "PLUS" (variable "A") (variable "C")) (variable "N3"))) ∷ []))
    ∷ Ruled (Replace 6 1 (2 ∷ []) (call2 "PLUS" (variable "N") (call2 "PLUS" (variable "N2") (call2 "PLUS" (call2 "PLUS" (variable "A") (variable "C")) (variable "N3")))) Forwards)
    ∷ Ruled (Cut 7 8 (call2 "EQUAL" (call2 "PLUS" (call2 "PLUS" (variable "N") (variable "N2")) (call2 "PLUS" (call2 "PLUS" (variable "A") (variable "C")) (variable "N3"))) (call2 "PLUS" (variable "N") (call2 "PLUS" (variable "N2") (call2 "PLUS" (call2 "PLUS" (variable "A") (variable "C")) (variable "N3"))))))
    ∷ Ruled (Instance 3 ((codes "X", (variable "A")) ∷ (codes "Y", (variable "C")) ∷ (codes "Z", (variable "N3")) ∷ []))
    ∷ Ruled (Replace 9 1 (2 ∷ 2 ∷ 2 ∷ []) (call2 "PLUS" (variable "A") (call2 "PLUS" (variable "C") (variable "N3"))) Forwards)
    ∷ Ruled (Cut 10 11 (call2 "EQUAL" (call2 "PLUS" (call2 "PLUS" (variable "A") (variable "C")) (variable "N3")) (call2 "PLUS" (variable "A") (call2 "PLUS" (variable "C") (variable "N3")))))
    ∷ Ruled (Instance 4 ((codes "X", (variable "N2")) ∷ (codes "Y", (variable "A")) ∷ (codes "Z", (call2 "PLUS" (variable "C") (variable "N3"))) ∷ []))
    ∷ Ruled (Replace 12 1 (2 ∷ 2 ∷ []) (call2 "PLUS" (variable "A") (call2 "PLUS" (variable "N2") (call2 "PLUS" (variable "C") (variable "N3")))) Forwards)
    ∷ Ruled (Cut 13 14 (call2 "EQUAL" (call2 "PLUS" (variable "N2") (call2 "PLUS" (variable "A") (call2 "PLUS" (variable "C") (variable "N3")))) (call2 "PLUS" (variable "A") (call2 "PLUS" (variable "N2") (call2 "PLUS" (variable "C") (variable "N3"))))))
    ∷ Ruled (Instance 4 ((codes "X", (variable "N2")) ∷ (codes "Y", (variable "C")) ∷ (codes "Z", (variable "N3")) ∷ []))
    ∷ Ruled (Replace 15 1 (2 ∷ 2 ∷ 2 ∷ []) (call2 "PLUS" (variable "C") (call2 "PLUS" (variable "N2") (variable "N3"))) Forwards)
    ∷ Ruled (Cut 16 17 (call2 "EQUAL" (call2 "PLUS" (variable "N2") (call2 "PLUS" (variable "C") (variable "N3"))) (call2 "PLUS" (variable "C") (call2 "PLUS" (variable "N2") (variable "N3")))))
    ∷ Ruled (Instance 4 ((codes "X", (variable "N")) ∷ (codes "Y", (variable "A")) ∷ (codes "Z", (call2 "PLUS" (variable "C") (call2 "PLUS" (variable "N2") (variable "N3")))) ∷ []))
    ∷ Ruled (Replace 18 1 (2 ∷ []) (call2 "PLUS" (variable "A") (call2 "PLUS" (variable "N") (call2 "PLUS" (variable "C") (call2 "PLUS" (variable "N2") (variable "N3"))))) Forwards)
    ∷ Ruled (Cut 19 20 (call2 "EQUAL" (call2 "PLUS" (variable "N") (call2 "PLUS" (variable "A") (call2 "PLUS" (variable "C") (call2 "PLUS" (variable "N2") (variable "N3"))))) (call2 "PLUS" (variable "A") (call2 "PLUS" (variable "N") (call2 "PLUS" (variable "C") (call2 "PLUS" (variable "N2") (variable "N3")))))))
    ∷ Ruled (Instance 4 ((codes "X", (variable "N")) ∷ (codes "Y", (variable "C")) ∷ (codes "Z", (call2 "PLUS" (variable "N2") (variable "N3"))) ∷ []))
    ∷ Ruled (Replace 21 1 (2 ∷ 2 ∷ []) (call2 "PLUS" (variable "C") (call2 "PLUS" (variable "N") (call2 "PLUS" (variable "N2") (variable "N3")))) Forwards)
    ∷ Ruled (Cut 22 23 (call2 "EQUAL" (call2 "PLUS" (variable "N") (call2 "PLUS" (variable "C") (call2 "PLUS" (variable "N2") (variable "N3")))) (call2 "PLUS" (variable "C") (call2 "PLUS" (variable "N") (call2 "PLUS" (variable "N2") (variable "N3"))))))
    ∷ Ruled (Reflexive (call2 "PLUS" (call2 "PLUS" (variable "A") (variable "N")) (call2 "PLUS" (call2 "PLUS" (variable "C") (variable "N2")) (variable "N3"))))
    ∷ Ruled (Instance 3 ((codes "X", (variable "A")) ∷ (codes "Y", (variable "N")) ∷ (codes "Z", (call2 "PLUS" (call2 "PLUS" (variable "C") (variable "N2")) (variable "N3"))) ∷ []))
    ∷ Ruled (Replace 25 1 (2 ∷ []) (call2 "PLUS" (variable "A") (call2 "PLUS" (variable "N") (call2 "PLUS" (call2 "PLUS" (variable "C") (variable "N2")) (variable "N3")))) Forwards)
    ∷ Ruled (Cut 26 27 (call2 "EQUAL" (call2 "PLUS" (call2 "PLUS" (variable "A") (variable "N")) (call2 "PLUS" (call2 "PLUS" (variable "C") (variable "N2")) (variable "N3"))) (call2 "PLUS" (variable "A") (call2 "PLUS" (variable "N") (call2 "PLUS" (call2 "PLUS" (variable "C") (variable "N2")) (variable "N3"))))))
    ∷ Ruled (Instance 3 ((codes "X", (variable "C")) ∷ (codes "Y", (variable "N2")) ∷ (codes "Z", (variable "N3")) ∷ []))
    ∷ Ruled (Replace 28 1 (2 ∷ 2 ∷ 2 ∷ []) (call2 "PLUS" (variable "C") (call2 "PLUS" (variable "N2") (variable "N3"))) Forwards)
    ∷ Ruled (Cut 29 30 (call2 "EQUAL" (call2 "PLUS" (call2 "PLUS" (variable "C") (variable "N2")) (variable "N3")) (call2 "PLUS" (variable "C") (call2 "PLUS" (variable "N2") (variable "N3")))))
    ∷ Ruled (Replace 31 1 (2 ∷ 2 ∷ []) (call2 "PLUS" (variable "C") (call2 "PLUS" (variable "N") (call2 "PLUS" (variable "N2") (variable "N3")))) Forwards)
    ∷ Ruled (Cut 22 32 (call2 "EQUAL" (call2 "PLUS" (variable "N") (call2 "PLUS" (variable "C") (call2 "PLUS" (variable "N2") (variable "N3")))) (call2 "PLUS" (variable "C") (call2 "PLUS" (variable "N") (call2 "PLUS" (variable "N2") (variable "N3"))))))
    ∷ Ruled (Replace 25 1 (1 ∷ []) (call2 "PLUS" (variable "A") (call2 "PLUS" (variable "C") (call2 "PLUS" (variable "N") (call2 "PLUS" (variable "N2") (variable "N3"))))) Forwards)
    ∷ Ruled (Cut 33 34 (call2 "EQUAL" (call2 "PLUS" (call2 "PLUS" (variable "A") (variable "N")) (call2 "PLUS" (call2 "PLUS" (variable "C") (variable "N2")) (variable "N3"))) (call2 "PLUS" (variable "A") (call2 "PLUS" (variable "C") (call2 "PLUS" (variable "N") (call2 "PLUS" (variable "N2") (variable "N3")))))))
    ∷ Ruled (Replace 24 1 (2 ∷ []) (call2 "PLUS" (call2 "PLUS" (variable "A") (variable "N")) (call2 "PLUS" (call2 "PLUS" (variable "C") (variable "N2")) (variable "N3"))) Forwards)
    ∷ Ruled (Cut 35 36 (call2 "EQUAL" (call2 "PLUS" (variable "A") (call2 "PLUS" (variable "C") (call2 "PLUS" (variable "N") (call2 "PLUS" (variable "N2") (variable "N3"))))) (call2 "PLUS" (call2 "PLUS" (variable "A") (variable "N")) (call2 "PLUS" (call2 "PLUS" (variable "C") (variable "N2")) (variable "N3")))))
    ∷ Ruled (Replace 6 1 (2 ∷ []) (call2 "PLUS" (call2 "PLUS" (variable "A") (variable "N")) (call2 "PLUS" (call2 "PLUS" (variable "C") (variable "N2")) (variable "N3"))) Forwards)
    ∷ Ruled (Cut 37 38 (call2 "EQUAL" (call2 "PLUS" (call2 "PLUS" (variable "N") (variable "N2")) (call2 "PLUS" (call2 "PLUS" (variable "A") (variable "C")) (variable "N3"))) (call2 "PLUS" (call2 "PLUS" (variable "A") (variable "N")) (call2 "PLUS" (call2 "PLUS" (variable "C") (variable "N2")) (variable "N3")))))
    ∷ Ruled (Replace 39 1 (2 ∷ 1 ∷ []) (call2 "PLUS" (variable "B") (variable "P")) Forwards)
    ∷ Ruled (Replace 40 1 (2 ∷ 2 ∷ 1 ∷ []) (call2 "PLUS" (variable "D") (variable "P2")) Forwards)
    ∷ Ruled (Reflexive (call2 "PLUS" (call2 "PLUS" (variable "B") (variable "P")) (call2 "PLUS" (call2 "PLUS" (variable "D") (variable "P2")) (variable "N3"))))
    ∷ Ruled (Instance 3 ((codes "X", (variable "B")) ∷ (codes "Y", (variable "P")) ∷ (codes "Z", (call2 "PLUS" (call2 "PLUS" (variable "D") (variable "P2")) (variable "N3"))) ∷ []))
    ∷ Ruled (Replace 42 1 (2 ∷ []) (call2 "PLUS" (variable "B") (call2 "PLUS" (variable "P") (call2 "PLUS" (call2 "PLUS" (variable "D") (variable "P2")) (variable "N3")))) Forwards)
    ∷ Ruled (Cut 43 44 (call2 "EQUAL" (call2 "PLUS" (call2 "PLUS" (variable "B") (variable "P")) (call2 "PLUS" (call2 "PLUS" (variable "D") (variable "P2")) (variable "N3"))) (call2 "PLUS" (variable "B") (call2 "PLUS" (variable "P") (call2 "PLUS" (call2 "PLUS" (variable "D") (variable "P2")) (variable "N3"))))))
    ∷ Ruled (Instance 3 ((codes "X", (variable "D")) ∷ (codes "Y", (variable "P2")) ∷ (codes "Z", (variable "N3")) ∷ []))
    ∷ Ruled (Replace 45 1 (2 ∷ 2 ∷ 2 ∷ []) (call2 "PLUS" (variable "D") (call2 "PLUS" (variable "P2") (variable "N3"))) Forwards)
    ∷ Ruled (Cut 46 47 (call2 "EQUAL" (call2 "PLUS" (call2 "PLUS" (variable "D") (variable "P2")) (variable "N3")) (call2 "PLUS" (variable "D") (call2 "PLUS" (variable "P2") (variable "N3")))))
    ∷ Ruled (Instance 4 ((codes "X", (variable "P")) ∷ (codes "Y", (variable "D")) ∷ (codes "Z", (call2 "PLUS" (variable "P2") (variable "N3"))) ∷ []))
    ∷ Ruled (Replace 48 1 (2 ∷ 2 ∷ []) (call2 "PLUS" (variable "D") (call2 "PLUS" (variable "P") (call2 "PLUS" (variable "P2") (variable "N3")))) Forwards)
    ∷ Ruled (Cut 49 50 (call2 "EQUAL" (call2 "PLUS" (variable "P") (call2 "PLUS" (variable "D") (call2 "PLUS" (variable "P2") (variable "N3")))) (call2 "PLUS" (variable "D") (call2 "PLUS" (variable "P") (call2 "PLUS" (variable "P2") (variable "N3"))))))
    ∷ Ruled (Instance 2 ((codes "X", (variable "P2")) ∷ (codes "Y", (variable "N3")) ∷ []))
    ∷ Ruled (Replace 51 1 (2 ∷ 2 ∷ 2 ∷ 2 ∷ []) (call2 "PLUS" (variable "N3") (variable "P2")) Forwards)
    ∷ Ruled (Cut 52 53 (call2 "EQUAL" (call2 "PLUS" (variable "P2") (variable "N3")) (call2 "PLUS" (variable "N3") (variable "P2"))))
    ∷ Ruled (Instance 4 ((codes "X", (variable "P")) ∷ (codes "Y", (variable "N3")) ∷ (codes "Z", (variable "P2")) ∷ []))
    ∷ Ruled (Replace 54 1 (2 ∷ 2 ∷ 2 ∷ []) (call2 "PLUS" (variable "N3") (call2 "PLUS" (variable "P") (variable "P2"))) Forwards)
    ∷ Ruled (Cut 55 56 (call2 "EQUAL" (call2 "PLUS" (variable "P") (call2 "PLUS" (variable "N3") (variable "P2"))) (call2 "PLUS" (variable "N3") (call2 "PLUS" (variable "P") (variable "P2")))))
    ∷ Ruled (Reflexive (call2 "PLUS" (call2 "PLUS" (variable "B") (variable "D")) (call2 "PLUS" (call2 "PLUS" (variable "P") (variable "P2")) (variable "N3"))))
    ∷ Ruled (Instance 3 ((codes "X", (variable "B")) ∷ (codes "Y", (variable "D")) ∷ (codes "Z", (call2 "PLUS" (call2 "PLUS" (variable "P") (variable "P2")) (variable "N3"))) ∷ []))
    ∷ Ruled (Replace 58 1 (2 ∷ []) (call2 "PLUS" (variable "B") (call2 "PLUS" (variable "D") (call2 "PLUS" (call2 "PLUS" (variable "P") (variable "P2")) (variable "N3")))) Forwards)
    ∷ Ruled (Cut 59 60 (call2 "EQUAL" (call2 "PLUS" (call2 "PLUS" (variable "B") (variable "D")) (call2 "PLUS" (call2 "PLUS" (variable "P") (variable "P2")) (variable "N3"))) (call2 "PLUS" (variable "B") (call2 "PLUS" (variable "D") (call2 "PLUS" (call2 "PLUS" (variable "P") (variable "P2")) (variable "N3"))))))
    ∷ Ruled (Instance 3 ((codes "X", (variable "P")) ∷ (codes "Y", (variable "P2")) ∷ (codes "Z", (variable "N3")) ∷ []))
    ∷ Ruled (Replace 61 1 (2 ∷ 2 ∷ 2 ∷ []) (call2 "PLUS" (variable "P") (call2 "PLUS" (variable "P2") (variable "N3"))) Forwards)
    ∷ Ruled (Cut 62 63 (call2 "EQUAL" (call2 "PLUS" (call2 "PLUS" (variable "P") (variable "P2")) (variable "N3")) (call2 "PLUS" (variable "P") (call2 "PLUS" (variable "P2") (variable "N3")))))
    ∷ Ruled (Replace 64 1 (2 ∷ 2 ∷ 2 ∷ 2 ∷ []) (call2 "PLUS" (variable "N3") (variable "P2")) Forwards)
    ∷ Ruled (Cut 52 65 (call2 "EQUAL" (call2 "PLUS" (variable "P2") (variable "N3")) (call2 "PLUS" (variable "N3") (variable "P2"))))
    ∷ Ruled (Replace 66 1 (2 ∷ 2 ∷ 2 ∷ []) (call2 "PLUS" (variable "N3") (call2 "PLUS" (variable "P") (variable "P2"))) Forwards)
    ∷ Ruled (Cut 55 67 (call2 "EQUAL" (call2 "PLUS" (variable "P") (call2 "PLUS" (variable "N3") (variable "P2"))) (call2 "PLUS" (variable "N3") (call2 "PLUS" (variable "P") (variable "P2")))))
    ∷ Ruled (Replace 58 1 (1 ∷ []) (call2 "PLUS" (variable "B") (call2 "PLUS" (variable "D") (call2 "PLUS" (variable "N3") (call2 "PLUS" (variable "P") (variable "P2"))))) Forwards)
    ∷ Ruled (Cut 68 69 (call2 "EQUAL" (call2 "PLUS" (call2 "PLUS" (variable "B") (variable "D")) (call2 "PLUS" (call2 "PLUS" (variable "P") (variable "P2")) (variable "N3"))) (call2 "PLUS" (variable "B") (call2 "PLUS" (variable "D") (call2 "PLUS" (variable "N3") (call2 "PLUS" (variable "P") (variable "P2")))))))
    ∷ Ruled (Replace 57 1 (2 ∷ []) (call2 "PLUS" (call2 "PLUS" (variable "B") (variable "D")) (call2 "PLUS" (call2 "PLUS" (variable "P") (variable "P2")) (variable "N3"))) Forwards)
    ∷ Ruled (Cut 70 71 (call2 "EQUAL" (call2 "PLUS" (variable "B") (call2 "PLUS" (variable "D") (call2 "PLUS" (variable "N3") (call2 "PLUS" (variable "P") (variable "P2"))))) (call2 "PLUS" (call2 "PLUS" (variable "B") (variable "D")) (call2 "PLUS" (call2 "PLUS" (variable "P") (variable "P2")) (variable "N3")))))
    ∷ Ruled (Replace 41 1 (2 ∷ []) (call2 "PLUS" (call2 "PLUS" (variable "B") (variable "D")) (call2 "PLUS" (call2 "PLUS" (variable "P") (variable "P2")) (variable "N3"))) Forwards)
    ∷ Ruled (Cut 72 73 (call2 "EQUAL" (call2 "PLUS" (call2 "PLUS" (variable "B") (variable "P")) (call2 "PLUS" (call2 "PLUS" (variable "D") (variable "P2")) (variable "N3"))) (call2 "PLUS" (call2 "PLUS" (variable "B") (variable "D")) (call2 "PLUS" (call2 "PLUS" (variable "P") (variable "P2")) (variable "N3")))))
    ∷ Ruled (Replace 74 1 (2 ∷ 2 ∷ []) (call2 "PLUS" (variable "P3") (call2 "PLUS" (variable "N") (variable "N2"))) Forwards)
    ∷ Ruled (Reflexive (call2 "PLUS" (call2 "PLUS" (variable "B") (variable "D")) (call2 "PLUS" (variable "P3") (call2 "PLUS" (variable "N") (variable "N2")))))
    ∷ Ruled (Instance 3 ((codes "X", (variable "B")) ∷ (codes "Y", (variable "D")) ∷ (codes "Z", (call2 "PLUS" (variable "P3") (call2 "PLUS" (variable "N") (variable "N2")))) ∷ []))
    ∷ Ruled (Replace 76 1 (2 ∷ []) (call2 "PLUS" (variable "B") (call2 "PLUS" (variable "D") (call2 "PLUS" (variable "P3") (call2 "PLUS" (variable "N") (variable "N2"))))) Forwards)
    ∷ Ruled (Cut 77 78 (call2 "EQUAL" (call2 "PLUS" (call2 "PLUS" (variable "B") (variable "D")) (call2 "PLUS" (variable "P3") (call2 "PLUS" (variable "N") (variable "N2")))) (call2 "PLUS" (variable "B") (call2 "PLUS" (variable "D") (call2 "PLUS" (variable "P3") (call2 "PLUS" (variable "N") (variable "N2")))))))
    ∷ Ruled (Instance 4 ((codes "X", (variable "P3")) ∷ (codes "Y", (variable "N")) ∷ (codes "Z", (variable "N2")) ∷ []))
    ∷ Ruled (Replace 79 1 (2 ∷ 2 ∷ 2 ∷ []) (call2 "PLUS" (variable "N") (call2 "PLUS" (variable "P3") (variable "N2"))) Forwards)
    ∷ Ruled (Cut 80 81 (call2 "EQUAL" (call2 "PLUS" (variable "P3") (call2 "PLUS" (variable "N") (variable "N2"))) (call2 "PLUS" (variable "N") (call2 "PLUS" (variable "P3") (variable "N2")))))
    ∷ Ruled (Instance 2 ((codes "X", (variable "P3")) ∷ (codes "Y", (variable "N2")) ∷ []))
    ∷ Ruled (Replace 82 1 (2 ∷ 2 ∷ 2 ∷ 2 ∷ []) (call2 "PLUS" (variable "N2") (variable "P3")) Forwards)
    ∷ Ruled (Cut 83 84 (call2 "EQUAL" (call2 "PLUS" (variable "P3") (variable "N2")) (call2 "PLUS" (variable "N2") (variable "P3"))))
    ∷ Ruled (Reflexive (call2 "PLUS" (call2 "PLUS" (variable "N") (variable "N2")) (call2 "PLUS" (call2 "PLUS" (variable "B") (variable "D")) (variable "P3"))))
    ∷ Ruled (Instance 3 ((codes "X", (variable "N")) ∷ (codes "Y", (variable "N2")) ∷ (codes "Z", (call2 "PLUS" (call2 "PLUS" (variable "B") (variable "D")) (variable "P3"))) ∷ []))
    ∷ Ruled (Replace 86 1 (2 ∷ []) (call2 "PLUS" (variable "N") (call2 "PLUS" (variable "N2") (call2 "PLUS" (call2 "PLUS" (variable "B") (variable "D")) (variable "P3")))) Forwards)
    ∷ Ruled (Cut 87 88 (call2 "EQUAL" (call2 "PLUS" (call2 "PLUS" (variable "N") (variable "N2")) (call2 "PLUS" (call2 "PLUS" (variable "B") (variable "D")) (variable "P3"))) (call2 "PLUS" (variable "N") (call2 "PLUS" (variable "N2") (call2 "PLUS" (call2 "PLUS" (variable "B") (variable "D")) (variable "P3"))))))
    ∷ Ruled (Instance 3 ((codes "X", (variable "B")) ∷ (codes "Y", (variable "D")) ∷ (codes "Z", (variable "P3")) ∷ []))
    ∷ Ruled (Replace 89 1 (2 ∷ 2 ∷ 2 ∷ []) (call2 "PLUS" (variable "B") (call2 "PLUS" (variable "D") (variable "P3"))) Forwards)
    ∷ Ruled (Cut 90 91 (call2 "EQUAL" (call2 "PLUS" (call2 "PLUS" (variable "B") (variable "D")) (variable "P3")) (call2 "PLUS" (variable "B") (call2 "PLUS" (variable "D") (variable "P3")))))
    ∷ Ruled (Instance 4 ((codes "X", (variable "N2")) ∷ (codes "Y", (variable "B")) ∷ (codes "Z", (call2 "PLUS" (variable "D") (variable "P3"))) ∷ []))
    ∷ Ruled (Replace 92 1 (2 ∷ 2 ∷ []) (call2 "PLUS" (variable "B") (call2 "PLUS" (variable "N2") (call2 "PLUS" (variable "D") (variable "P3")))) Forwards)
    ∷ Ruled (Cut 93 94 (call2 "EQUAL" (call2 "PLUS" (variable "N2") (call2 "PLUS" (variable "B") (call2 "PLUS" (variable "D") (variable "P3")))) (call2 "PLUS" (variable "B") (call2 "PLUS" (variable "N2") (call2 "PLUS" (variable "D") (variable "P3"))))))
    ∷ Ruled (Instance 4 ((codes "X", (variable "N2")) ∷ (codes "Y", (variable "D")) ∷ (codes "Z", (variable "P3")) ∷ []))
    ∷ Ruled (Replace 95 1 (2 ∷ 2 ∷ 2 ∷ []) (call2 "PLUS" (variable "D") (call2 "PLUS" (variable "N2") (variable "P3"))) Forwards)
    ∷ Ruled (Cut 96 97 (call2 "EQUAL" (call2 "PLUS" (variable "N2") (call2 "PLUS" (variable "D") (variable "P3"))) (call2 "PLUS" (variable "D") (call2 "PLUS" (variable "N2") (variable "P3")))))
    ∷ Ruled (Instance 4 ((codes "X", (variable "N")) ∷ (codes "Y", (variable "B")) ∷ (codes "Z", (call2 "PLUS" (variable "D") (call2 "PLUS" (variable "N2") (variable "P3")))) ∷ []))
    ∷ Ruled (Replace 98 1 (2 ∷ []) (call2 "PLUS" (variable "B") (call2 "PLUS" (variable "N") (call2 "PLUS" (variable "D") (call2 "PLUS" (variable "N2") (variable "P3"))))) Forwards)
    ∷ Ruled (Cut 99 100 (call2 "EQUAL" (call2 "PLUS" (variable "N") (call2 "PLUS" (variable "B") (call2 "PLUS" (variable "D") (call2 "PLUS" (variable "N2") (variable "P3"))))) (call2 "PLUS" (variable "B") (call2 "PLUS" (variable "N") (call2 "PLUS" (variable "D") (call2 "PLUS" (variable "N2") (variable "P3")))))))
    ∷ Ruled (Instance 4 ((codes "X", (variable "N")) ∷ (codes "Y", (variable "D")) ∷ (codes "Z", (call2 "PLUS" (variable "N2") (variable "P3"))) ∷ []))
    ∷ Ruled (Replace 101 1 (2 ∷ 2 ∷ []) (call2 "PLUS" (variable "D") (call2 "PLUS" (variable "N") (call2 "PLUS" (variable "N2") (variable "P3")))) Forwards)
    ∷ Ruled (Cut 102 103 (call2 "EQUAL" (call2 "PLUS" (variable "N") (call2 "PLUS" (variable "D") (call2 "PLUS" (variable "N2") (variable "P3")))) (call2 "PLUS" (variable "D") (call2 "PLUS" (variable "N") (call2 "PLUS" (variable "N2") (variable "P3"))))))
    ∷ Ruled (Replace 86 1 (1 ∷ []) (call2 "PLUS" (variable "B") (call2 "PLUS" (variable "D") (call2 "PLUS" (variable "N") (call2 "PLUS" (variable "N2") (variable "P3"))))) Forwards)
    ∷ Ruled (Cut 104 105 (call2 "EQUAL" (call2 "PLUS" (call2 "PLUS" (variable "N") (variable "N2")) (call2 "PLUS" (call2 "PLUS" (variable "B") (variable "D")) (variable "P3"))) (call2 "PLUS" (variable "B") (call2 "PLUS" (variable "D") (call2 "PLUS" (variable "N") (call2 "PLUS" (variable "N2") (variable "P3")))))))
    ∷ Ruled (Replace 85 1 (2 ∷ []) (call2 "PLUS" (call2 "PLUS" (variable "N") (variable "N2")) (call2 "PLUS" (call2 "PLUS" (variable "B") (variable "D")) (variable "P3"))) Forwards)
    ∷ Ruled (Cut 106 107 (call2 "EQUAL" (call2 "PLUS" (variable "B") (call2 "PLUS" (variable "D") (call2 "PLUS" (variable "N") (call2 "PLUS" (variable "N2") (variable "P3"))))) (call2 "PLUS" (call2 "PLUS" (variable "N") (variable "N2")) (call2 "PLUS" (call2 "PLUS" (variable "B") (variable "D")) (variable "P3")))))
    ∷ Ruled (Replace 75 1 (2 ∷ []) (call2 "PLUS" (call2 "PLUS" (variable "N") (variable "N2")) (call2 "PLUS" (call2 "PLUS" (variable "B") (variable "D")) (variable "P3"))) Forwards)
    ∷ Ruled (Cut 108 109 (call2 "EQUAL" (call2 "PLUS" (call2 "PLUS" (variable "B") (variable "D")) (call2 "PLUS" (variable "P3") (call2 "PLUS" (variable "N") (variable "N2")))) (call2 "PLUS" (call2 "PLUS" (variable "N") (variable "N2")) (call2 "PLUS" (call2 "PLUS" (variable "B") (variable "D")) (variable "P3")))))
    ∷ Ruled (Reflexive (call2 "DIFFERENCE" (call2 "PLUS" (call2 "PLUS" (variable "N") (variable "N2")) (call2 "PLUS" (call2 "PLUS" (variable "A") (variable "C")) (variable "N3"))) (call2 "PLUS" (variable "N") (variable "N2"))))
    ∷ Ruled (Replace 111 1 (2 ∷ 1 ∷ []) (call2 "PLUS" (call2 "PLUS" (variable "N") (variable "N2")) (call2 "PLUS" (call2 "PLUS" (variable "B") (variable "D")) (variable "P3"))) Forwards)
    ∷ Ruled (Cut 110 112 (call2 "EQUAL" (call2 "PLUS" (call2 "PLUS" (variable "N") (variable "N2")) (call2 "PLUS" (call2 "PLUS" (variable "A") (variable "C")) (variable "N3"))) (call2 "PLUS" (call2 "PLUS" (variable "N") (variable "N2")) (call2 "PLUS" (call2 "PLUS" (variable "B") (variable "D")) (variable "P3")))))
    ∷ Ruled (Instance 5 ((codes "X", (call2 "PLUS" (variable "N") (variable "N2"))) ∷ (codes "Y", (call2 "PLUS" (call2 "PLUS" (variable "A") (variable "C")) (variable "N3"))) ∷ []))
    ∷ Ruled (Replace 113 4 (1 ∷ []) (call1 "FIX" (call2 "PLUS" (call2 "PLUS" (variable "A") (variable "C")) (variable "N3"))) Forwards)
    ∷ Ruled (Cut 114 115 (call2 "EQUAL" (call2 "DIFFERENCE" (call2 "PLUS" (call2 "PLUS" (variable "N") (variable "N2")) (call2 "PLUS" (call2 "PLUS" (variable "A") (variable "C")) (variable "N3"))) (call2 "PLUS" (variable "N") (variable "N2"))) (call1 "FIX" (call2 "PLUS" (call2 "PLUS" (variable "A") (variable "C")) (variable "N3")))))
    ∷ Ruled (Instance 5 ((codes "X", (call2 "PLUS" (variable "N") (variable "N2"))) ∷ (codes "Y", (call2 "PLUS" (call2 "PLUS" (variable "B") (variable "D")) (variable "P3"))) ∷ []))
    ∷ Ruled (Replace 116 4 (2 ∷ []) (call1 "FIX" (call2 "PLUS" (call2 "PLUS" (variable "B") (variable "D")) (variable "P3"))) Forwards)
    ∷ Ruled (Cut 117 118 (call2 "EQUAL" (call2 "DIFFERENCE" (call2 "PLUS" (call2 "PLUS" (variable "N") (variable "N2")) (call2 "PLUS" (call2 "PLUS" (variable "B") (variable "D")) (variable "P3"))) (call2 "PLUS" (variable "N") (variable "N2"))) (call1 "FIX" (call2 "PLUS" (call2 "PLUS" (variable "B") (variable "D")) (variable "P3")))))
    ∷ Ruled (Instance 1 ((codes "X", (call2 "PLUS" (variable "A") (variable "C"))) ∷ (codes "Y", (variable "N3")) ∷ []))
    ∷ Ruled (Replace 119 4 (1 ∷ []) (call2 "PLUS" (call2 "PLUS" (variable "A") (variable "C")) (variable "N3")) Forwards)
    ∷ Ruled (Cut 120 121 (call2 "EQUAL" (call1 "FIX" (call2 "PLUS" (call2 "PLUS" (variable "A") (variable "C")) (variable "N3"))) (call2 "PLUS" (call2 "PLUS" (variable "A") (variable "C")) (variable "N3"))))
    ∷ Ruled (Instance 1 ((codes "X", (call2 "PLUS" (variable "B") (variable "D"))) ∷ (codes "Y", (variable "P3")) ∷ []))
    ∷ Ruled (Replace 122 4 (2 ∷ []) (call2 "PLUS" (call2 "PLUS" (variable "B") (variable "D")) (variable "P3")) Forwards)
    ∷ Ruled (Cut 123 124 (call2 "EQUAL" (call1 "FIX" (call2 "PLUS" (call2 "PLUS" (variable "B") (variable "D")) (variable "P3"))) (call2 "PLUS" (call2 "PLUS" (variable "B") (variable "D")) (variable "P3")))) ∷ []

pub sum_balances : Derivable [] (clause sum_balances_clause)
unfolding symbols_of number_of
sum_balances = everywhere (fix_of_sum_clause ∷ sum_commutes_clause ∷ sum_associates_clause ∷ sum_exchanges_clause ∷ difference_of_sum_clause ∷ []) sum_balances_log sum_balances_clause refl (fix_of_sum, (sum_commutes, (sum_associates, (sum_exchanges, (difference_of_sum, tt))))) refl

pub sum_balances_at : (h : History) (a b c d n n2 n3 p p2 p3 : Term) → IsTerm (symbols_of h) a → IsTerm (symbols_of h) b → IsTerm (symbols_of h) c → IsTerm (symbols_of h) d → IsTerm (symbols_of h) n → IsTerm (symbols_of h) n2 → IsTerm (symbols_of h) n3 → IsTerm (symbols_of h) p → IsTerm (symbols_of h) p2 → IsTerm (symbols_of h) p3 → Derivable h (clause ((call2 "EQUAL" (call2 "PLUS" a n) (call2 "PLUS" b p)) ∷ [])) → Derivable h (clause ((call2 "EQUAL" (call2 "PLUS" c n2) (call2 "PLUS" d p2)) ∷ [])) → Derivable h (clause ((call2 "EQUAL" (call2 "PLUS" (call2 "PLUS" p p2) n3) (call2 "PLUS" p3 (call2 "PLUS" n n2))) ∷ [])) → Derivable h (clause ((call2 "EQUAL" (call2 "PLUS" (call2 "PLUS" a c) n3) (call2 "PLUS" (call2 "PLUS" b d) p3)) ∷ []))
sum_balances_at h a b c d n n2 n3 p p2 p3 oa ob oc od on on2 on3 op op2 op3 d1 d2 d3 =
    by_law h ((call2 "EQUAL" (call2 "PLUS" (variable "A") (variable "N")) (call2 "PLUS" (variable "B") (variable "P"))) ∷ (call2 "EQUAL" (call2 "PLUS" (variable "C") (variable "N2")) (call2 "PLUS" (variable "D") (variable "P2"))) ∷ (call2 "EQUAL" (call2 "PLUS" (call2 "PLUS" (variable "P") (variable "P2")) (variable "N3")) (call2 "PLUS" (variable "P3") (call2 "PLUS" (variable "N") (variable "N2")))) ∷ []) (call2 "EQUAL" (call2 "PLUS" (call2 "PLUS" (variable "A") (variable "C")) (variable "N3")) (call2 "PLUS" (call2 "PLUS" (variable "B") (variable "D")) (variable "P3"))) ((codes "A", a) ∷ (codes "B", b) ∷ (codes "C", c) ∷ (codes "D", d) ∷ (codes "N", n) ∷ (codes "N2", n2) ∷ (codes "N3", n3) ∷ (codes "P", p) ∷ (codes "P2", p2) ∷ (codes "P3", p3) ∷ []) (grown sum_balances_clause sum_balances h) (d1, (d2, (d3, tt))) ((equal_symbol h, ((plus_symbol h, ((plus_symbol h, oa), oc)), on3)), ((plus_symbol h, ((plus_symbol h, ob), od)), op3))

-- (NOT (EQUAL (PLUS A N) (PLUS B P))), (NOT (EQUAL (TIMES K N) N2)), (NOT (EQUAL (TIMES K P) P2)), (EQUAL (PLUS (TIMES K A) N2) (PLUS (TIMES K B) P2))
abbrev multiple_balances_log : List LogLine
multiple_balances_log =
    Ruled (Reflexive (call2 "TIMES" (variable "K") (call2 "PLUS" (variable "A") (variable "N"))))
    ∷ Ruled (Replace 2 1 (2 ∷ 2 ∷ []) (call2 "PLUS" (variable "B") (variable "P")) Forwards)
    ∷ Ruled (Instance 1 ((codes "X", (variable "K")) ∷ (codes "Y", (variable "A")) ∷ (codes "Z", (variable "N")) ∷ []))
    ∷ Ruled (Replace 3 1 (1 ∷ []) (call2 "PLUS" (call2 "TIMES" (variable "K") (variable "A")) (call2 "TIMES" (variable "K") (variable "N"))) Forwards)
    ∷ Ruled (Cut 4 5 (call2 "EQUAL" (call2 "TIMES" (variable "K") (call2 "PLUS" (variable "A") (variable "N"))) (call2 "PLUS" (call2 "TIMES" (variable "K") (variable "A")) (call2 "TIMES" (variable "K") (variable "N")))))
    ∷ Ruled (Instance 1 ((codes "X", (variable "K")) ∷ (codes "Y", (variable "B")) ∷ (codes "Z", (variable "P")) ∷ []))
    ∷ Ruled (Replace 6 1 (2 ∷ []) (call2 "PLUS" (call2 "TIMES" (variable "K") (variable "B")) (call2 "TIMES" (variable "K") (variable "P"))) Forwards)
    ∷ Ruled (Cut 7 8 (call2 "EQUAL" (call2 "TIMES" (variable "K") (call2 "PLUS" (variable "B") (variable "P"))) (call2 "PLUS" (call2 "TIMES" (variable "K") (variable "B")) (call2 "TIMES" (variable "K") (variable "P")))))
    ∷ Ruled (Replace 9 1 (1 ∷ 2 ∷ []) (variable "N2") Forwards)
    ∷ Ruled (Replace 10 1 (2 ∷ 2 ∷ []) (variable "P2") Forwards)
    ∷ Ruled (Taut ((call1 "NOT" (call2 "EQUAL" (call2 "PLUS" (call2 "TIMES" (variable "K") (variable "A")) (variable "N2")) (call2 "PLUS" (call2 "TIMES" (variable "K") (variable "B")) (variable "P2")))) ∷ (call2 "EQUAL" (call2 "PLUS" (call2 "TIMES" (variable "K") (variable "A")) (variable "N2")) (call2 "PLUS" (call2 "TIMES" (variable "K") (variable "B")) (variable "P2"))) ∷ []))
    ∷ Ruled (Cut 11 12 (call2 "EQUAL" (call2 "PLUS" (call2 "TIMES" (variable "K") (variable "A")) (variable "N2")) (call2 "PLUS" (call2 "TIMES" (variable "K") (variable "B")) (variable "P2")))) ∷ []

pub multiple_balances : Derivable [] (clause multiple_balances_clause)
unfolding symbols_of number_of
multiple_balances = everywhere (product_distributes_clause ∷ []) multiple_balances_log multiple_balances_clause refl (product_distributes, tt) refl

pub multiple_balances_at : (h : History) (a b k n n2 p p2 : Term) → IsTerm (symbols_of h) a → IsTerm (symbols_of h) b → IsTerm (symbols_of h) k → IsTerm (symbols_of h) n → IsTerm (symbols_of h) n2 → IsTerm (symbols_of h) p → IsTerm (symbols_of h) p2 → Derivable h (clause ((call2 "EQUAL" (call2 "PLUS" a n) (call2 "PLUS" b p)) ∷ [])) → Derivable h (clause ((call2 "EQUAL" (call2 "TIMES" k n) n2) ∷ [])) → Derivable h (clause ((call2 "EQUAL" (call2 "TIMES" k p) p2) ∷ [])) → Derivable h (clause ((call2 "EQUAL" (call2 "PLUS" (call2 "TIMES" k a) n2) (call2 "PLUS" (call2 "TIMES" k b) p2)) ∷ []))
multiple_balances_at h a b k n n2 p p2 oa ob ok on on2 op op2 d1 d2 d3 =
    by_law h ((call2 "EQUAL" (call2 "PLUS" (variable "A") (variable "N")) (call2 "PLUS" (variable "B") (variable "P"))) ∷ (call2 "EQUAL" (call2 "TIMES" (variable "K") (variable "N")) (variable "N2")) ∷ (call2 "EQUAL" (call2 "TIMES" (variable "K") (variable "P")) (variable "P2")) ∷ []) (call2 "EQUAL" (call2 "PLUS" (call2 "TIMES" (variable "K") (variable "A")) (variable "N2")) (call2 "PLUS" (call2 "TIMES" (variable "K") (variable "B")) (variable "P2"))) ((codes "A", a) ∷ (codes "B", b) ∷ (codes "K", k) ∷ (codes "N", n) ∷ (codes "N2", n2) ∷ (codes "P", p) ∷ (codes "P2", p2) ∷ []) (grown multiple_balances_clause multiple_balances h) (d1, (d2, (d3, tt))) ((equal_symbol h, ((plus_symbol h, ((times_symbol h, ok), oa)), on2)), ((plus_symbol h, ((times_symbol h, ok), ob)), op2))

-- (NOT (EQUAL (TIMES K C) M)), (NOT (EQUAL (TIMES K R) S)), (EQUAL (TIMES K (PLUS (TIMES C E) R)) (PLUS (TIMES M E) S))
abbrev multiple_of_atom_log : List LogLine
multiple_of_atom_log =
    Ruled (Reflexive (call2 "TIMES" (variable "K") (call2 "PLUS" (call2 "TIMES" (variable "C") (variable "E")) (variable "R"))))
    ∷ Ruled (Instance 1 ((codes "X", (variable "K")) ∷ (codes "Y", (call2 "TIMES" (variable "C") (variable "E"))) ∷ (codes "Z", (variable "R")) ∷ []))
    ∷ Ruled (Replace 3 1 (2 ∷ []) (call2 "PLUS" (call2 "TIMES" (variable "K") (call2 "TIMES" (variable "C") (variable "E"))) (call2 "TIMES" (variable "K") (variable "R"))) Forwards)
    ∷ Ruled (Cut 4 5 (call2 "EQUAL" (call2 "TIMES" (variable "K") (call2 "PLUS" (call2 "TIMES" (variable "C") (variable "E")) (variable "R"))) (call2 "PLUS" (call2 "TIMES" (variable "K") (call2 "TIMES" (variable "C") (variable "E"))) (call2 "TIMES" (variable "K") (variable "R")))))
    ∷ Ruled (Instance 2 ((codes "X", (variable "K")) ∷ (codes "Y", (variable "C")) ∷ (codes "Z", (variable "E")) ∷ []))
    ∷ Ruled (Reflexive (call2 "TIMES" (call2 "TIMES" (variable "K") (variable "C")) (variable "E")))
    ∷ Ruled (Replace 8 1 (1 ∷ []) (call2 "TIMES" (variable "K") (call2 "TIMES" (variable "C") (variable "E"))) Forwards)
    ∷ Ruled (Cut 7 9 (call2 "EQUAL" (call2 "TIMES" (call2 "TIMES" (variable "K") (variable "C")) (variable "E")) (call2 "TIMES" (variable "K") (call2 "TIMES" (variable "C") (variable "E")))))
    ∷ Ruled (Replace 6 1 (2 ∷ 1 ∷ []) (call2 "TIMES" (call2 "TIMES" (variable "K") (variable "C")) (variable "E")) Forwards)
    ∷ Ruled (Cut 10 11 (call2 "EQUAL" (call2 "TIMES" (variable "K") (call2 "TIMES" (variable "C") (variable "E"))) (call2 "TIMES" (call2 "TIMES" (variable "K") (variable "C")) (variable "E"))))
    ∷ Ruled (Replace 12 1 (2 ∷ 1 ∷ 1 ∷ []) (variable "M") Forwards)
    ∷ Ruled (Replace 13 1 (2 ∷ 2 ∷ []) (variable "S") Forwards)
    ∷ Ruled (Taut ((call1 "NOT" (call2 "EQUAL" (call2 "TIMES" (variable "K") (call2 "PLUS" (call2 "TIMES" (variable "C") (variable "E")) (variable "R"))) (call2 "PLUS" (call2 "TIMES" (variable "M") (variable "E")) (variable "S")))) ∷ (call2 "EQUAL" (call2 "TIMES" (variable "K") (call2 "PLUS" (call2 "TIMES" (variable "C") (variable "E")) (variable "R"))) (call2 "PLUS" (call2 "TIMES" (variable "M") (variable "E")) (variable "S"))) ∷ []))
    ∷ Ruled (Cut 14 15 (call2 "EQUAL" (call2 "TIMES" (variable "K") (call2 "PLUS" (call2 "TIMES" (variable "C") (variable "E")) (variable "R"))) (call2 "PLUS" (call2 "TIMES" (variable "M") (variable "E")) (variable "S")))) ∷ []

pub multiple_of_atom : Derivable [] (clause multiple_of_atom_clause)
unfolding symbols_of number_of
multiple_of_atom = everywhere (product_distributes_clause ∷ product_associates_clause ∷ []) multiple_of_atom_log multiple_of_atom_clause refl (product_distributes, (product_associates, tt)) refl

pub multiple_of_atom_at : (h : History) (c e k m r s : Term) → IsTerm (symbols_of h) c → IsTerm (symbols_of h) e → IsTerm (symbols_of h) k → IsTerm (symbols_of h) m → IsTerm (symbols_of h) r → IsTerm (symbols_of h) s → Derivable h (clause ((call2 "EQUAL" (call2 "TIMES" k c) m) ∷ [])) → Derivable h (clause ((call2 "EQUAL" (call2 "TIMES" k r) s) ∷ [])) → Derivable h (clause ((call2 "EQUAL" (call2 "TIMES" k (call2 "PLUS" (call2 "TIMES" c e) r)) (call2 "PLUS" (call2 "TIMES" m e) s)) ∷ []))
multiple_of_atom_at h c e k m r s oc oe ok om or os d1 d2 =
    by_law h ((call2 "EQUAL" (call2 "TIMES" (variable "K") (variable "C")) (variable "M")) ∷ (call2 "EQUAL" (call2 "TIMES" (variable "K") (variable "R")) (variable "S")) ∷ []) (call2 "EQUAL" (call2 "TIMES" (variable "K") (call2 "PLUS" (call2 "TIMES" (variable "C") (variable "E")) (variable "R"))) (call2 "PLUS" (call2 "TIMES" (variable "M") (variable "E")) (variable "S"))) ((codes "C", c) ∷ (codes "E", e) ∷ (codes "K", k) ∷ (codes "M", m) ∷ (codes "R", r) ∷ (codes "S", s) ∷ []) (grown multiple_of_atom_clause multiple_of_atom h) (d1, (d2, tt)) ((equal_symbol h, ((times_symbol h, ok), ((plus_symbol h, ((times_symbol h, oc), oe)), or))), ((plus_symbol h, ((times_symbol h, om), oe)), os))

-- (NOT (EQUAL (TIMES K C) M)), (NOT (EQUAL (TIMES K R) S)), (EQUAL (TIMES K (PLUS C R)) (PLUS M S))
abbrev multiple_of_constant_log : List LogLine
multiple_of_constant_log =
    Ruled (Reflexive (call2 "TIMES" (variable "K") (call2 "PLUS" (variable "C") (variable "R"))))
    ∷ Ruled (Instance 1 ((codes "X", (variable "K")) ∷ (codes "Y", (variable "C")) ∷ (codes "Z", (variable "R")) ∷ []))
    ∷ Ruled (Replace 2 1 (2 ∷ []) (call2 "PLUS" (call2 "TIMES" (variable "K") (variable "C")) (call2 "TIMES" (variable "K") (variable "R"))) Forwards)
    ∷ Ruled (Cut 3 4 (call2 "EQUAL" (call2 "TIMES" (variable "K") (call2 "PLUS" (variable "C") (variable "R"))) (call2 "PLUS" (call2 "TIMES" (variable "K") (variable "C")) (call2 "TIMES" (variable "K") (variable "R")))))
    ∷ Ruled (Replace 5 1 (2 ∷ 1 ∷ []) (variable "M") Forwards)
    ∷ Ruled (Replace 6 1 (2 ∷ 2 ∷ []) (variable "S") Forwards)
    ∷ Ruled (Taut ((call1 "NOT" (call2 "EQUAL" (call2 "TIMES" (variable "K") (call2 "PLUS" (variable "C") (variable "R"))) (call2 "PLUS" (variable "M") (variable "S")))) ∷ (call2 "EQUAL" (call2 "TIMES" (variable "K") (call2 "PLUS" (variable "C") (variable "R"))) (call2 "PLUS" (variable "M") (variable "S"))) ∷ []))
    ∷ Ruled (Cut 7 8 (call2 "EQUAL" (call2 "TIMES" (variable "K") (call2 "PLUS" (variable "C") (variable "R"))) (call2 "PLUS" (variable "M") (variable "S")))) ∷ []

pub multiple_of_constant : Derivable [] (clause multiple_of_constant_clause)
unfolding symbols_of number_of
multiple_of_constant = everywhere (product_distributes_clause ∷ []) multiple_of_constant_log multiple_of_constant_clause refl (product_distributes, tt) refl

pub multiple_of_constant_at : (h : History) (c k m r s : Term) → IsTerm (symbols_of h) c → IsTerm (symbols_of h) k → IsTerm (symbols_of h) m → IsTerm (symbols_of h) r → IsTerm (symbols_of h) s → Derivable h (clause ((call2 "EQUAL" (call2 "TIMES" k c) m) ∷ [])) → Derivable h (clause ((call2 "EQUAL" (call2 "TIMES" k r) s) ∷ [])) → Derivable h (clause ((call2 "EQUAL" (call2 "TIMES" k (call2 "PLUS" c r)) (call2 "PLUS" m s)) ∷ []))
multiple_of_constant_at h c k m r s oc ok om or os d1 d2 =
    by_law h ((call2 "EQUAL" (call2 "TIMES" (variable "K") (variable "C")) (variable "M")) ∷ (call2 "EQUAL" (call2 "TIMES" (variable "K") (variable "R")) (variable "S")) ∷ []) (call2 "EQUAL" (call2 "TIMES" (variable "K") (call2 "PLUS" (variable "C") (variable "R"))) (call2 "PLUS" (variable "M") (variable "S"))) ((codes "C", c) ∷ (codes "K", k) ∷ (codes "M", m) ∷ (codes "R", r) ∷ (codes "S", s) ∷ []) (grown multiple_of_constant_clause multiple_of_constant h) (d1, (d2, tt)) ((equal_symbol h, ((times_symbol h, ok), ((plus_symbol h, oc), or))), ((plus_symbol h, om), os))

pub laws_of_balances_hold : AreDerivable laws_of_balances
laws_of_balances_hold h = (grown sum_balances_clause sum_balances h, (grown multiple_balances_clause multiple_balances h, (grown multiple_of_atom_clause multiple_of_atom h, (grown multiple_of_constant_clause multiple_of_constant h, tt))))
