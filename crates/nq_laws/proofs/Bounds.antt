-- Laws of comparisons of sums in the ground history, each by a log over earlier ones, and at terms of any history.
use Rattle.std.proofs.Common.{List, [], ◌∷◌, refl}
use Rattle.std.specs.Prelude.{codes}
use Rattle.nq_logic.specs.Terms.{Term, IsTerm}
use Rattle.nq_logic.specs.Words.{variable, call0, call1, call2, call3}
use Rattle.nq_logic.specs.Histories.{History}
use Rattle.nq_logic.specs.Ground.{symbols_of}
use Rattle.nq_logic.specs.Numerals.{number_of}
use Rattle.nq_logic.specs.Formulas.{clause}
use Rattle.nq_logic.specs.Derivations.{Derivable}
use Rattle.nq_logic.proofs.Clauses.{instance_law}
use Rattle.nq_proof.specs.Rules.{Taut, AxiomRow, Cut, Instance, Reflexive, Replace, Induct, Forwards, Backwards}
use Rattle.nq_proof.specs.Logs.{LogLine, Ruled}
use Rattle.nq_proof.proofs.SoundLogs.{everywhere, grown}
use Rattle.nq_proof.proofs.ByLaw.{by_law}
use Rattle.nq_laws.specs.Laws.{AreDerivable}
use Rattle.nq_logic.proofs.Symbols.{equal_symbol, lessp_symbol, not_symbol, or_symbol, plus_symbol, times_symbol, zero_symbol}
use Rattle.nq_laws.specs.Bounds.{sums_not_less_clause, multiples_not_less_as_term_clause, multiples_not_less_clause, nothing_less_than_itself_clause, bound_of_less_clause, bound_of_equation_clause, bound_of_equation_turned_clause, laws_of_bounds}
use Rattle.nq_laws.specs.Zero.{zero_is_zero_clause}
use Rattle.nq_laws.proofs.Zero.{zero_is_zero}
use Rattle.nq_laws.specs.Ordinals.{size_is_ordinal_clause, size_falls_clause}
use Rattle.nq_laws.proofs.Ordinals.{size_is_ordinal, size_falls}
use Rattle.nq_laws.specs.Plus.{sum_at_zero_clause, sum_with_zero_clause}
use Rattle.nq_laws.proofs.Plus.{sum_at_zero, sum_with_zero}
use Rattle.nq_laws.specs.PlusOrder.{sum_commutes_clause}
use Rattle.nq_laws.proofs.PlusOrder.{sum_commutes}
use Rattle.nq_laws.specs.Less.{sum_is_monotone_clause, nothing_less_than_zero_clause, less_is_irreflexive_clause, less_of_fixes_clause}
use Rattle.nq_laws.proofs.Less.{sum_is_monotone, nothing_less_than_zero, less_is_irreflexive, less_of_fixes}
use Rattle.nq_laws.specs.Times.{product_at_zero_clause, product_at_positive_clause}
use Rattle.nq_laws.proofs.Times.{product_at_zero, product_at_positive}
use Rattle.nq_laws.specs.Connectives.{if_of_truth_clause, truth_is_true_clause}
use Rattle.nq_laws.proofs.Connectives.{if_of_truth, truth_is_true}
use Rattle.nq_laws.specs.SplitLess.{less_is_split_clause}
use Rattle.nq_laws.proofs.SplitLess.{less_is_split}

-- (LESSP A B), (LESSP C D), (NOT (LESSP (PLUS A C) (PLUS B D)))
abbrev sums_not_less_log : List LogLine
sums_not_less_log =
    Ruled (Instance 3 ((codes "X", (call2 "PLUS" (variable "A") (variable "C"))) ∷ (codes "Y", (call2 "PLUS" (variable "A") (variable "D"))) ∷ (codes "Z", (call2 "PLUS" (variable "B") (variable "D"))) ∷ []))
    ∷ Ruled (Instance 2 ((codes "X", (variable "A")) ∷ (codes "Y", (variable "C")) ∷ (codes "Z", (variable "D")) ∷ []))
    ∷ Ruled (Replace 4 2 [] (call2 "LESSP" (variable "C") (variable "D")) Forwards)
    ∷ Ruled (Cut 5 6 (call2 "EQUAL" (call2 "LESSP" (call2 "PLUS" (variable "A") (variable "C")) (call2 "PLUS" (variable "A") (variable "D"))) (call2 "LESSP" (variable "C") (variable "D"))))
    ∷ Ruled (Instance 1 ((codes "X", (variable "A")) ∷ (codes "Y", (variable "D")) ∷ []))
    ∷ Ruled (Replace 7 1 (1 ∷ []) (call2 "PLUS" (variable "D") (variable "A")) Forwards)
    ∷ Ruled (Cut 8 9 (call2 "EQUAL" (call2 "PLUS" (variable "A") (variable "D")) (call2 "PLUS" (variable "D") (variable "A"))))
    ∷ Ruled (Instance 1 ((codes "X", (variable "B")) ∷ (codes "Y", (variable "D")) ∷ []))
    ∷ Ruled (Replace 10 1 (2 ∷ []) (call2 "PLUS" (variable "D") (variable "B")) Forwards)
    ∷ Ruled (Cut 11 12 (call2 "EQUAL" (call2 "PLUS" (variable "B") (variable "D")) (call2 "PLUS" (variable "D") (variable "B"))))
    ∷ Ruled (Instance 2 ((codes "X", (variable "D")) ∷ (codes "Y", (variable "A")) ∷ (codes "Z", (variable "B")) ∷ []))
    ∷ Ruled (Replace 13 1 [] (call2 "LESSP" (variable "A") (variable "B")) Forwards)
    ∷ Ruled (Cut 14 15 (call2 "EQUAL" (call2 "LESSP" (call2 "PLUS" (variable "D") (variable "A")) (call2 "PLUS" (variable "D") (variable "B"))) (call2 "LESSP" (variable "A") (variable "B")))) ∷ []

pub sums_not_less : Derivable [] (clause sums_not_less_clause)
unfolding symbols_of number_of
sums_not_less = everywhere (sum_commutes_clause ∷ sum_is_monotone_clause ∷ less_is_split_clause ∷ []) sums_not_less_log sums_not_less_clause refl (sum_commutes, (sum_is_monotone, (less_is_split, tt))) refl

pub sums_not_less_clause_at : (h : History) (a b c d : Term) → IsTerm (symbols_of h) a → IsTerm (symbols_of h) b → IsTerm (symbols_of h) c → IsTerm (symbols_of h) d → Derivable h (clause ((call2 "LESSP" a b) ∷ (call2 "LESSP" c d) ∷ (call1 "NOT" (call2 "LESSP" (call2 "PLUS" a c) (call2 "PLUS" b d))) ∷ []))
sums_not_less_clause_at h a b c d oa ob oc od =
    instance_law h ((codes "A", a) ∷ (codes "B", b) ∷ (codes "C", c) ∷ (codes "D", d) ∷ []) sums_not_less_clause (grown sums_not_less_clause sums_not_less h) (((lessp_symbol h, oa), ob), (((lessp_symbol h, oc), od), ((not_symbol h, ((lessp_symbol h, ((plus_symbol h, oa), oc)), ((plus_symbol h, ob), od))), tt)))

-- (OR (LESSP A B) (NOT (LESSP (TIMES K A) (TIMES K B))))
abbrev multiples_not_less_as_term_log : List LogLine
multiples_not_less_as_term_log =
    Ruled (AxiomRow (codes "IF") 1 0)
    ∷ Ruled (AxiomRow (codes "FALSE") 1 0)
    ∷ Ruled (Instance 5 ((codes "X", (call0 "ZERO")) ∷ []))
    ∷ Ruled (Instance 9 ((codes "X", (call0 "FALSE")) ∷ (codes "Y", (call0 "FALSE")) ∷ (codes "Z", (call0 "TRUE")) ∷ []))
    ∷ Ruled (Cut 12 10 (call0 "FALSE"))
    ∷ Ruled (Instance 1 ((codes "X", (call0 "TRUE")) ∷ (codes "Y", (call0 "TRUE")) ∷ (codes "Z", (call0 "FALSE")) ∷ []))
    ∷ Ruled (Cut 2 14 (call0 "TRUE"))
    ∷ Ruled (Taut ((call0 "TRUE") ∷ (call1 "NOT" (call0 "TRUE")) ∷ []))
    ∷ Ruled (AxiomRow (codes "NOT") 1 0)
    ∷ Ruled (Instance 17 ((codes "P", (call0 "FALSE")) ∷ []))
    ∷ Ruled (AxiomRow (codes "OR") 1 0)
    ∷ Ruled (Instance 8 ((codes "C", (call2 "TIMES" (call1 "SUB1" (variable "K")) (variable "A"))) ∷ (codes "D", (call2 "TIMES" (call1 "SUB1" (variable "K")) (variable "B"))) ∷ []))
    ∷ Ruled (Instance 6 ((codes "X", (variable "K")) ∷ (codes "Y", (variable "A")) ∷ []))
    ∷ Ruled (Instance 6 ((codes "X", (variable "K")) ∷ (codes "Y", (variable "B")) ∷ []))
    ∷ Ruled (Instance 19 ((codes "P", (call2 "LESSP" (variable "A") (variable "B"))) ∷ (codes "Q", (call0 "TRUE")) ∷ []))
    ∷ Ruled (Instance 1 ((codes "X", (call2 "LESSP" (variable "A") (variable "B"))) ∷ (codes "Y", (call0 "TRUE")) ∷ (codes "Z", (call0 "TRUE")) ∷ []))
    ∷ Ruled (Replace 2 1 [] (call3 "IF" (call2 "LESSP" (variable "A") (variable "B")) (call0 "TRUE") (call0 "TRUE")) Backwards)
    ∷ Ruled (Cut 24 25 (call2 "EQUAL" (call3 "IF" (call2 "LESSP" (variable "A") (variable "B")) (call0 "TRUE") (call0 "TRUE")) (call0 "TRUE")))
    ∷ Ruled (Instance 9 ((codes "X", (call2 "LESSP" (variable "A") (variable "B"))) ∷ (codes "Y", (call0 "TRUE")) ∷ (codes "Z", (call0 "TRUE")) ∷ []))
    ∷ Ruled (Cut 27 25 (call2 "EQUAL" (call3 "IF" (call2 "LESSP" (variable "A") (variable "B")) (call0 "TRUE") (call0 "TRUE")) (call0 "TRUE")))
    ∷ Ruled (Cut 28 26 (call2 "LESSP" (variable "A") (variable "B")))
    ∷ Ruled (Replace 29 1 (3 ∷ []) (call3 "IF" (call0 "TRUE") (call0 "TRUE") (call0 "FALSE")) Backwards)
    ∷ Ruled (Cut 15 30 (call2 "EQUAL" (call3 "IF" (call0 "TRUE") (call0 "TRUE") (call0 "FALSE")) (call0 "TRUE")))
    ∷ Ruled (Replace 31 1 [] (call2 "OR" (call2 "LESSP" (variable "A") (variable "B")) (call0 "TRUE")) Backwards)
    ∷ Ruled (Cut 23 32 (call2 "EQUAL" (call2 "OR" (call2 "LESSP" (variable "A") (variable "B")) (call0 "TRUE")) (call3 "IF" (call2 "LESSP" (variable "A") (variable "B")) (call0 "TRUE") (call3 "IF" (call0 "TRUE") (call0 "TRUE") (call0 "FALSE")))))
    ∷ Ruled (Replace 33 1 (2 ∷ []) (call3 "IF" (call0 "FALSE") (call0 "FALSE") (call0 "TRUE")) Backwards)
    ∷ Ruled (Cut 13 34 (call2 "EQUAL" (call3 "IF" (call0 "FALSE") (call0 "FALSE") (call0 "TRUE")) (call0 "TRUE")))
    ∷ Ruled (Replace 35 1 (2 ∷ []) (call1 "NOT" (call0 "FALSE")) Backwards)
    ∷ Ruled (Cut 18 36 (call2 "EQUAL" (call1 "NOT" (call0 "FALSE")) (call3 "IF" (call0 "FALSE") (call0 "FALSE") (call0 "TRUE"))))
    ∷ Ruled (Replace 37 1 (2 ∷ 1 ∷ []) (call2 "LESSP" (call0 "ZERO") (call0 "ZERO")) Backwards)
    ∷ Ruled (Cut 11 38 (call2 "EQUAL" (call2 "LESSP" (call0 "ZERO") (call0 "ZERO")) (call0 "FALSE")))
    ∷ Ruled (Replace 39 1 (2 ∷ 1 ∷ 2 ∷ []) (call2 "TIMES" (variable "K") (variable "B")) Backwards)
    ∷ Ruled (Cut 22 40 (call2 "EQUAL" (call2 "TIMES" (variable "K") (variable "B")) (call0 "ZERO")))
    ∷ Ruled (Replace 41 2 (2 ∷ 1 ∷ 1 ∷ []) (call2 "TIMES" (variable "K") (variable "A")) Backwards)
    ∷ Ruled (Cut 21 42 (call2 "EQUAL" (call2 "TIMES" (variable "K") (variable "A")) (call0 "ZERO")))
    ∷ Ruled (Instance 19 ((codes "P", (call2 "LESSP" (variable "A") (variable "B"))) ∷ (codes "Q", (call1 "NOT" (call2 "LESSP" (call2 "TIMES" (call1 "SUB1" (variable "K")) (variable "A")) (call2 "TIMES" (call1 "SUB1" (variable "K")) (variable "B"))))) ∷ []))
    ∷ Ruled (Instance 7 ((codes "X", (variable "K")) ∷ (codes "Y", (variable "A")) ∷ []))
    ∷ Ruled (Instance 7 ((codes "X", (variable "K")) ∷ (codes "Y", (variable "B")) ∷ []))
    ∷ Ruled (Instance 19 ((codes "P", (call2 "LESSP" (variable "A") (variable "B"))) ∷ (codes "Q", (call1 "NOT" (call2 "LESSP" (call2 "PLUS" (variable "A") (call2 "TIMES" (call1 "SUB1" (variable "K")) (variable "A"))) (call2 "PLUS" (variable "B") (call2 "TIMES" (call1 "SUB1" (variable "K")) (variable "B")))))) ∷ []))
    ∷ Ruled (Instance 1 ((codes "X", (call1 "NOT" (call2 "LESSP" (call2 "TIMES" (call1 "SUB1" (variable "K")) (variable "A")) (call2 "TIMES" (call1 "SUB1" (variable "K")) (variable "B"))))) ∷ (codes "Y", (call0 "TRUE")) ∷ (codes "Z", (call0 "FALSE")) ∷ []))
    ∷ Ruled (Instance 1 ((codes "X", (call2 "LESSP" (variable "A") (variable "B"))) ∷ (codes "Y", (call0 "TRUE")) ∷ (codes "Z", (call3 "IF" (call1 "NOT" (call2 "LESSP" (call2 "PLUS" (variable "A") (call2 "TIMES" (call1 "SUB1" (variable "K")) (variable "A"))) (call2 "PLUS" (variable "B") (call2 "TIMES" (call1 "SUB1" (variable "K")) (variable "B"))))) (call0 "TRUE") (call0 "FALSE"))) ∷ []))
    ∷ Ruled (Replace 16 1 [] (call3 "IF" (call2 "LESSP" (variable "A") (variable "B")) (call0 "TRUE") (call3 "IF" (call1 "NOT" (call2 "LESSP" (call2 "PLUS" (variable "A") (call2 "TIMES" (call1 "SUB1" (variable "K")) (variable "A"))) (call2 "PLUS" (variable "B") (call2 "TIMES" (call1 "SUB1" (variable "K")) (variable "B"))))) (call0 "TRUE") (call0 "FALSE"))) Backwards)
    ∷ Ruled (Cut 49 50 (call2 "EQUAL" (call3 "IF" (call2 "LESSP" (variable "A") (variable "B")) (call0 "TRUE") (call3 "IF" (call1 "NOT" (call2 "LESSP" (call2 "PLUS" (variable "A") (call2 "TIMES" (call1 "SUB1" (variable "K")) (variable "A"))) (call2 "PLUS" (variable "B") (call2 "TIMES" (call1 "SUB1" (variable "K")) (variable "B"))))) (call0 "TRUE") (call0 "FALSE"))) (call0 "TRUE")))
    ∷ Ruled (Replace 51 3 (1 ∷ []) (call3 "IF" (call2 "LESSP" (variable "A") (variable "B")) (call0 "TRUE") (call0 "TRUE")) Backwards)
    ∷ Ruled (Cut 24 52 (call2 "EQUAL" (call3 "IF" (call2 "LESSP" (variable "A") (variable "B")) (call0 "TRUE") (call0 "TRUE")) (call0 "TRUE")))
    ∷ Ruled (Instance 9 ((codes "X", (call2 "LESSP" (variable "A") (variable "B"))) ∷ (codes "Y", (call0 "TRUE")) ∷ (codes "Z", (call3 "IF" (call1 "NOT" (call2 "LESSP" (call2 "PLUS" (variable "A") (call2 "TIMES" (call1 "SUB1" (variable "K")) (variable "A"))) (call2 "PLUS" (variable "B") (call2 "TIMES" (call1 "SUB1" (variable "K")) (variable "B"))))) (call0 "TRUE") (call0 "FALSE"))) ∷ []))
    ∷ Ruled (Instance 1 ((codes "X", (call1 "NOT" (call2 "LESSP" (call2 "PLUS" (variable "A") (call2 "TIMES" (call1 "SUB1" (variable "K")) (variable "A"))) (call2 "PLUS" (variable "B") (call2 "TIMES" (call1 "SUB1" (variable "K")) (variable "B")))))) ∷ (codes "Y", (call0 "TRUE")) ∷ (codes "Z", (call0 "FALSE")) ∷ []))
    ∷ Ruled (Replace 16 1 [] (call3 "IF" (call1 "NOT" (call2 "LESSP" (call2 "PLUS" (variable "A") (call2 "TIMES" (call1 "SUB1" (variable "K")) (variable "A"))) (call2 "PLUS" (variable "B") (call2 "TIMES" (call1 "SUB1" (variable "K")) (variable "B"))))) (call0 "TRUE") (call0 "FALSE")) Backwards)
    ∷ Ruled (Cut 55 56 (call2 "EQUAL" (call3 "IF" (call1 "NOT" (call2 "LESSP" (call2 "PLUS" (variable "A") (call2 "TIMES" (call1 "SUB1" (variable "K")) (variable "A"))) (call2 "PLUS" (variable "B") (call2 "TIMES" (call1 "SUB1" (variable "K")) (variable "B"))))) (call0 "TRUE") (call0 "FALSE")) (call0 "TRUE")))
    ∷ Ruled (Cut 20 57 (call1 "NOT" (call2 "LESSP" (call2 "PLUS" (variable "A") (call2 "TIMES" (call1 "SUB1" (variable "K")) (variable "A"))) (call2 "PLUS" (variable "B") (call2 "TIMES" (call1 "SUB1" (variable "K")) (variable "B"))))))
    ∷ Ruled (Replace 58 3 [] (call3 "IF" (call2 "LESSP" (variable "A") (variable "B")) (call0 "TRUE") (call3 "IF" (call1 "NOT" (call2 "LESSP" (call2 "PLUS" (variable "A") (call2 "TIMES" (call1 "SUB1" (variable "K")) (variable "A"))) (call2 "PLUS" (variable "B") (call2 "TIMES" (call1 "SUB1" (variable "K")) (variable "B"))))) (call0 "TRUE") (call0 "FALSE"))) Backwards)
    ∷ Ruled (Cut 54 59 (call2 "EQUAL" (call3 "IF" (call2 "LESSP" (variable "A") (variable "B")) (call0 "TRUE") (call3 "IF" (call1 "NOT" (call2 "LESSP" (call2 "PLUS" (variable "A") (call2 "TIMES" (call1 "SUB1" (variable "K")) (variable "A"))) (call2 "PLUS" (variable "B") (call2 "TIMES" (call1 "SUB1" (variable "K")) (variable "B"))))) (call0 "TRUE") (call0 "FALSE"))) (call3 "IF" (call1 "NOT" (call2 "LESSP" (call2 "PLUS" (variable "A") (call2 "TIMES" (call1 "SUB1" (variable "K")) (variable "A"))) (call2 "PLUS" (variable "B") (call2 "TIMES" (call1 "SUB1" (variable "K")) (variable "B"))))) (call0 "TRUE") (call0 "FALSE"))))
    ∷ Ruled (Replace 60 4 (1 ∷ []) (call3 "IF" (call2 "LESSP" (variable "A") (variable "B")) (call0 "TRUE") (call0 "TRUE")) Backwards)
    ∷ Ruled (Cut 27 61 (call2 "EQUAL" (call3 "IF" (call2 "LESSP" (variable "A") (variable "B")) (call0 "TRUE") (call0 "TRUE")) (call0 "TRUE")))
    ∷ Ruled (Cut 62 53 (call2 "LESSP" (variable "A") (variable "B")))
    ∷ Ruled (Replace 63 3 (1 ∷ 3 ∷ []) (call3 "IF" (call1 "NOT" (call2 "LESSP" (call2 "TIMES" (call1 "SUB1" (variable "K")) (variable "A")) (call2 "TIMES" (call1 "SUB1" (variable "K")) (variable "B")))) (call0 "TRUE") (call0 "FALSE")) Backwards)
    ∷ Ruled (Cut 48 64 (call2 "EQUAL" (call3 "IF" (call1 "NOT" (call2 "LESSP" (call2 "TIMES" (call1 "SUB1" (variable "K")) (variable "A")) (call2 "TIMES" (call1 "SUB1" (variable "K")) (variable "B")))) (call0 "TRUE") (call0 "FALSE")) (call0 "TRUE")))
    ∷ Ruled (Taut ((call1 "NOT" (call2 "LESSP" (call2 "TIMES" (call1 "SUB1" (variable "K")) (variable "A")) (call2 "TIMES" (call1 "SUB1" (variable "K")) (variable "B")))) ∷ (call1 "NOT" (call1 "NOT" (call2 "LESSP" (call2 "TIMES" (call1 "SUB1" (variable "K")) (variable "A")) (call2 "TIMES" (call1 "SUB1" (variable "K")) (variable "B"))))) ∷ []))
    ∷ Ruled (Cut 65 66 (call2 "LESSP" (call2 "TIMES" (call1 "SUB1" (variable "K")) (variable "A")) (call2 "TIMES" (call1 "SUB1" (variable "K")) (variable "B"))))
    ∷ Ruled (Instance 9 ((codes "X", (call1 "NOT" (call2 "LESSP" (call2 "TIMES" (call1 "SUB1" (variable "K")) (variable "A")) (call2 "TIMES" (call1 "SUB1" (variable "K")) (variable "B"))))) ∷ (codes "Y", (call0 "TRUE")) ∷ (codes "Z", (call0 "FALSE")) ∷ []))
    ∷ Ruled (Instance 1 ((codes "X", (call2 "LESSP" (variable "A") (variable "B"))) ∷ (codes "Y", (call0 "TRUE")) ∷ (codes "Z", (call0 "FALSE")) ∷ []))
    ∷ Ruled (Replace 51 3 (1 ∷ []) (call3 "IF" (call2 "LESSP" (variable "A") (variable "B")) (call0 "TRUE") (call0 "FALSE")) Backwards)
    ∷ Ruled (Cut 69 70 (call2 "EQUAL" (call3 "IF" (call2 "LESSP" (variable "A") (variable "B")) (call0 "TRUE") (call0 "FALSE")) (call0 "TRUE")))
    ∷ Ruled (Instance 9 ((codes "X", (call2 "LESSP" (variable "A") (variable "B"))) ∷ (codes "Y", (call0 "TRUE")) ∷ (codes "Z", (call0 "FALSE")) ∷ []))
    ∷ Ruled (Replace 10 1 (1 ∷ []) (call3 "IF" (call2 "LESSP" (variable "A") (variable "B")) (call0 "TRUE") (call0 "FALSE")) Backwards)
    ∷ Ruled (Cut 72 73 (call2 "EQUAL" (call3 "IF" (call2 "LESSP" (variable "A") (variable "B")) (call0 "TRUE") (call0 "FALSE")) (call0 "FALSE")))
    ∷ Ruled (Cut 74 71 (call2 "LESSP" (variable "A") (variable "B")))
    ∷ Ruled (Replace 75 1 (1 ∷ 3 ∷ []) (call3 "IF" (call1 "NOT" (call2 "LESSP" (call2 "TIMES" (call1 "SUB1" (variable "K")) (variable "A")) (call2 "TIMES" (call1 "SUB1" (variable "K")) (variable "B")))) (call0 "TRUE") (call0 "FALSE")) Backwards)
    ∷ Ruled (Cut 68 76 (call2 "EQUAL" (call3 "IF" (call1 "NOT" (call2 "LESSP" (call2 "TIMES" (call1 "SUB1" (variable "K")) (variable "A")) (call2 "TIMES" (call1 "SUB1" (variable "K")) (variable "B")))) (call0 "TRUE") (call0 "FALSE")) (call0 "FALSE")))
    ∷ Ruled (Cut 77 67 (call1 "NOT" (call2 "LESSP" (call2 "TIMES" (call1 "SUB1" (variable "K")) (variable "A")) (call2 "TIMES" (call1 "SUB1" (variable "K")) (variable "B")))))
    ∷ Ruled (Replace 78 2 [] (call2 "OR" (call2 "LESSP" (variable "A") (variable "B")) (call1 "NOT" (call2 "LESSP" (call2 "PLUS" (variable "A") (call2 "TIMES" (call1 "SUB1" (variable "K")) (variable "A"))) (call2 "PLUS" (variable "B") (call2 "TIMES" (call1 "SUB1" (variable "K")) (variable "B")))))) Backwards)
    ∷ Ruled (Cut 47 79 (call2 "EQUAL" (call2 "OR" (call2 "LESSP" (variable "A") (variable "B")) (call1 "NOT" (call2 "LESSP" (call2 "PLUS" (variable "A") (call2 "TIMES" (call1 "SUB1" (variable "K")) (variable "A"))) (call2 "PLUS" (variable "B") (call2 "TIMES" (call1 "SUB1" (variable "K")) (variable "B")))))) (call3 "IF" (call2 "LESSP" (variable "A") (variable "B")) (call0 "TRUE") (call3 "IF" (call1 "NOT" (call2 "LESSP" (call2 "PLUS" (variable "A") (call2 "TIMES" (call1 "SUB1" (variable "K")) (variable "A"))) (call2 "PLUS" (variable "B") (call2 "TIMES" (call1 "SUB1" (variable "K")) (variable "B"))))) (call0 "TRUE") (call0 "FALSE")))))
    ∷ Ruled (Replace 80 2 (2 ∷ 1 ∷ 2 ∷ []) (call2 "TIMES" (variable "K") (variable "B")) Backwards)
    ∷ Ruled (Cut 46 81 (call2 "EQUAL" (call2 "TIMES" (variable "K") (variable "B")) (call2 "PLUS" (variable "B") (call2 "TIMES" (call1 "SUB1" (variable "K")) (variable "B")))))
    ∷ Ruled (Replace 82 3 (2 ∷ 1 ∷ 1 ∷ []) (call2 "TIMES" (variable "K") (variable "A")) Backwards)
    ∷ Ruled (Cut 45 83 (call2 "EQUAL" (call2 "TIMES" (variable "K") (variable "A")) (call2 "PLUS" (variable "A") (call2 "TIMES" (call1 "SUB1" (variable "K")) (variable "A")))))
    ∷ Ruled (Replace 84 2 (1 ∷ []) (call2 "OR" (call2 "LESSP" (variable "A") (variable "B")) (call1 "NOT" (call2 "LESSP" (call2 "TIMES" (call1 "SUB1" (variable "K")) (variable "A")) (call2 "TIMES" (call1 "SUB1" (variable "K")) (variable "B"))))) Backwards)
    ∷ Ruled (Cut 44 85 (call2 "EQUAL" (call2 "OR" (call2 "LESSP" (variable "A") (variable "B")) (call1 "NOT" (call2 "LESSP" (call2 "TIMES" (call1 "SUB1" (variable "K")) (variable "A")) (call2 "TIMES" (call1 "SUB1" (variable "K")) (variable "B"))))) (call3 "IF" (call2 "LESSP" (variable "A") (variable "B")) (call0 "TRUE") (call3 "IF" (call1 "NOT" (call2 "LESSP" (call2 "TIMES" (call1 "SUB1" (variable "K")) (variable "A")) (call2 "TIMES" (call1 "SUB1" (variable "K")) (variable "B")))) (call0 "TRUE") (call0 "FALSE")))))
    ∷ Ruled (Taut ((call1 "NOT" (call1 "ZEROP" (variable "K"))) ∷ (call1 "NOT" (call1 "NOT" (call1 "ZEROP" (variable "K")))) ∷ []))
    ∷ Ruled (Cut 86 87 (call1 "ZEROP" (variable "K")))
    ∷ Ruled (Instance 3 ((codes "X", (variable "K")) ∷ []))
    ∷ Ruled (Instance 4 ((codes "X", (variable "K")) ∷ []))
    ∷ Ruled (Induct (call2 "OR" (call2 "LESSP" (variable "A") (variable "B")) (call1 "NOT" (call2 "LESSP" (call2 "TIMES" (variable "K") (variable "A")) (call2 "TIMES" (variable "K") (variable "B"))))) (call1 "COUNT" (variable "K")) 89 43 (record { test = (call1 "NOT" (call1 "ZEROP" (variable "K"))); step = 88; hypotheses = (record { line = 90; pairs = ((codes "K", (call1 "SUB1" (variable "K"))) ∷ []) } ∷ []) } ∷ [])) ∷ []

pub multiples_not_less_as_term : Derivable [] (clause multiples_not_less_as_term_clause)
unfolding symbols_of number_of
multiples_not_less_as_term = everywhere (if_of_truth_clause ∷ truth_is_true_clause ∷ size_is_ordinal_clause ∷ size_falls_clause ∷ nothing_less_than_zero_clause ∷ product_at_zero_clause ∷ product_at_positive_clause ∷ sums_not_less_clause ∷ []) multiples_not_less_as_term_log multiples_not_less_as_term_clause refl (if_of_truth, (truth_is_true, (size_is_ordinal, (size_falls, (nothing_less_than_zero, (product_at_zero, (product_at_positive, (sums_not_less, tt)))))))) refl

pub multiples_not_less_as_term_at : (h : History) (a b k : Term) → IsTerm (symbols_of h) a → IsTerm (symbols_of h) b → IsTerm (symbols_of h) k → Derivable h (clause ((call2 "OR" (call2 "LESSP" a b) (call1 "NOT" (call2 "LESSP" (call2 "TIMES" k a) (call2 "TIMES" k b)))) ∷ []))
multiples_not_less_as_term_at h a b k oa ob ok =
    by_law h [] (call2 "OR" (call2 "LESSP" (variable "A") (variable "B")) (call1 "NOT" (call2 "LESSP" (call2 "TIMES" (variable "K") (variable "A")) (call2 "TIMES" (variable "K") (variable "B"))))) ((codes "A", a) ∷ (codes "B", b) ∷ (codes "K", k) ∷ []) (grown multiples_not_less_as_term_clause multiples_not_less_as_term h) tt ((or_symbol h, ((lessp_symbol h, oa), ob)), (not_symbol h, ((lessp_symbol h, ((times_symbol h, ok), oa)), ((times_symbol h, ok), ob))))

-- (LESSP A B), (NOT (LESSP (TIMES K A) (TIMES K B)))
abbrev multiples_not_less_log : List LogLine
multiples_not_less_log =
    Ruled (AxiomRow (codes "IF") 1 0)
    ∷ Ruled (AxiomRow (codes "FALSE") 1 0)
    ∷ Ruled (AxiomRow (codes "OR") 1 0)
    ∷ Ruled (Instance 2 ((codes "X", (call2 "LESSP" (variable "A") (variable "B"))) ∷ (codes "Y", (call0 "TRUE")) ∷ (codes "Z", (call0 "FALSE")) ∷ []))
    ∷ Ruled (Replace 3 1 (1 ∷ []) (call3 "IF" (call2 "LESSP" (variable "A") (variable "B")) (call0 "TRUE") (call0 "FALSE")) Backwards)
    ∷ Ruled (Cut 5 6 (call2 "EQUAL" (call3 "IF" (call2 "LESSP" (variable "A") (variable "B")) (call0 "TRUE") (call0 "FALSE")) (call0 "FALSE")))
    ∷ Ruled (Instance 4 ((codes "P", (call2 "LESSP" (variable "A") (variable "B"))) ∷ (codes "Q", (call1 "NOT" (call2 "LESSP" (call2 "TIMES" (variable "K") (variable "A")) (call2 "TIMES" (variable "K") (variable "B"))))) ∷ []))
    ∷ Ruled (Instance 2 ((codes "X", (call1 "NOT" (call2 "LESSP" (call2 "TIMES" (variable "K") (variable "A")) (call2 "TIMES" (variable "K") (variable "B"))))) ∷ (codes "Y", (call0 "TRUE")) ∷ (codes "Z", (call0 "FALSE")) ∷ []))
    ∷ Ruled (Replace 7 2 (1 ∷ 3 ∷ []) (call3 "IF" (call1 "NOT" (call2 "LESSP" (call2 "TIMES" (variable "K") (variable "A")) (call2 "TIMES" (variable "K") (variable "B")))) (call0 "TRUE") (call0 "FALSE")) Backwards)
    ∷ Ruled (Cut 9 10 (call2 "EQUAL" (call3 "IF" (call1 "NOT" (call2 "LESSP" (call2 "TIMES" (variable "K") (variable "A")) (call2 "TIMES" (variable "K") (variable "B")))) (call0 "TRUE") (call0 "FALSE")) (call0 "FALSE")))
    ∷ Ruled (Replace 11 3 (1 ∷ []) (call2 "OR" (call2 "LESSP" (variable "A") (variable "B")) (call1 "NOT" (call2 "LESSP" (call2 "TIMES" (variable "K") (variable "A")) (call2 "TIMES" (variable "K") (variable "B"))))) Backwards)
    ∷ Ruled (Cut 8 12 (call2 "EQUAL" (call2 "OR" (call2 "LESSP" (variable "A") (variable "B")) (call1 "NOT" (call2 "LESSP" (call2 "TIMES" (variable "K") (variable "A")) (call2 "TIMES" (variable "K") (variable "B"))))) (call3 "IF" (call2 "LESSP" (variable "A") (variable "B")) (call0 "TRUE") (call3 "IF" (call1 "NOT" (call2 "LESSP" (call2 "TIMES" (variable "K") (variable "A")) (call2 "TIMES" (variable "K") (variable "B")))) (call0 "TRUE") (call0 "FALSE")))))
    ∷ Ruled (Cut 1 13 (call2 "OR" (call2 "LESSP" (variable "A") (variable "B")) (call1 "NOT" (call2 "LESSP" (call2 "TIMES" (variable "K") (variable "A")) (call2 "TIMES" (variable "K") (variable "B"))))))
    ∷ Ruled (Taut ((call1 "NOT" (call1 "NOT" (call2 "LESSP" (call2 "TIMES" (variable "K") (variable "A")) (call2 "TIMES" (variable "K") (variable "B"))))) ∷ (call1 "NOT" (call2 "LESSP" (call2 "TIMES" (variable "K") (variable "A")) (call2 "TIMES" (variable "K") (variable "B")))) ∷ []))
    ∷ Ruled (Cut 14 15 (call1 "NOT" (call2 "LESSP" (call2 "TIMES" (variable "K") (variable "A")) (call2 "TIMES" (variable "K") (variable "B"))))) ∷ []

pub multiples_not_less : Derivable [] (clause multiples_not_less_clause)
unfolding symbols_of number_of
multiples_not_less = everywhere (multiples_not_less_as_term_clause ∷ []) multiples_not_less_log multiples_not_less_clause refl (multiples_not_less_as_term, tt) refl

pub multiples_not_less_clause_at : (h : History) (a b k : Term) → IsTerm (symbols_of h) a → IsTerm (symbols_of h) b → IsTerm (symbols_of h) k → Derivable h (clause ((call2 "LESSP" a b) ∷ (call1 "NOT" (call2 "LESSP" (call2 "TIMES" k a) (call2 "TIMES" k b))) ∷ []))
multiples_not_less_clause_at h a b k oa ob ok =
    instance_law h ((codes "A", a) ∷ (codes "B", b) ∷ (codes "K", k) ∷ []) multiples_not_less_clause (grown multiples_not_less_clause multiples_not_less h) (((lessp_symbol h, oa), ob), ((not_symbol h, ((lessp_symbol h, ((times_symbol h, ok), oa)), ((times_symbol h, ok), ob))), tt))

-- (NOT (LESSP 0 0))
abbrev nothing_less_than_itself_log : List LogLine
nothing_less_than_itself_log =
    Ruled (Instance 1 ((codes "X", (call0 "ZERO")) ∷ [])) ∷ []

pub nothing_less_than_itself : Derivable [] (clause nothing_less_than_itself_clause)
unfolding symbols_of number_of
nothing_less_than_itself = everywhere (less_is_irreflexive_clause ∷ []) nothing_less_than_itself_log nothing_less_than_itself_clause refl (less_is_irreflexive, tt) refl

pub nothing_less_than_itself_at : (h : History) → Derivable h (clause nothing_less_than_itself_clause)
nothing_less_than_itself_at h = grown nothing_less_than_itself_clause nothing_less_than_itself h

-- (LESSP A B), (NOT (LESSP (PLUS A 0) (PLUS 0 B)))
abbrev bound_of_less_log : List LogLine
bound_of_less_log =
    Ruled (Instance 2 ((codes "X", (call0 "ZERO")) ∷ []))
    ∷ Ruled (Cut 1 5 (call1 "ZEROP" (call0 "ZERO")))
    ∷ Ruled (Instance 6 ((codes "Y", (variable "B")) ∷ []))
    ∷ Ruled (Taut ((call2 "LESSP" (variable "A") (variable "B")) ∷ (call1 "NOT" (call2 "LESSP" (variable "A") (variable "B"))) ∷ []))
    ∷ Ruled (Reflexive (call2 "LESSP" (call2 "PLUS" (variable "A") (call0 "ZERO")) (call2 "PLUS" (call0 "ZERO") (variable "B"))))
    ∷ Ruled (Instance 3 ((codes "X", (variable "A")) ∷ []))
    ∷ Ruled (Replace 9 1 (2 ∷ 1 ∷ []) (call1 "FIX" (variable "A")) Forwards)
    ∷ Ruled (Cut 10 11 (call2 "EQUAL" (call2 "PLUS" (variable "A") (call0 "ZERO")) (call1 "FIX" (variable "A"))))
    ∷ Ruled (Replace 12 1 (2 ∷ 2 ∷ []) (call1 "FIX" (variable "B")) Forwards)
    ∷ Ruled (Cut 7 13 (call2 "EQUAL" (call2 "PLUS" (call0 "ZERO") (variable "B")) (call1 "FIX" (variable "B"))))
    ∷ Ruled (Instance 4 ((codes "X", (variable "A")) ∷ (codes "Y", (variable "B")) ∷ []))
    ∷ Ruled (Replace 14 1 (2 ∷ []) (call2 "LESSP" (variable "A") (variable "B")) Forwards)
    ∷ Ruled (Cut 15 16 (call2 "EQUAL" (call2 "LESSP" (call1 "FIX" (variable "A")) (call1 "FIX" (variable "B"))) (call2 "LESSP" (variable "A") (variable "B"))))
    ∷ Ruled (Replace 9 1 (1 ∷ []) (call2 "LESSP" (variable "A") (variable "B")) Forwards)
    ∷ Ruled (Cut 17 18 (call2 "EQUAL" (call2 "LESSP" (call2 "PLUS" (variable "A") (call0 "ZERO")) (call2 "PLUS" (call0 "ZERO") (variable "B"))) (call2 "LESSP" (variable "A") (variable "B"))))
    ∷ Ruled (Replace 8 2 (1 ∷ []) (call2 "LESSP" (call2 "PLUS" (variable "A") (call0 "ZERO")) (call2 "PLUS" (call0 "ZERO") (variable "B"))) Forwards)
    ∷ Ruled (Cut 19 20 (call2 "EQUAL" (call2 "LESSP" (variable "A") (variable "B")) (call2 "LESSP" (call2 "PLUS" (variable "A") (call0 "ZERO")) (call2 "PLUS" (call0 "ZERO") (variable "B"))))) ∷ []

pub bound_of_less : Derivable [] (clause bound_of_less_clause)
unfolding symbols_of number_of
bound_of_less = everywhere (zero_is_zero_clause ∷ sum_at_zero_clause ∷ sum_with_zero_clause ∷ less_of_fixes_clause ∷ []) bound_of_less_log bound_of_less_clause refl (zero_is_zero, (sum_at_zero, (sum_with_zero, (less_of_fixes, tt)))) refl

pub bound_of_less_clause_at : (h : History) (a b : Term) → IsTerm (symbols_of h) a → IsTerm (symbols_of h) b → Derivable h (clause ((call2 "LESSP" a b) ∷ (call1 "NOT" (call2 "LESSP" (call2 "PLUS" a (call0 "ZERO")) (call2 "PLUS" (call0 "ZERO") b))) ∷ []))
bound_of_less_clause_at h a b oa ob =
    instance_law h ((codes "A", a) ∷ (codes "B", b) ∷ []) bound_of_less_clause (grown bound_of_less_clause bound_of_less h) (((lessp_symbol h, oa), ob), ((not_symbol h, ((lessp_symbol h, ((plus_symbol h, oa), (zero_symbol h))), ((plus_symbol h, (zero_symbol h)), ob))), tt))

-- (NOT (EQUAL A B)), (NOT (LESSP (PLUS A 0) (PLUS 0 B)))
abbrev bound_of_equation_log : List LogLine
bound_of_equation_log =
    Ruled (Instance 2 ((codes "X", (call0 "ZERO")) ∷ []))
    ∷ Ruled (Cut 1 6 (call1 "ZEROP" (call0 "ZERO")))
    ∷ Ruled (Instance 7 ((codes "Y", (variable "B")) ∷ []))
    ∷ Ruled (Reflexive (call2 "LESSP" (call2 "PLUS" (variable "A") (call0 "ZERO")) (call2 "PLUS" (call0 "ZERO") (variable "B"))))
    ∷ Ruled (Instance 3 ((codes "X", (variable "A")) ∷ []))
    ∷ Ruled (Replace 9 1 (2 ∷ 1 ∷ []) (call1 "FIX" (variable "A")) Forwards)
    ∷ Ruled (Cut 10 11 (call2 "EQUAL" (call2 "PLUS" (variable "A") (call0 "ZERO")) (call1 "FIX" (variable "A"))))
    ∷ Ruled (Replace 12 1 (2 ∷ 2 ∷ []) (call1 "FIX" (variable "B")) Forwards)
    ∷ Ruled (Cut 8 13 (call2 "EQUAL" (call2 "PLUS" (call0 "ZERO") (variable "B")) (call1 "FIX" (variable "B"))))
    ∷ Ruled (Instance 5 ((codes "X", (variable "A")) ∷ (codes "Y", (variable "B")) ∷ []))
    ∷ Ruled (Replace 14 1 (2 ∷ []) (call2 "LESSP" (variable "A") (variable "B")) Forwards)
    ∷ Ruled (Cut 15 16 (call2 "EQUAL" (call2 "LESSP" (call1 "FIX" (variable "A")) (call1 "FIX" (variable "B"))) (call2 "LESSP" (variable "A") (variable "B"))))
    ∷ Ruled (Replace 9 1 (1 ∷ []) (call2 "LESSP" (variable "A") (variable "B")) Forwards)
    ∷ Ruled (Cut 17 18 (call2 "EQUAL" (call2 "LESSP" (call2 "PLUS" (variable "A") (call0 "ZERO")) (call2 "PLUS" (call0 "ZERO") (variable "B"))) (call2 "LESSP" (variable "A") (variable "B"))))
    ∷ Ruled (Instance 4 ((codes "X", (variable "A")) ∷ []))
    ∷ Ruled (Replace 20 1 (1 ∷ 2 ∷ []) (variable "B") Forwards)
    ∷ Ruled (Replace 21 1 (1 ∷ []) (call2 "LESSP" (call2 "PLUS" (variable "A") (call0 "ZERO")) (call2 "PLUS" (call0 "ZERO") (variable "B"))) Forwards)
    ∷ Ruled (Cut 19 22 (call2 "EQUAL" (call2 "LESSP" (variable "A") (variable "B")) (call2 "LESSP" (call2 "PLUS" (variable "A") (call0 "ZERO")) (call2 "PLUS" (call0 "ZERO") (variable "B")))))
    ∷ Ruled (Taut ((call1 "NOT" (call1 "NOT" (call2 "LESSP" (call2 "PLUS" (variable "A") (call0 "ZERO")) (call2 "PLUS" (call0 "ZERO") (variable "B"))))) ∷ (call1 "NOT" (call2 "LESSP" (call2 "PLUS" (variable "A") (call0 "ZERO")) (call2 "PLUS" (call0 "ZERO") (variable "B")))) ∷ []))
    ∷ Ruled (Cut 23 24 (call1 "NOT" (call2 "LESSP" (call2 "PLUS" (variable "A") (call0 "ZERO")) (call2 "PLUS" (call0 "ZERO") (variable "B"))))) ∷ []

pub bound_of_equation : Derivable [] (clause bound_of_equation_clause)
unfolding symbols_of number_of
bound_of_equation = everywhere (zero_is_zero_clause ∷ sum_at_zero_clause ∷ sum_with_zero_clause ∷ less_is_irreflexive_clause ∷ less_of_fixes_clause ∷ []) bound_of_equation_log bound_of_equation_clause refl (zero_is_zero, (sum_at_zero, (sum_with_zero, (less_is_irreflexive, (less_of_fixes, tt))))) refl

pub bound_of_equation_clause_at : (h : History) (a b : Term) → IsTerm (symbols_of h) a → IsTerm (symbols_of h) b → Derivable h (clause ((call1 "NOT" (call2 "EQUAL" a b)) ∷ (call1 "NOT" (call2 "LESSP" (call2 "PLUS" a (call0 "ZERO")) (call2 "PLUS" (call0 "ZERO") b))) ∷ []))
bound_of_equation_clause_at h a b oa ob =
    instance_law h ((codes "A", a) ∷ (codes "B", b) ∷ []) bound_of_equation_clause (grown bound_of_equation_clause bound_of_equation h) ((not_symbol h, ((equal_symbol h, oa), ob)), ((not_symbol h, ((lessp_symbol h, ((plus_symbol h, oa), (zero_symbol h))), ((plus_symbol h, (zero_symbol h)), ob))), tt))

-- (NOT (EQUAL A B)), (NOT (LESSP (PLUS B 0) (PLUS 0 A)))
abbrev bound_of_equation_turned_log : List LogLine
bound_of_equation_turned_log =
    Ruled (Instance 2 ((codes "X", (call0 "ZERO")) ∷ []))
    ∷ Ruled (Cut 1 6 (call1 "ZEROP" (call0 "ZERO")))
    ∷ Ruled (Instance 4 ((codes "X", (variable "A")) ∷ []))
    ∷ Ruled (Replace 8 1 (1 ∷ 1 ∷ []) (variable "B") Forwards)
    ∷ Ruled (Reflexive (call2 "LESSP" (call2 "PLUS" (variable "B") (call0 "ZERO")) (call2 "PLUS" (call0 "ZERO") (variable "A"))))
    ∷ Ruled (Instance 3 ((codes "X", (variable "B")) ∷ []))
    ∷ Ruled (Replace 10 1 (2 ∷ 1 ∷ []) (call1 "FIX" (variable "B")) Forwards)
    ∷ Ruled (Cut 11 12 (call2 "EQUAL" (call2 "PLUS" (variable "B") (call0 "ZERO")) (call1 "FIX" (variable "B"))))
    ∷ Ruled (Instance 7 ((codes "Y", (variable "A")) ∷ []))
    ∷ Ruled (Replace 13 1 (2 ∷ 2 ∷ []) (call1 "FIX" (variable "A")) Forwards)
    ∷ Ruled (Cut 14 15 (call2 "EQUAL" (call2 "PLUS" (call0 "ZERO") (variable "A")) (call1 "FIX" (variable "A"))))
    ∷ Ruled (Instance 5 ((codes "X", (variable "B")) ∷ (codes "Y", (variable "A")) ∷ []))
    ∷ Ruled (Replace 16 1 (2 ∷ []) (call2 "LESSP" (variable "B") (variable "A")) Forwards)
    ∷ Ruled (Cut 17 18 (call2 "EQUAL" (call2 "LESSP" (call1 "FIX" (variable "B")) (call1 "FIX" (variable "A"))) (call2 "LESSP" (variable "B") (variable "A"))))
    ∷ Ruled (Replace 10 1 (1 ∷ []) (call2 "LESSP" (variable "B") (variable "A")) Forwards)
    ∷ Ruled (Cut 19 20 (call2 "EQUAL" (call2 "LESSP" (call2 "PLUS" (variable "B") (call0 "ZERO")) (call2 "PLUS" (call0 "ZERO") (variable "A"))) (call2 "LESSP" (variable "B") (variable "A"))))
    ∷ Ruled (Replace 9 1 (1 ∷ []) (call2 "LESSP" (call2 "PLUS" (variable "B") (call0 "ZERO")) (call2 "PLUS" (call0 "ZERO") (variable "A"))) Forwards)
    ∷ Ruled (Cut 21 22 (call2 "EQUAL" (call2 "LESSP" (variable "B") (variable "A")) (call2 "LESSP" (call2 "PLUS" (variable "B") (call0 "ZERO")) (call2 "PLUS" (call0 "ZERO") (variable "A")))))
    ∷ Ruled (Taut ((call1 "NOT" (call1 "NOT" (call2 "LESSP" (call2 "PLUS" (variable "B") (call0 "ZERO")) (call2 "PLUS" (call0 "ZERO") (variable "A"))))) ∷ (call1 "NOT" (call2 "LESSP" (call2 "PLUS" (variable "B") (call0 "ZERO")) (call2 "PLUS" (call0 "ZERO") (variable "A")))) ∷ []))
    ∷ Ruled (Cut 23 24 (call1 "NOT" (call2 "LESSP" (call2 "PLUS" (variable "B") (call0 "ZERO")) (call2 "PLUS" (call0 "ZERO") (variable "A"))))) ∷ []

pub bound_of_equation_turned : Derivable [] (clause bound_of_equation_turned_clause)
unfolding symbols_of number_of
bound_of_equation_turned = everywhere (zero_is_zero_clause ∷ sum_at_zero_clause ∷ sum_with_zero_clause ∷ less_is_irreflexive_clause ∷ less_of_fixes_clause ∷ []) bound_of_equation_turned_log bound_of_equation_turned_clause refl (zero_is_zero, (sum_at_zero, (sum_with_zero, (less_is_irreflexive, (less_of_fixes, tt))))) refl

pub bound_of_equation_turned_clause_at : (h : History) (a b : Term) → IsTerm (symbols_of h) a → IsTerm (symbols_of h) b → Derivable h (clause ((call1 "NOT" (call2 "EQUAL" a b)) ∷ (call1 "NOT" (call2 "LESSP" (call2 "PLUS" b (call0 "ZERO")) (call2 "PLUS" (call0 "ZERO") a))) ∷ []))
bound_of_equation_turned_clause_at h a b oa ob =
    instance_law h ((codes "A", a) ∷ (codes "B", b) ∷ []) bound_of_equation_turned_clause (grown bound_of_equation_turned_clause bound_of_equation_turned h) ((not_symbol h, ((equal_symbol h, oa), ob)), ((not_symbol h, ((lessp_symbol h, ((plus_symbol h, ob), (zero_symbol h))), ((plus_symbol h, (zero_symbol h)), oa))), tt))

pub laws_of_bounds_hold : AreDerivable laws_of_bounds
laws_of_bounds_hold h = (grown sums_not_less_clause sums_not_less h, (grown multiples_not_less_as_term_clause multiples_not_less_as_term h, (grown multiples_not_less_clause multiples_not_less h, (grown nothing_less_than_itself_clause nothing_less_than_itself h, (grown bound_of_less_clause bound_of_less h, (grown bound_of_equation_clause bound_of_equation h, (grown bound_of_equation_turned_clause bound_of_equation_turned h, tt)))))))
