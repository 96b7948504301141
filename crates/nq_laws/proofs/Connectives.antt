-- Laws of NOT, AND and OR on truth values in the ground history, each by a log over earlier ones, and at terms of any history.
use Rattle.std.proofs.Common.{List, [], ◌∷◌, refl}
use Rattle.std.specs.Prelude.{codes}
use Rattle.nq_logic.specs.Terms.{Term, IsTerm}
use Rattle.nq_logic.specs.Words.{variable, call0, call1, call2, call3}
use Rattle.nq_logic.specs.Histories.{History}
use Rattle.nq_logic.specs.Ground.{symbols_of}
use Rattle.nq_logic.specs.Numerals.{number_of}
use Rattle.nq_logic.specs.Formulas.{clause}
use Rattle.nq_logic.specs.Derivations.{Derivable}
use Rattle.nq_proof.specs.Rules.{AxiomRow, Cut, Instance, Reflexive, Replace, Backwards}
use Rattle.nq_proof.specs.Logs.{LogLine, Ruled}
use Rattle.nq_proof.proofs.SoundLogs.{everywhere, grown}
use Rattle.nq_proof.proofs.ByLaw.{by_law}
use Rattle.nq_laws.specs.Laws.{AreDerivable}
use Rattle.nq_logic.proofs.Symbols.{and_symbol, equal_symbol, false_symbol, if_symbol, not_symbol, or_symbol, true_symbol}
use Rattle.nq_laws.specs.Connectives.{if_of_truth_clause, truth_is_true_clause, not_of_falsity_clause, not_of_truth_clause, and_of_truths_clause, and_of_first_falsity_clause, and_of_second_falsity_clause, or_of_first_truth_clause, or_of_second_truth_clause, or_of_falsities_clause, laws_of_connectives}

-- (NOT X), (EQUAL (IF X Y Z) Y)
abbrev if_of_truth_log : List LogLine
if_of_truth_log =
    Ruled (AxiomRow (codes "IF") 2 0) ∷ []

pub if_of_truth : Derivable [] (clause if_of_truth_clause)
unfolding symbols_of number_of
if_of_truth = everywhere [] if_of_truth_log if_of_truth_clause refl tt refl

pub if_of_truth_at : (h : History) (x y z : Term) → IsTerm (symbols_of h) x → IsTerm (symbols_of h) y → IsTerm (symbols_of h) z → Derivable h (clause (x ∷ [])) → Derivable h (clause ((call2 "EQUAL" (call3 "IF" x y z) y) ∷ []))
if_of_truth_at h x y z ox oy oz d1 =
    by_law h ((variable "X") ∷ []) (call2 "EQUAL" (call3 "IF" (variable "X") (variable "Y") (variable "Z")) (variable "Y")) ((codes "X", x) ∷ (codes "Y", y) ∷ (codes "Z", z) ∷ []) (grown if_of_truth_clause if_of_truth h) (d1, tt) ((equal_symbol h, (((if_symbol h, ox), oy), oz)), oy)

-- T
abbrev truth_is_true_log : List LogLine
truth_is_true_log =
    Ruled (AxiomRow (codes "TRUE") 1 0) ∷ []

pub truth_is_true : Derivable [] (clause truth_is_true_clause)
unfolding symbols_of number_of
truth_is_true = everywhere [] truth_is_true_log truth_is_true_clause refl tt refl

pub truth_is_true_at : (h : History) → Derivable h (clause truth_is_true_clause)
truth_is_true_at h = grown truth_is_true_clause truth_is_true h

-- (EQUAL (NOT F) T)
abbrev not_of_falsity_log : List LogLine
not_of_falsity_log =
    Ruled (AxiomRow (codes "IF") 1 0)
    ∷ Ruled (AxiomRow (codes "FALSE") 1 0)
    ∷ Ruled (Reflexive (call0 "TRUE"))
    ∷ Ruled (Instance 1 ((codes "X", (call0 "FALSE")) ∷ (codes "Y", (call0 "FALSE")) ∷ (codes "Z", (call0 "TRUE")) ∷ []))
    ∷ Ruled (Cut 4 2 (call0 "FALSE"))
    ∷ Ruled (AxiomRow (codes "NOT") 1 0)
    ∷ Ruled (Instance 6 ((codes "P", (call0 "FALSE")) ∷ []))
    ∷ Ruled (Replace 3 1 (1 ∷ []) (call3 "IF" (call0 "FALSE") (call0 "FALSE") (call0 "TRUE")) Backwards)
    ∷ Ruled (Cut 5 8 (call2 "EQUAL" (call3 "IF" (call0 "FALSE") (call0 "FALSE") (call0 "TRUE")) (call0 "TRUE")))
    ∷ Ruled (Replace 9 1 (1 ∷ []) (call1 "NOT" (call0 "FALSE")) Backwards)
    ∷ Ruled (Cut 7 10 (call2 "EQUAL" (call1 "NOT" (call0 "FALSE")) (call3 "IF" (call0 "FALSE") (call0 "FALSE") (call0 "TRUE")))) ∷ []

pub not_of_falsity : Derivable [] (clause not_of_falsity_clause)
unfolding symbols_of number_of
not_of_falsity = everywhere [] not_of_falsity_log not_of_falsity_clause refl tt refl

pub not_of_falsity_at : (h : History) → Derivable h (clause not_of_falsity_clause)
not_of_falsity_at h = grown not_of_falsity_clause not_of_falsity h

-- (NOT X), (EQUAL (NOT X) F)
abbrev not_of_truth_log : List LogLine
not_of_truth_log =
    Ruled (AxiomRow (codes "FALSE") 2 0)
    ∷ Ruled (Instance 1 ((codes "X", (call1 "NOT" (variable "X"))) ∷ [])) ∷ []

pub not_of_truth : Derivable [] (clause not_of_truth_clause)
unfolding symbols_of number_of
not_of_truth = everywhere [] not_of_truth_log not_of_truth_clause refl tt refl

pub not_of_truth_at : (h : History) (x : Term) → IsTerm (symbols_of h) x → Derivable h (clause (x ∷ [])) → Derivable h (clause ((call2 "EQUAL" (call1 "NOT" x) (call0 "FALSE")) ∷ []))
not_of_truth_at h x ox d1 =
    by_law h ((variable "X") ∷ []) (call2 "EQUAL" (call1 "NOT" (variable "X")) (call0 "FALSE")) ((codes "X", x) ∷ []) (grown not_of_truth_clause not_of_truth h) (d1, tt) ((equal_symbol h, (not_symbol h, ox)), (false_symbol h))

-- (NOT Y), (NOT X), (EQUAL (AND X Y) T)
abbrev and_of_truths_log : List LogLine
and_of_truths_log =
    Ruled (Reflexive (call0 "TRUE"))
    ∷ Ruled (AxiomRow (codes "AND") 1 0)
    ∷ Ruled (Instance 3 ((codes "P", (variable "X")) ∷ (codes "Q", (variable "Y")) ∷ []))
    ∷ Ruled (Instance 1 ((codes "X", (variable "Y")) ∷ (codes "Y", (call0 "TRUE")) ∷ (codes "Z", (call0 "FALSE")) ∷ []))
    ∷ Ruled (Instance 1 ((codes "Y", (call0 "TRUE")) ∷ (codes "Z", (call0 "FALSE")) ∷ []))
    ∷ Ruled (Replace 2 1 (1 ∷ []) (call3 "IF" (variable "X") (call0 "TRUE") (call0 "FALSE")) Backwards)
    ∷ Ruled (Cut 6 7 (call2 "EQUAL" (call3 "IF" (variable "X") (call0 "TRUE") (call0 "FALSE")) (call0 "TRUE")))
    ∷ Ruled (Replace 8 2 (1 ∷ 2 ∷ []) (call3 "IF" (variable "Y") (call0 "TRUE") (call0 "FALSE")) Backwards)
    ∷ Ruled (Cut 5 9 (call2 "EQUAL" (call3 "IF" (variable "Y") (call0 "TRUE") (call0 "FALSE")) (call0 "TRUE")))
    ∷ Ruled (Replace 10 3 (1 ∷ []) (call2 "AND" (variable "X") (variable "Y")) Backwards)
    ∷ Ruled (Cut 4 11 (call2 "EQUAL" (call2 "AND" (variable "X") (variable "Y")) (call3 "IF" (variable "X") (call3 "IF" (variable "Y") (call0 "TRUE") (call0 "FALSE")) (call0 "FALSE")))) ∷ []

pub and_of_truths : Derivable [] (clause and_of_truths_clause)
unfolding symbols_of number_of
and_of_truths = everywhere (if_of_truth_clause ∷ []) and_of_truths_log and_of_truths_clause refl (if_of_truth, tt) refl

pub and_of_truths_at : (h : History) (x y : Term) → IsTerm (symbols_of h) x → IsTerm (symbols_of h) y → Derivable h (clause (x ∷ [])) → Derivable h (clause (y ∷ [])) → Derivable h (clause ((call2 "EQUAL" (call2 "AND" x y) (call0 "TRUE")) ∷ []))
and_of_truths_at h x y ox oy d1 d2 =
    by_law h ((variable "Y") ∷ (variable "X") ∷ []) (call2 "EQUAL" (call2 "AND" (variable "X") (variable "Y")) (call0 "TRUE")) ((codes "X", x) ∷ (codes "Y", y) ∷ []) (grown and_of_truths_clause and_of_truths h) (d2, (d1, tt)) ((equal_symbol h, ((and_symbol h, ox), oy)), (true_symbol h))

-- (EQUAL (AND F Y) F)
abbrev and_of_first_falsity_log : List LogLine
and_of_first_falsity_log =
    Ruled (AxiomRow (codes "IF") 1 0)
    ∷ Ruled (Reflexive (call0 "FALSE"))
    ∷ Ruled (AxiomRow (codes "FALSE") 1 0)
    ∷ Ruled (AxiomRow (codes "AND") 1 0)
    ∷ Ruled (Instance 4 ((codes "P", (call0 "FALSE")) ∷ (codes "Q", (variable "Y")) ∷ []))
    ∷ Ruled (Instance 1 ((codes "X", (call0 "FALSE")) ∷ (codes "Y", (call3 "IF" (variable "Y") (call0 "TRUE") (call0 "FALSE"))) ∷ (codes "Z", (call0 "FALSE")) ∷ []))
    ∷ Ruled (Cut 6 3 (call0 "FALSE"))
    ∷ Ruled (Replace 2 1 (1 ∷ []) (call3 "IF" (call0 "FALSE") (call3 "IF" (variable "Y") (call0 "TRUE") (call0 "FALSE")) (call0 "FALSE")) Backwards)
    ∷ Ruled (Cut 7 8 (call2 "EQUAL" (call3 "IF" (call0 "FALSE") (call3 "IF" (variable "Y") (call0 "TRUE") (call0 "FALSE")) (call0 "FALSE")) (call0 "FALSE")))
    ∷ Ruled (Replace 9 1 (1 ∷ []) (call2 "AND" (call0 "FALSE") (variable "Y")) Backwards)
    ∷ Ruled (Cut 5 10 (call2 "EQUAL" (call2 "AND" (call0 "FALSE") (variable "Y")) (call3 "IF" (call0 "FALSE") (call3 "IF" (variable "Y") (call0 "TRUE") (call0 "FALSE")) (call0 "FALSE")))) ∷ []

pub and_of_first_falsity : Derivable [] (clause and_of_first_falsity_clause)
unfolding symbols_of number_of
and_of_first_falsity = everywhere [] and_of_first_falsity_log and_of_first_falsity_clause refl tt refl

pub and_of_first_falsity_at : (h : History) (y : Term) → IsTerm (symbols_of h) y → Derivable h (clause ((call2 "EQUAL" (call2 "AND" (call0 "FALSE") y) (call0 "FALSE")) ∷ []))
and_of_first_falsity_at h y oy =
    by_law h [] (call2 "EQUAL" (call2 "AND" (call0 "FALSE") (variable "Y")) (call0 "FALSE")) ((codes "Y", y) ∷ []) (grown and_of_first_falsity_clause and_of_first_falsity h) tt ((equal_symbol h, ((and_symbol h, (false_symbol h)), oy)), (false_symbol h))

-- (EQUAL (AND X F) F)
abbrev and_of_second_falsity_log : List LogLine
and_of_second_falsity_log =
    Ruled (AxiomRow (codes "IF") 1 0)
    ∷ Ruled (Reflexive (call0 "FALSE"))
    ∷ Ruled (AxiomRow (codes "FALSE") 1 0)
    ∷ Ruled (Instance 2 ((codes "X", (call0 "FALSE")) ∷ (codes "Y", (call0 "TRUE")) ∷ (codes "Z", (call0 "FALSE")) ∷ []))
    ∷ Ruled (Cut 5 4 (call0 "FALSE"))
    ∷ Ruled (AxiomRow (codes "AND") 1 0)
    ∷ Ruled (Instance 7 ((codes "P", (variable "X")) ∷ (codes "Q", (call0 "FALSE")) ∷ []))
    ∷ Ruled (Instance 1 ((codes "Y", (call0 "FALSE")) ∷ (codes "Z", (call0 "FALSE")) ∷ []))
    ∷ Ruled (Replace 3 1 (1 ∷ []) (call3 "IF" (variable "X") (call0 "FALSE") (call0 "FALSE")) Backwards)
    ∷ Ruled (Cut 9 10 (call2 "EQUAL" (call3 "IF" (variable "X") (call0 "FALSE") (call0 "FALSE")) (call0 "FALSE")))
    ∷ Ruled (Instance 2 ((codes "Y", (call0 "FALSE")) ∷ (codes "Z", (call0 "FALSE")) ∷ []))
    ∷ Ruled (Cut 12 10 (call2 "EQUAL" (call3 "IF" (variable "X") (call0 "FALSE") (call0 "FALSE")) (call0 "FALSE")))
    ∷ Ruled (Cut 13 11 (variable "X"))
    ∷ Ruled (Replace 14 1 (1 ∷ 2 ∷ []) (call3 "IF" (call0 "FALSE") (call0 "TRUE") (call0 "FALSE")) Backwards)
    ∷ Ruled (Cut 6 15 (call2 "EQUAL" (call3 "IF" (call0 "FALSE") (call0 "TRUE") (call0 "FALSE")) (call0 "FALSE")))
    ∷ Ruled (Replace 16 1 (1 ∷ []) (call2 "AND" (variable "X") (call0 "FALSE")) Backwards)
    ∷ Ruled (Cut 8 17 (call2 "EQUAL" (call2 "AND" (variable "X") (call0 "FALSE")) (call3 "IF" (variable "X") (call3 "IF" (call0 "FALSE") (call0 "TRUE") (call0 "FALSE")) (call0 "FALSE")))) ∷ []

pub and_of_second_falsity : Derivable [] (clause and_of_second_falsity_clause)
unfolding symbols_of number_of
and_of_second_falsity = everywhere (if_of_truth_clause ∷ []) and_of_second_falsity_log and_of_second_falsity_clause refl (if_of_truth, tt) refl

pub and_of_second_falsity_at : (h : History) (x : Term) → IsTerm (symbols_of h) x → Derivable h (clause ((call2 "EQUAL" (call2 "AND" x (call0 "FALSE")) (call0 "FALSE")) ∷ []))
and_of_second_falsity_at h x ox =
    by_law h [] (call2 "EQUAL" (call2 "AND" (variable "X") (call0 "FALSE")) (call0 "FALSE")) ((codes "X", x) ∷ []) (grown and_of_second_falsity_clause and_of_second_falsity h) tt ((equal_symbol h, ((and_symbol h, ox), (false_symbol h))), (false_symbol h))

-- (NOT X), (EQUAL (OR X Y) T)
abbrev or_of_first_truth_log : List LogLine
or_of_first_truth_log =
    Ruled (Reflexive (call0 "TRUE"))
    ∷ Ruled (AxiomRow (codes "OR") 1 0)
    ∷ Ruled (Instance 3 ((codes "P", (variable "X")) ∷ (codes "Q", (variable "Y")) ∷ []))
    ∷ Ruled (Instance 1 ((codes "Y", (call0 "TRUE")) ∷ (codes "Z", (call3 "IF" (variable "Y") (call0 "TRUE") (call0 "FALSE"))) ∷ []))
    ∷ Ruled (Replace 2 1 (1 ∷ []) (call3 "IF" (variable "X") (call0 "TRUE") (call3 "IF" (variable "Y") (call0 "TRUE") (call0 "FALSE"))) Backwards)
    ∷ Ruled (Cut 5 6 (call2 "EQUAL" (call3 "IF" (variable "X") (call0 "TRUE") (call3 "IF" (variable "Y") (call0 "TRUE") (call0 "FALSE"))) (call0 "TRUE")))
    ∷ Ruled (Replace 7 2 (1 ∷ []) (call2 "OR" (variable "X") (variable "Y")) Backwards)
    ∷ Ruled (Cut 4 8 (call2 "EQUAL" (call2 "OR" (variable "X") (variable "Y")) (call3 "IF" (variable "X") (call0 "TRUE") (call3 "IF" (variable "Y") (call0 "TRUE") (call0 "FALSE"))))) ∷ []

pub or_of_first_truth : Derivable [] (clause or_of_first_truth_clause)
unfolding symbols_of number_of
or_of_first_truth = everywhere (if_of_truth_clause ∷ []) or_of_first_truth_log or_of_first_truth_clause refl (if_of_truth, tt) refl

pub or_of_first_truth_at : (h : History) (x y : Term) → IsTerm (symbols_of h) x → IsTerm (symbols_of h) y → Derivable h (clause (x ∷ [])) → Derivable h (clause ((call2 "EQUAL" (call2 "OR" x y) (call0 "TRUE")) ∷ []))
or_of_first_truth_at h x y ox oy d1 =
    by_law h ((variable "X") ∷ []) (call2 "EQUAL" (call2 "OR" (variable "X") (variable "Y")) (call0 "TRUE")) ((codes "X", x) ∷ (codes "Y", y) ∷ []) (grown or_of_first_truth_clause or_of_first_truth h) (d1, tt) ((equal_symbol h, ((or_symbol h, ox), oy)), (true_symbol h))

-- (NOT Y), (EQUAL (OR X Y) T)
abbrev or_of_second_truth_log : List LogLine
or_of_second_truth_log =
    Ruled (AxiomRow (codes "IF") 1 0)
    ∷ Ruled (Reflexive (call0 "TRUE"))
    ∷ Ruled (Instance 1 ((codes "X", (variable "Y")) ∷ (codes "Y", (call0 "TRUE")) ∷ (codes "Z", (call0 "FALSE")) ∷ []))
    ∷ Ruled (AxiomRow (codes "OR") 1 0)
    ∷ Ruled (Instance 5 ((codes "P", (variable "X")) ∷ (codes "Q", (variable "Y")) ∷ []))
    ∷ Ruled (Instance 1 ((codes "Y", (call0 "TRUE")) ∷ (codes "Z", (call0 "TRUE")) ∷ []))
    ∷ Ruled (Replace 3 1 (1 ∷ []) (call3 "IF" (variable "X") (call0 "TRUE") (call0 "TRUE")) Backwards)
    ∷ Ruled (Cut 7 8 (call2 "EQUAL" (call3 "IF" (variable "X") (call0 "TRUE") (call0 "TRUE")) (call0 "TRUE")))
    ∷ Ruled (Instance 2 ((codes "Y", (call0 "TRUE")) ∷ (codes "Z", (call0 "TRUE")) ∷ []))
    ∷ Ruled (Cut 10 8 (call2 "EQUAL" (call3 "IF" (variable "X") (call0 "TRUE") (call0 "TRUE")) (call0 "TRUE")))
    ∷ Ruled (Cut 11 9 (variable "X"))
    ∷ Ruled (Replace 12 1 (1 ∷ 3 ∷ []) (call3 "IF" (variable "Y") (call0 "TRUE") (call0 "FALSE")) Backwards)
    ∷ Ruled (Cut 4 13 (call2 "EQUAL" (call3 "IF" (variable "Y") (call0 "TRUE") (call0 "FALSE")) (call0 "TRUE")))
    ∷ Ruled (Replace 14 2 (1 ∷ []) (call2 "OR" (variable "X") (variable "Y")) Backwards)
    ∷ Ruled (Cut 6 15 (call2 "EQUAL" (call2 "OR" (variable "X") (variable "Y")) (call3 "IF" (variable "X") (call0 "TRUE") (call3 "IF" (variable "Y") (call0 "TRUE") (call0 "FALSE"))))) ∷ []

pub or_of_second_truth : Derivable [] (clause or_of_second_truth_clause)
unfolding symbols_of number_of
or_of_second_truth = everywhere (if_of_truth_clause ∷ []) or_of_second_truth_log or_of_second_truth_clause refl (if_of_truth, tt) refl

pub or_of_second_truth_at : (h : History) (x y : Term) → IsTerm (symbols_of h) x → IsTerm (symbols_of h) y → Derivable h (clause (y ∷ [])) → Derivable h (clause ((call2 "EQUAL" (call2 "OR" x y) (call0 "TRUE")) ∷ []))
or_of_second_truth_at h x y ox oy d1 =
    by_law h ((variable "Y") ∷ []) (call2 "EQUAL" (call2 "OR" (variable "X") (variable "Y")) (call0 "TRUE")) ((codes "X", x) ∷ (codes "Y", y) ∷ []) (grown or_of_second_truth_clause or_of_second_truth h) (d1, tt) ((equal_symbol h, ((or_symbol h, ox), oy)), (true_symbol h))

-- (EQUAL (OR F F) F)
abbrev or_of_falsities_log : List LogLine
or_of_falsities_log =
    Ruled (AxiomRow (codes "IF") 1 0)
    ∷ Ruled (Reflexive (call0 "FALSE"))
    ∷ Ruled (AxiomRow (codes "FALSE") 1 0)
    ∷ Ruled (Instance 1 ((codes "X", (call0 "FALSE")) ∷ (codes "Y", (call0 "TRUE")) ∷ (codes "Z", (call0 "FALSE")) ∷ []))
    ∷ Ruled (Cut 4 3 (call0 "FALSE"))
    ∷ Ruled (AxiomRow (codes "OR") 1 0)
    ∷ Ruled (Instance 6 ((codes "P", (call0 "FALSE")) ∷ (codes "Q", (call0 "FALSE")) ∷ []))
    ∷ Ruled (Replace 2 1 (1 ∷ []) (call3 "IF" (call0 "FALSE") (call0 "TRUE") (call0 "FALSE")) Backwards)
    ∷ Ruled (Cut 5 8 (call2 "EQUAL" (call3 "IF" (call0 "FALSE") (call0 "TRUE") (call0 "FALSE")) (call0 "FALSE")))
    ∷ Ruled (Replace 9 1 (1 ∷ 3 ∷ []) (call3 "IF" (call0 "FALSE") (call0 "TRUE") (call0 "FALSE")) Backwards)
    ∷ Ruled (Cut 5 10 (call2 "EQUAL" (call3 "IF" (call0 "FALSE") (call0 "TRUE") (call0 "FALSE")) (call0 "FALSE")))
    ∷ Ruled (Replace 11 1 (1 ∷ []) (call2 "OR" (call0 "FALSE") (call0 "FALSE")) Backwards)
    ∷ Ruled (Cut 7 12 (call2 "EQUAL" (call2 "OR" (call0 "FALSE") (call0 "FALSE")) (call3 "IF" (call0 "FALSE") (call0 "TRUE") (call3 "IF" (call0 "FALSE") (call0 "TRUE") (call0 "FALSE"))))) ∷ []

pub or_of_falsities : Derivable [] (clause or_of_falsities_clause)
unfolding symbols_of number_of
or_of_falsities = everywhere [] or_of_falsities_log or_of_falsities_clause refl tt refl

pub or_of_falsities_at : (h : History) → Derivable h (clause or_of_falsities_clause)
or_of_falsities_at h = grown or_of_falsities_clause or_of_falsities h

pub laws_of_connectives_hold : AreDerivable laws_of_connectives
laws_of_connectives_hold h = (grown if_of_truth_clause if_of_truth h, (grown truth_is_true_clause truth_is_true h, (grown not_of_falsity_clause not_of_falsity h, (grown not_of_truth_clause not_of_truth h, (grown and_of_truths_clause and_of_truths h, (grown and_of_first_falsity_clause and_of_first_falsity h, (grown and_of_second_falsity_clause and_of_second_falsity h, (grown or_of_first_truth_clause or_of_first_truth h, (grown or_of_second_truth_clause or_of_second_truth h, (grown or_of_falsities_clause or_of_falsities h, tt))))))))))
