-- Laws of IMPLIES, IFF and IF on truth values in the ground history, each by a log over earlier ones, and at terms of any history.
use Rattle.std.proofs.Common.{List, [], ◌∷◌, refl}
use Rattle.std.specs.Prelude.{codes}
use Rattle.nq_logic.specs.Terms.{Term, IsTerm}
use Rattle.nq_logic.specs.Words.{variable, call0, call2, call3}
use Rattle.nq_logic.specs.Histories.{History}
use Rattle.nq_logic.specs.Ground.{symbols_of}
use Rattle.nq_logic.specs.Numerals.{number_of}
use Rattle.nq_logic.specs.Formulas.{clause}
use Rattle.nq_logic.specs.Derivations.{Derivable}
use Rattle.nq_proof.specs.Rules.{AxiomRow, Cut, Instance, Reflexive, Replace, Backwards}
use Rattle.nq_proof.specs.Logs.{LogLine, Ruled}
use Rattle.nq_proof.proofs.SoundLogs.{everywhere, grown}
use Rattle.nq_proof.proofs.ByLaw.{by_law}
use Rattle.nq_laws.specs.Laws.{AreDerivable}
use Rattle.nq_logic.proofs.Symbols.{equal_symbol, false_symbol, if_symbol, iff_symbol, implies_symbol, true_symbol}
use Rattle.nq_laws.specs.Implications.{implies_from_falsity_clause, implies_of_truths_clause, implies_to_falsity_clause, iff_of_truths_clause, iff_of_falsities_clause, iff_of_first_truth_clause, iff_of_second_truth_clause, if_of_falsity_clause, laws_of_implications}
use Rattle.nq_laws.specs.Connectives.{if_of_truth_clause}
use Rattle.nq_laws.proofs.Connectives.{if_of_truth}

-- (EQUAL (IMPLIES F Y) T)
abbrev implies_from_falsity_log : List LogLine
implies_from_falsity_log =
    Ruled (AxiomRow (codes "IF") 1 0)
    ∷ Ruled (AxiomRow (codes "FALSE") 1 0)
    ∷ Ruled (Reflexive (call0 "TRUE"))
    ∷ Ruled (AxiomRow (codes "IMPLIES") 1 0)
    ∷ Ruled (Instance 4 ((codes "P", (call0 "FALSE")) ∷ (codes "Q", (variable "Y")) ∷ []))
    ∷ Ruled (Instance 1 ((codes "X", (call0 "FALSE")) ∷ (codes "Y", (call3 "IF" (variable "Y") (call0 "TRUE") (call0 "FALSE"))) ∷ (codes "Z", (call0 "TRUE")) ∷ []))
    ∷ Ruled (Cut 6 2 (call0 "FALSE"))
    ∷ Ruled (Replace 3 1 (1 ∷ []) (call3 "IF" (call0 "FALSE") (call3 "IF" (variable "Y") (call0 "TRUE") (call0 "FALSE")) (call0 "TRUE")) Backwards)
    ∷ Ruled (Cut 7 8 (call2 "EQUAL" (call3 "IF" (call0 "FALSE") (call3 "IF" (variable "Y") (call0 "TRUE") (call0 "FALSE")) (call0 "TRUE")) (call0 "TRUE")))
    ∷ Ruled (Replace 9 1 (1 ∷ []) (call2 "IMPLIES" (call0 "FALSE") (variable "Y")) Backwards)
    ∷ Ruled (Cut 5 10 (call2 "EQUAL" (call2 "IMPLIES" (call0 "FALSE") (variable "Y")) (call3 "IF" (call0 "FALSE") (call3 "IF" (variable "Y") (call0 "TRUE") (call0 "FALSE")) (call0 "TRUE")))) ∷ []

pub implies_from_falsity : Derivable [] (clause implies_from_falsity_clause)
unfolding symbols_of number_of
implies_from_falsity = everywhere [] implies_from_falsity_log implies_from_falsity_clause refl tt refl

pub implies_from_falsity_at : (h : History) (y : Term) → IsTerm (symbols_of h) y → Derivable h (clause ((call2 "EQUAL" (call2 "IMPLIES" (call0 "FALSE") y) (call0 "TRUE")) ∷ []))
implies_from_falsity_at h y oy =
    by_law h [] (call2 "EQUAL" (call2 "IMPLIES" (call0 "FALSE") (variable "Y")) (call0 "TRUE")) ((codes "Y", y) ∷ []) (grown implies_from_falsity_clause implies_from_falsity h) tt ((equal_symbol h, ((implies_symbol h, (false_symbol h)), oy)), (true_symbol h))

-- (NOT Y), (NOT X), (EQUAL (IMPLIES X Y) T)
abbrev implies_of_truths_log : List LogLine
implies_of_truths_log =
    Ruled (Reflexive (call0 "TRUE"))
    ∷ Ruled (AxiomRow (codes "IMPLIES") 1 0)
    ∷ Ruled (Instance 1 ((codes "X", (variable "Y")) ∷ (codes "Y", (call0 "TRUE")) ∷ (codes "Z", (call0 "FALSE")) ∷ []))
    ∷ Ruled (Instance 1 ((codes "Y", (call0 "TRUE")) ∷ (codes "Z", (call0 "TRUE")) ∷ []))
    ∷ Ruled (Replace 2 1 (1 ∷ []) (call3 "IF" (variable "X") (call0 "TRUE") (call0 "TRUE")) Backwards)
    ∷ Ruled (Cut 5 6 (call2 "EQUAL" (call3 "IF" (variable "X") (call0 "TRUE") (call0 "TRUE")) (call0 "TRUE")))
    ∷ Ruled (Instance 3 ((codes "P", (variable "X")) ∷ (codes "Q", (variable "Y")) ∷ []))
    ∷ Ruled (Replace 7 2 (1 ∷ 2 ∷ []) (call3 "IF" (variable "Y") (call0 "TRUE") (call0 "FALSE")) Backwards)
    ∷ Ruled (Cut 4 9 (call2 "EQUAL" (call3 "IF" (variable "Y") (call0 "TRUE") (call0 "FALSE")) (call0 "TRUE")))
    ∷ Ruled (Replace 10 3 (1 ∷ []) (call2 "IMPLIES" (variable "X") (variable "Y")) Backwards)
    ∷ Ruled (Cut 8 11 (call2 "EQUAL" (call2 "IMPLIES" (variable "X") (variable "Y")) (call3 "IF" (variable "X") (call3 "IF" (variable "Y") (call0 "TRUE") (call0 "FALSE")) (call0 "TRUE")))) ∷ []

pub implies_of_truths : Derivable [] (clause implies_of_truths_clause)
unfolding symbols_of number_of
implies_of_truths = everywhere (if_of_truth_clause ∷ []) implies_of_truths_log implies_of_truths_clause refl (if_of_truth, tt) refl

pub implies_of_truths_at : (h : History) (x y : Term) → IsTerm (symbols_of h) x → IsTerm (symbols_of h) y → Derivable h (clause (x ∷ [])) → Derivable h (clause (y ∷ [])) → Derivable h (clause ((call2 "EQUAL" (call2 "IMPLIES" x y) (call0 "TRUE")) ∷ []))
implies_of_truths_at h x y ox oy d1 d2 =
    by_law h ((variable "Y") ∷ (variable "X") ∷ []) (call2 "EQUAL" (call2 "IMPLIES" (variable "X") (variable "Y")) (call0 "TRUE")) ((codes "X", x) ∷ (codes "Y", y) ∷ []) (grown implies_of_truths_clause implies_of_truths h) (d2, (d1, tt)) ((equal_symbol h, ((implies_symbol h, ox), oy)), (true_symbol h))

-- (NOT X), (EQUAL (IMPLIES X F) F)
abbrev implies_to_falsity_log : List LogLine
implies_to_falsity_log =
    Ruled (AxiomRow (codes "IF") 1 0)
    ∷ Ruled (Reflexive (call0 "FALSE"))
    ∷ Ruled (AxiomRow (codes "FALSE") 1 0)
    ∷ Ruled (AxiomRow (codes "IMPLIES") 1 0)
    ∷ Ruled (Instance 2 ((codes "X", (call0 "FALSE")) ∷ (codes "Y", (call0 "TRUE")) ∷ (codes "Z", (call0 "FALSE")) ∷ []))
    ∷ Ruled (Cut 6 4 (call0 "FALSE"))
    ∷ Ruled (Instance 5 ((codes "P", (variable "X")) ∷ (codes "Q", (call0 "FALSE")) ∷ []))
    ∷ Ruled (Instance 1 ((codes "Y", (call0 "FALSE")) ∷ (codes "Z", (call0 "TRUE")) ∷ []))
    ∷ Ruled (Replace 3 1 (1 ∷ []) (call3 "IF" (variable "X") (call0 "FALSE") (call0 "TRUE")) Backwards)
    ∷ Ruled (Cut 9 10 (call2 "EQUAL" (call3 "IF" (variable "X") (call0 "FALSE") (call0 "TRUE")) (call0 "FALSE")))
    ∷ Ruled (Replace 11 2 (1 ∷ 2 ∷ []) (call3 "IF" (call0 "FALSE") (call0 "TRUE") (call0 "FALSE")) Backwards)
    ∷ Ruled (Cut 7 12 (call2 "EQUAL" (call3 "IF" (call0 "FALSE") (call0 "TRUE") (call0 "FALSE")) (call0 "FALSE")))
    ∷ Ruled (Replace 13 2 (1 ∷ []) (call2 "IMPLIES" (variable "X") (call0 "FALSE")) Backwards)
    ∷ Ruled (Cut 8 14 (call2 "EQUAL" (call2 "IMPLIES" (variable "X") (call0 "FALSE")) (call3 "IF" (variable "X") (call3 "IF" (call0 "FALSE") (call0 "TRUE") (call0 "FALSE")) (call0 "TRUE")))) ∷ []

pub implies_to_falsity : Derivable [] (clause implies_to_falsity_clause)
unfolding symbols_of number_of
implies_to_falsity = everywhere (if_of_truth_clause ∷ []) implies_to_falsity_log implies_to_falsity_clause refl (if_of_truth, tt) refl

pub implies_to_falsity_at : (h : History) (x : Term) → IsTerm (symbols_of h) x → Derivable h (clause (x ∷ [])) → Derivable h (clause ((call2 "EQUAL" (call2 "IMPLIES" x (call0 "FALSE")) (call0 "FALSE")) ∷ []))
implies_to_falsity_at h x ox d1 =
    by_law h ((variable "X") ∷ []) (call2 "EQUAL" (call2 "IMPLIES" (variable "X") (call0 "FALSE")) (call0 "FALSE")) ((codes "X", x) ∷ []) (grown implies_to_falsity_clause implies_to_falsity h) (d1, tt) ((equal_symbol h, ((implies_symbol h, ox), (false_symbol h))), (false_symbol h))

-- (NOT Y), (NOT X), (EQUAL (IFF X Y) T)
abbrev iff_of_truths_log : List LogLine
iff_of_truths_log =
    Ruled (Reflexive (call0 "TRUE"))
    ∷ Ruled (Instance 1 ((codes "X", (variable "Y")) ∷ (codes "Y", (call0 "TRUE")) ∷ (codes "Z", (call0 "FALSE")) ∷ []))
    ∷ Ruled (Instance 1 ((codes "Y", (call0 "TRUE")) ∷ (codes "Z", (call0 "FALSE")) ∷ []))
    ∷ Ruled (Replace 2 1 (1 ∷ []) (call3 "IF" (variable "X") (call0 "TRUE") (call0 "FALSE")) Backwards)
    ∷ Ruled (Cut 4 5 (call2 "EQUAL" (call3 "IF" (variable "X") (call0 "TRUE") (call0 "FALSE")) (call0 "TRUE")))
    ∷ Ruled (AxiomRow (codes "IFF") 1 0)
    ∷ Ruled (Instance 7 ((codes "P", (variable "X")) ∷ (codes "Q", (variable "Y")) ∷ []))
    ∷ Ruled (Instance 1 ((codes "X", (variable "Y")) ∷ (codes "Y", (call0 "FALSE")) ∷ (codes "Z", (call0 "TRUE")) ∷ []))
    ∷ Ruled (Replace 6 2 (1 ∷ 3 ∷ []) (call3 "IF" (variable "Y") (call0 "FALSE") (call0 "TRUE")) Backwards)
    ∷ Ruled (Cut 9 10 (call2 "EQUAL" (call3 "IF" (variable "Y") (call0 "FALSE") (call0 "TRUE")) (call0 "FALSE")))
    ∷ Ruled (Replace 11 3 (1 ∷ 2 ∷ []) (call3 "IF" (variable "Y") (call0 "TRUE") (call0 "FALSE")) Backwards)
    ∷ Ruled (Cut 3 12 (call2 "EQUAL" (call3 "IF" (variable "Y") (call0 "TRUE") (call0 "FALSE")) (call0 "TRUE")))
    ∷ Ruled (Replace 13 3 (1 ∷ []) (call2 "IFF" (variable "X") (variable "Y")) Backwards)
    ∷ Ruled (Cut 8 14 (call2 "EQUAL" (call2 "IFF" (variable "X") (variable "Y")) (call3 "IF" (variable "X") (call3 "IF" (variable "Y") (call0 "TRUE") (call0 "FALSE")) (call3 "IF" (variable "Y") (call0 "FALSE") (call0 "TRUE"))))) ∷ []

pub iff_of_truths : Derivable [] (clause iff_of_truths_clause)
unfolding symbols_of number_of
iff_of_truths = everywhere (if_of_truth_clause ∷ []) iff_of_truths_log iff_of_truths_clause refl (if_of_truth, tt) refl

pub iff_of_truths_at : (h : History) (x y : Term) → IsTerm (symbols_of h) x → IsTerm (symbols_of h) y → Derivable h (clause (x ∷ [])) → Derivable h (clause (y ∷ [])) → Derivable h (clause ((call2 "EQUAL" (call2 "IFF" x y) (call0 "TRUE")) ∷ []))
iff_of_truths_at h x y ox oy d1 d2 =
    by_law h ((variable "Y") ∷ (variable "X") ∷ []) (call2 "EQUAL" (call2 "IFF" (variable "X") (variable "Y")) (call0 "TRUE")) ((codes "X", x) ∷ (codes "Y", y) ∷ []) (grown iff_of_truths_clause iff_of_truths h) (d2, (d1, tt)) ((equal_symbol h, ((iff_symbol h, ox), oy)), (true_symbol h))

-- (EQUAL (IFF F F) T)
abbrev iff_of_falsities_log : List LogLine
iff_of_falsities_log =
    Ruled (AxiomRow (codes "IF") 1 0)
    ∷ Ruled (AxiomRow (codes "FALSE") 1 0)
    ∷ Ruled (Reflexive (call0 "TRUE"))
    ∷ Ruled (Instance 1 ((codes "X", (call0 "FALSE")) ∷ (codes "Y", (call0 "FALSE")) ∷ (codes "Z", (call0 "TRUE")) ∷ []))
    ∷ Ruled (Cut 4 2 (call0 "FALSE"))
    ∷ Ruled (Instance 1 ((codes "X", (call0 "FALSE")) ∷ (codes "Y", (call0 "TRUE")) ∷ (codes "Z", (call0 "FALSE")) ∷ []))
    ∷ Ruled (Cut 6 2 (call0 "FALSE"))
    ∷ Ruled (Replace 3 1 (1 ∷ []) (call3 "IF" (call0 "FALSE") (call0 "FALSE") (call0 "TRUE")) Backwards)
    ∷ Ruled (Cut 5 8 (call2 "EQUAL" (call3 "IF" (call0 "FALSE") (call0 "FALSE") (call0 "TRUE")) (call0 "TRUE")))
    ∷ Ruled (AxiomRow (codes "IFF") 1 0)
    ∷ Ruled (Instance 10 ((codes "P", (call0 "FALSE")) ∷ (codes "Q", (call0 "FALSE")) ∷ []))
    ∷ Ruled (Replace 9 1 (1 ∷ 3 ∷ []) (call3 "IF" (call0 "FALSE") (call0 "FALSE") (call0 "TRUE")) Backwards)
    ∷ Ruled (Cut 5 12 (call2 "EQUAL" (call3 "IF" (call0 "FALSE") (call0 "FALSE") (call0 "TRUE")) (call0 "TRUE")))
    ∷ Ruled (Replace 13 1 (1 ∷ 2 ∷ []) (call3 "IF" (call0 "FALSE") (call0 "TRUE") (call0 "FALSE")) Backwards)
    ∷ Ruled (Cut 7 14 (call2 "EQUAL" (call3 "IF" (call0 "FALSE") (call0 "TRUE") (call0 "FALSE")) (call0 "FALSE")))
    ∷ Ruled (Replace 15 1 (1 ∷ []) (call2 "IFF" (call0 "FALSE") (call0 "FALSE")) Backwards)
    ∷ Ruled (Cut 11 16 (call2 "EQUAL" (call2 "IFF" (call0 "FALSE") (call0 "FALSE")) (call3 "IF" (call0 "FALSE") (call3 "IF" (call0 "FALSE") (call0 "TRUE") (call0 "FALSE")) (call3 "IF" (call0 "FALSE") (call0 "FALSE") (call0 "TRUE"))))) ∷ []

pub iff_of_falsities : Derivable [] (clause iff_of_falsities_clause)
unfolding symbols_of number_of
iff_of_falsities = everywhere [] iff_of_falsities_log iff_of_falsities_clause refl tt refl

pub iff_of_falsities_at : (h : History) → Derivable h (clause iff_of_falsities_clause)
iff_of_falsities_at h = grown iff_of_falsities_clause iff_of_falsities h

-- (NOT X), (EQUAL (IFF X F) F)
abbrev iff_of_first_truth_log : List LogLine
iff_of_first_truth_log =
    Ruled (AxiomRow (codes "IF") 1 0)
    ∷ Ruled (Reflexive (call0 "FALSE"))
    ∷ Ruled (AxiomRow (codes "FALSE") 1 0)
    ∷ Ruled (Instance 2 ((codes "X", (call0 "FALSE")) ∷ (codes "Y", (call0 "FALSE")) ∷ (codes "Z", (call0 "TRUE")) ∷ []))
    ∷ Ruled (Cut 5 4 (call0 "FALSE"))
    ∷ Ruled (Instance 2 ((codes "X", (call0 "FALSE")) ∷ (codes "Y", (call0 "TRUE")) ∷ (codes "Z", (call0 "FALSE")) ∷ []))
    ∷ Ruled (Cut 7 4 (call0 "FALSE"))
    ∷ Ruled (Instance 1 ((codes "Y", (call0 "FALSE")) ∷ (codes "Z", (call0 "TRUE")) ∷ []))
    ∷ Ruled (Replace 3 1 (1 ∷ []) (call3 "IF" (variable "X") (call0 "FALSE") (call0 "TRUE")) Backwards)
    ∷ Ruled (Cut 9 10 (call2 "EQUAL" (call3 "IF" (variable "X") (call0 "FALSE") (call0 "TRUE")) (call0 "FALSE")))
    ∷ Ruled (AxiomRow (codes "IFF") 1 0)
    ∷ Ruled (Instance 12 ((codes "P", (variable "X")) ∷ (codes "Q", (call0 "FALSE")) ∷ []))
    ∷ Ruled (Replace 11 2 (1 ∷ 3 ∷ []) (call3 "IF" (call0 "FALSE") (call0 "FALSE") (call0 "TRUE")) Backwards)
    ∷ Ruled (Cut 6 14 (call2 "EQUAL" (call3 "IF" (call0 "FALSE") (call0 "FALSE") (call0 "TRUE")) (call0 "TRUE")))
    ∷ Ruled (Replace 15 2 (1 ∷ 2 ∷ []) (call3 "IF" (call0 "FALSE") (call0 "TRUE") (call0 "FALSE")) Backwards)
    ∷ Ruled (Cut 8 16 (call2 "EQUAL" (call3 "IF" (call0 "FALSE") (call0 "TRUE") (call0 "FALSE")) (call0 "FALSE")))
    ∷ Ruled (Replace 17 2 (1 ∷ []) (call2 "IFF" (variable "X") (call0 "FALSE")) Backwards)
    ∷ Ruled (Cut 13 18 (call2 "EQUAL" (call2 "IFF" (variable "X") (call0 "FALSE")) (call3 "IF" (variable "X") (call3 "IF" (call0 "FALSE") (call0 "TRUE") (call0 "FALSE")) (call3 "IF" (call0 "FALSE") (call0 "FALSE") (call0 "TRUE"))))) ∷ []

pub iff_of_first_truth : Derivable [] (clause iff_of_first_truth_clause)
unfolding symbols_of number_of
iff_of_first_truth = everywhere (if_of_truth_clause ∷ []) iff_of_first_truth_log iff_of_first_truth_clause refl (if_of_truth, tt) refl

pub iff_of_first_truth_at : (h : History) (x : Term) → IsTerm (symbols_of h) x → Derivable h (clause (x ∷ [])) → Derivable h (clause ((call2 "EQUAL" (call2 "IFF" x (call0 "FALSE")) (call0 "FALSE")) ∷ []))
iff_of_first_truth_at h x ox d1 =
    by_law h ((variable "X") ∷ []) (call2 "EQUAL" (call2 "IFF" (variable "X") (call0 "FALSE")) (call0 "FALSE")) ((codes "X", x) ∷ []) (grown iff_of_first_truth_clause iff_of_first_truth h) (d1, tt) ((equal_symbol h, ((iff_symbol h, ox), (false_symbol h))), (false_symbol h))

-- (NOT Y), (EQUAL (IFF F Y) F)
abbrev iff_of_second_truth_log : List LogLine
iff_of_second_truth_log =
    Ruled (AxiomRow (codes "IF") 1 0)
    ∷ Ruled (Reflexive (call0 "FALSE"))
    ∷ Ruled (AxiomRow (codes "FALSE") 1 0)
    ∷ Ruled (Instance 2 ((codes "X", (call0 "FALSE")) ∷ (codes "Y", (call0 "TRUE")) ∷ (codes "Z", (call0 "FALSE")) ∷ []))
    ∷ Ruled (Cut 5 4 (call0 "FALSE"))
    ∷ Ruled (Instance 1 ((codes "X", (variable "Y")) ∷ (codes "Y", (call0 "TRUE")) ∷ (codes "Z", (call0 "FALSE")) ∷ []))
    ∷ Ruled (Replace 3 1 (1 ∷ []) (call3 "IF" (call0 "FALSE") (call0 "TRUE") (call0 "FALSE")) Backwards)
    ∷ Ruled (Cut 6 8 (call2 "EQUAL" (call3 "IF" (call0 "FALSE") (call0 "TRUE") (call0 "FALSE")) (call0 "FALSE")))
    ∷ Ruled (AxiomRow (codes "IFF") 1 0)
    ∷ Ruled (Instance 1 ((codes "X", (variable "Y")) ∷ (codes "Y", (call0 "FALSE")) ∷ (codes "Z", (call0 "TRUE")) ∷ []))
    ∷ Ruled (Instance 10 ((codes "P", (call0 "FALSE")) ∷ (codes "Q", (variable "Y")) ∷ []))
    ∷ Ruled (Replace 9 1 (1 ∷ 3 ∷ []) (call3 "IF" (variable "Y") (call0 "FALSE") (call0 "TRUE")) Backwards)
    ∷ Ruled (Cut 11 13 (call2 "EQUAL" (call3 "IF" (variable "Y") (call0 "FALSE") (call0 "TRUE")) (call0 "FALSE")))
    ∷ Ruled (Replace 14 2 (1 ∷ 2 ∷ []) (call3 "IF" (variable "Y") (call0 "TRUE") (call0 "FALSE")) Backwards)
    ∷ Ruled (Cut 7 15 (call2 "EQUAL" (call3 "IF" (variable "Y") (call0 "TRUE") (call0 "FALSE")) (call0 "TRUE")))
    ∷ Ruled (Replace 16 2 (1 ∷ []) (call2 "IFF" (call0 "FALSE") (variable "Y")) Backwards)
    ∷ Ruled (Cut 12 17 (call2 "EQUAL" (call2 "IFF" (call0 "FALSE") (variable "Y")) (call3 "IF" (call0 "FALSE") (call3 "IF" (variable "Y") (call0 "TRUE") (call0 "FALSE")) (call3 "IF" (variable "Y") (call0 "FALSE") (call0 "TRUE"))))) ∷ []

pub iff_of_second_truth : Derivable [] (clause iff_of_second_truth_clause)
unfolding symbols_of number_of
iff_of_second_truth = everywhere (if_of_truth_clause ∷ []) iff_of_second_truth_log iff_of_second_truth_clause refl (if_of_truth, tt) refl

pub iff_of_second_truth_at : (h : History) (y : Term) → IsTerm (symbols_of h) y → Derivable h (clause (y ∷ [])) → Derivable h (clause ((call2 "EQUAL" (call2 "IFF" (call0 "FALSE") y) (call0 "FALSE")) ∷ []))
iff_of_second_truth_at h y oy d1 =
    by_law h ((variable "Y") ∷ []) (call2 "EQUAL" (call2 "IFF" (call0 "FALSE") (variable "Y")) (call0 "FALSE")) ((codes "Y", y) ∷ []) (grown iff_of_second_truth_clause iff_of_second_truth h) (d1, tt) ((equal_symbol h, ((iff_symbol h, (false_symbol h)), oy)), (false_symbol h))

-- (EQUAL (IF F Y Z) Z)
abbrev if_of_falsity_log : List LogLine
if_of_falsity_log =
    Ruled (AxiomRow (codes "IF") 1 0)
    ∷ Ruled (AxiomRow (codes "FALSE") 1 0)
    ∷ Ruled (Instance 1 ((codes "X", (call0 "FALSE")) ∷ []))
    ∷ Ruled (Cut 3 2 (call0 "FALSE")) ∷ []

pub if_of_falsity : Derivable [] (clause if_of_falsity_clause)
unfolding symbols_of number_of
if_of_falsity = everywhere [] if_of_falsity_log if_of_falsity_clause refl tt refl

pub if_of_falsity_at : (h : History) (y z : Term) → IsTerm (symbols_of h) y → IsTerm (symbols_of h) z → Derivable h (clause ((call2 "EQUAL" (call3 "IF" (call0 "FALSE") y z) z) ∷ []))
if_of_falsity_at h y z oy oz =
    by_law h [] (call2 "EQUAL" (call3 "IF" (call0 "FALSE") (variable "Y") (variable "Z")) (variable "Z")) ((codes "Y", y) ∷ (codes "Z", z) ∷ []) (grown if_of_falsity_clause if_of_falsity h) tt ((equal_symbol h, (((if_symbol h, (false_symbol h)), oy), oz)), oz)

pub laws_of_implications_hold : AreDerivable laws_of_implications
laws_of_implications_hold h = (grown implies_from_falsity_clause implies_from_falsity h, (grown implies_of_truths_clause implies_of_truths h, (grown implies_to_falsity_clause implies_to_falsity h, (grown iff_of_truths_clause iff_of_truths h, (grown iff_of_falsities_clause iff_of_falsities h, (grown iff_of_first_truth_clause iff_of_first_truth h, (grown iff_of_second_truth_clause iff_of_second_truth h, (grown if_of_falsity_clause if_of_falsity h, tt))))))))
