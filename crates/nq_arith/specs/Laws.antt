-- What the rules of arithmetic give is derivable, and so what all rules give.
use Rattle.std.specs.Prelude.{◌≡◌, ℕ, true, List, [], ◌∷◌, map, Option, Some}
use Rattle.nq_logic.specs.Terms.{Term, IsTerm, Each}
use Rattle.nq_logic.specs.Words.{equal_term}
use Rattle.nq_logic.specs.Formulas.{clause}
use Rattle.nq_logic.specs.Histories.{History}
use Rattle.nq_logic.specs.Ground.{symbols_of}
use Rattle.nq_logic.specs.Derivations.{Derivable}
use Rattle.nq_proof.specs.Rules.{Rule, Summand, is_refuted, conclusion, rule_terms}
use Rattle.nq_proof.specs.Values.{value_of}
use Rattle.nq_proof.specs.Logs.{LogLine, proved_from}
use Rattle.nq_proof.specs.Closed.{IsClosed}
use Rattle.nq_proof.specs.Laws.{LemmasHold, LinesHold}

-- a call on values equals its value by the table
abbrev pub ValueHolds : Type 0
ValueHolds = (h : History) (t v : Term) → value_of t ≡ Some v → Derivable h (clause (equal_term t v ∷ []))

-- literals whose expressions have a negative sum are not all false
abbrev pub LinearHolds : Type 0
LinearHolds =
    (h : History) (summands : List Summand) → is_refuted summands ≡ true → Each (IsTerm (symbols_of h)) (map (λ s. s.literal) summands) → Derivable h (clause (map (λ s. s.literal) summands))

-- The clause of each rule is derivable where the cited lines are, in a closed history whose lemmas hold, if the rule's terms
-- are over its symbols.
abbrev pub FullSoundness : Type 0
FullSoundness =
    (h : History) (lines : ℕ → Option (List Term)) (rule : Rule) (c : List Term) → IsClosed h → LemmasHold h → LinesHold h lines →
    Each (IsTerm (symbols_of h)) (rule_terms rule) → conclusion h lines rule ≡ Some c → Derivable h (clause c)

-- what a log ends in is derivable, where the known clauses are
abbrev pub FullLogSoundness : Type 0
FullLogSoundness =
    (h : History) (known : List (List Term)) (log : List LogLine) (c : List Term) → IsClosed h → LemmasHold h → Each (λ d. Derivable h (clause d)) known → proved_from h known log ≡ Some c → Derivable h (clause c)
