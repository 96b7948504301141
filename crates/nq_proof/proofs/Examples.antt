-- Examples of rule lines, values and logs, computed.
use Rattle.std.proofs.Common.{◌≡◌, ℕ, List, [], ◌∷◌, refl}
use Rattle.std.specs.Prelude.{Option, codes, Some, None}
use Rattle.nq_logic.specs.Terms.{Term}
use Rattle.nq_logic.specs.Histories.{Lemma}
use Rattle.nq_logic.specs.Words.{variable, call0, call1, call2, call3, numeral}
use Rattle.nq_proof.specs.Values.{value_of}
use Rattle.nq_logic.specs.Numerals.{number_of}
use Rattle.nq_logic.specs.Values.{is_tree_value}
use Rattle.nq_logic.specs.Ground.{symbols_of}
use Rattle.nq_proof.specs.Rules.{Rule, Taut, AxiomRow, EventTerm, Weaken, Cut, Instance, Replace, Join, SplitFirst, SplitSecond, NotNot, Value, Induct, Forwards, Backwards, Linear, conclusion}
use Rattle.nq_proof.specs.Logs.{LogLine, Ruled, proved_by, clause_of}

abbrev triv : List LogLine
triv =
    let p = variable "P" in
    let q = variable "Q" in
    let t = call0 "TRUE" in
    let f = call0 "FALSE" in
    let inner = call3 "IF" p t f in
    Ruled (AxiomRow (codes "TRUE") 1 0)
    ∷ Ruled (Taut (p ∷ call1 "NOT" p ∷ []))
    ∷ Ruled (Join 1 2 p t f)
    ∷ Ruled (Join 3 1 p inner t)
    ∷ Ruled (AxiomRow (codes "IMPLIES") 1 0)
    ∷ Ruled (Instance 5 ((codes "Q", p) ∷ []))
    ∷ Ruled (Replace 4 1 [] (call2 "IMPLIES" p p) Backwards)
    ∷ Ruled (Cut 6 7 (call2 "EQUAL" (call2 "IMPLIES" p p) (call3 "IF" p inner t)))
    ∷ []

triv_ends : proved_by [] triv ≡ Some (call2 "IMPLIES" (variable "P") (variable "P") ∷ [])
unfolding symbols_of number_of
triv_ends = refl

-- rows of the table of values
five : value_of (call2 "PLUS" (numeral 2) (numeral 3)) ≡ Some (numeral 5)
unfolding numeral number_of is_tree_value
five = refl

stops : value_of (call2 "DIFFERENCE" (numeral 2) (numeral 3)) ≡ Some (numeral 0)
unfolding numeral number_of is_tree_value
stops = refl

remainder_by_zero : value_of (call2 "REMAINDER" (numeral 7) (call0 "TRUE")) ≡ Some (numeral 7)
unfolding numeral number_of is_tree_value
remainder_by_zero = refl

second : value_of (call3 "IF" (call0 "FALSE") (numeral 1) (call2 "CONS" (numeral 2) (call0 "TRUE"))) ≡ Some (call2 "CONS" (numeral 2) (call0 "TRUE"))
unfolding numeral number_of is_tree_value
second = refl

of_no_number : value_of (call1 "ADD1" (call1 "MINUS" (numeral 4))) ≡ Some (numeral 1)
unfolding numeral number_of is_tree_value
of_no_number = refl

-- no row, and no value
no_row : value_of (call1 "ADD1" (numeral 4)) ≡ None
unfolding numeral number_of is_tree_value
no_row = refl

no_value : value_of (call2 "PLUS" (variable "X") (numeral 4)) ≡ None
unfolding numeral number_of is_tree_value
no_value = refl

-- (LESSP X Y), (LESSP Y (ADD1 X)): one of the two holds, by the sum of their expressions
linear : conclusion [] (λ n. None) (Linear (record { factor = 1; literal = call2 "LESSP" (variable "X") (variable "Y"); side = Forwards } ∷ record { factor = 1; literal = call2 "LESSP" (variable "Y") (call1 "ADD1" (variable "X")); side = Forwards } ∷ []))
    ≡ Some (call2 "LESSP" (variable "X") (variable "Y") ∷ call2 "LESSP" (variable "Y") (call1 "ADD1" (variable "X")) ∷ [])
unfolding number_of
linear = refl

not_linear : conclusion [] (λ n. None) (Linear (record { factor = 2; literal = call2 "LESSP" (variable "X") (variable "Y"); side = Forwards } ∷ record { factor = 1; literal = call2 "LESSP" (variable "Y") (call1 "ADD1" (variable "X")); side = Forwards } ∷ []))
    ≡ None
unfolding number_of
not_linear = refl

-- rule lines that are allowed, and some that are not
-- line 1 is P, (NOT (NOT Q)); line 2 is (IF P Q R), and line 3 was dropped
abbrev some_lines : ℕ → Option (List Term)
some_lines =
    clause_of (None ∷ Some (call3 "IF" (variable "P") (variable "Q") (variable "R") ∷ []) ∷ Some (variable "P" ∷ call1 "NOT" (call1 "NOT" (variable "Q")) ∷ []) ∷ [])

weakened : conclusion [] some_lines (Weaken 1 (variable "R" ∷ variable "P" ∷ [])) ≡ Some (variable "P" ∷ call1 "NOT" (call1 "NOT" (variable "Q")) ∷ variable "R" ∷ [])
weakened = refl

not_not : conclusion [] some_lines (NotNot 1 2) ≡ Some (variable "P" ∷ variable "Q" ∷ [])
not_not = refl

no_not_not : conclusion [] some_lines (NotNot 1 1) ≡ None
no_not_not = refl

first_side : conclusion [] some_lines (SplitFirst 2 1) ≡ Some (call1 "NOT" (variable "P") ∷ variable "Q" ∷ [])
first_side = refl

second_side : conclusion [] some_lines (SplitSecond 2 1) ≡ Some (variable "P" ∷ variable "R" ∷ [])
second_side = refl

-- what is cut need not stand in the lines
cut_of_nothing : conclusion [] some_lines (Cut 2 1 (variable "R")) ≡ Some (call3 "IF" (variable "P") (variable "Q") (variable "R") ∷ variable "P" ∷ call1 "NOT" (call1 "NOT" (variable "Q")) ∷ [])
cut_of_nothing = refl

-- an instance without variables copies the line
copied : conclusion [] some_lines (Instance 2 []) ≡ Some (call3 "IF" (variable "P") (variable "Q") (variable "R") ∷ [])
copied = refl

-- all variables are replaced at once
exchanged : conclusion [] some_lines (Instance 2 ((codes "P", variable "Q") ∷ (codes "Q", variable "P") ∷ [])) ≡ Some (call3 "IF" (variable "Q") (variable "P") (variable "R") ∷ [])
exchanged = refl

replaced_twice : conclusion [] some_lines (Instance 2 ((codes "P", variable "Q") ∷ (codes "P", variable "R") ∷ [])) ≡ None
replaced_twice = refl

dropped_line : conclusion [] some_lines (Weaken 3 []) ≡ None
dropped_line = refl

line_to_come : conclusion [] some_lines (Weaken 4 []) ≡ None
line_to_come = refl

line_zero : conclusion [] some_lines (Weaken 0 []) ≡ None
line_zero = refl

no_terms : conclusion [] some_lines (Taut []) ≡ None
no_terms = refl

no_summands : conclusion [] some_lines (Linear []) ≡ None
no_summands = refl

-- the value of a numeral is not asked for
value_of_numeral : conclusion [] some_lines (Value (call1 "ADD1" (call0 "ZERO"))) ≡ None
unfolding number_of is_tree_value
value_of_numeral = refl

-- a path leads into a call, and into no numeral
into_call : conclusion [] (λ n. Some (call1 "ADD1" (variable "P") ∷ [])) (Replace 1 1 (1 ∷ []) (variable "Q") Forwards)
    ≡ Some (call1 "ADD1" (variable "Q") ∷ call1 "NOT" (call2 "EQUAL" (variable "P") (variable "Q")) ∷ [])
unfolding number_of
into_call = refl

into_numeral : conclusion [] (λ n. Some (call1 "ADD1" (call0 "ZERO") ∷ [])) (Replace 1 1 (1 ∷ []) (variable "Q") Forwards) ≡ None
unfolding number_of
into_numeral = refl

-- the first lemma of a name
lemma_term : conclusion (Lemma (codes "ONE") [] (variable "P") ∷ []) some_lines (EventTerm (codes "ONE")) ≡ Some (variable "P" ∷ [])
lemma_term = refl

no_lemma : conclusion [] some_lines (EventTerm (codes "PLUS")) ≡ None
no_lemma = refl

-- an axiom without a part, and with a part that the row does not have
no_part : conclusion [] some_lines (AxiomRow (codes "TRUE") 1 1) ≡ None
no_part = refl

-- an induction uses its lines: here the step line has a literal too many
abbrev induction_lines : Term → ℕ → Option (List Term)
induction_lines extra =
    let m = call1 "COUNT" (variable "X") in
    let q = call1 "LISTP" (variable "X") in
    clause_of (
    Some (call1 "NOT" q ∷ call2 "ORD-LESSP" (call1 "COUNT" (call1 "CDR" (variable "X"))) m ∷ [])
    ∷ Some (call1 "NOT" q ∷ call1 "NOT" (call1 "TRUEP" (call1 "CDR" (variable "X"))) ∷ extra ∷ [])
    ∷ Some (q ∷ call1 "TRUEP" (variable "X") ∷ [])
    ∷ Some (call1 "ORDINALP" m ∷ [])
    ∷ []
    )

abbrev by_rest : Rule
by_rest =
    Induct (call1 "TRUEP" (variable "X")) (call1 "COUNT" (variable "X")) 1 2 (record { test = call1 "LISTP" (variable "X"); step = 3; hypotheses = record { line = 4; pairs = (codes "X", call1 "CDR" (variable "X")) ∷ [] } ∷ [] } ∷ [])

inducted : conclusion [] (induction_lines (call1 "TRUEP" (variable "X"))) by_rest ≡ Some (call1 "TRUEP" (variable "X") ∷ [])
inducted = refl

not_inducted : conclusion [] (induction_lines (variable "Y")) by_rest ≡ None
not_inducted = refl
