-- What is counted: a line of the log, and each number that stands in it.
use Rattle.std.specs.Prelude.{ℕ, ◌+◌, ◌*◌, max, List, [], ◌∷◌, length}
use Rattle.nq_rule.specs.declared.induction.InductionStep.{InductionStep}
use Rattle.nq_rule.specs.declared.induction.CaseOfInduction.{CaseOfInduction}
use Rattle.nq_kernel.specs.declared.rule.Rule.{Rule}
use Rattle.nq_kernel.specs.declared.rule.Rule.TheVariants.{Taut, AxiomRow, EventTerm, Weaken, Cut, Instance, Reflexive, Replace, Join, SplitFirst, SplitSecond, NotNot, Value, Linear, Induct}

-- the steps of the HYP lines of a case: each has a line's number, and two for each pair
abbrev pub steps_of_hypotheses : List InductionStep → ℕ
steps_of_hypotheses [] = 0
steps_of_hypotheses (s ∷ rest) = 2 + 2 * length s.pairs.items + steps_of_hypotheses rest

-- the steps of the CASE lines, each with a test and a line's number, and of their HYP lines
abbrev pub steps_of_cases : List CaseOfInduction → ℕ
steps_of_cases [] = 0
steps_of_cases (c ∷ rest) = 3 + steps_of_hypotheses c.steps.items + steps_of_cases rest

-- how many numbers spell a path: the literal itself is spelled 0
abbrev pub path_numbers : List ℕ → ℕ
path_numbers path = max (length path) 1

-- the steps of the lines of a rule
abbrev pub steps_of : Rule → ℕ
steps_of (Taut terms) = 1 + length terms.items
steps_of (AxiomRow name row part) = 3
steps_of (EventTerm name) = 1
steps_of (Weaken line terms) = 2 + length terms.items
steps_of (Cut first second t) = 4
steps_of (Instance line pairs) = 2 + 2 * length pairs.items
steps_of (Reflexive t) = 2
steps_of (Replace line place path t side) = 4 + path_numbers path.items
steps_of (Join first second parts) = 6
steps_of (SplitFirst line place) = 4
steps_of (SplitSecond line place) = 4
steps_of (NotNot line place) = 3
steps_of (Value t) = 2
steps_of (Linear summands) = 1 + 2 * length summands.items
steps_of (Induct claim measure ordinal base cases) = 5 + steps_of_cases cases.items
