-- The line of a rule: its conclusion under its hypotheses.
use Rattle.std.specs.Prelude.{ℕ, List, [], ◌∷◌, ◌++◌, map, codes}
use Rattle.nq_logic.specs.Terms.{Term, substituted}
use Rattle.nq_logic.specs.RuleShapes.{rule_parts}
use Rattle.nq_logic.specs.Words.{and_term, implies_term, not_term}
use Rattle.nq_kernel.specs.declared.work.Work.{Work}
use Rattle.nq_lines.specs.Lines.{LineHasOnly}

-- line n is the law's, with two terms in the places of X and Y
abbrev pub TakesTo : Work → Work → Term → Term → ℕ → ℕ → Type 0
TakesTo old new t u law n = (these : List Term) → LineHasOnly old law these → LineHasOnly new n (map (substituted ((codes "X", t) ∷ (codes "Y", u) ∷ [])) these)

-- line n has q under p, from a line with (IMPLIES p q)
abbrev pub OpensTo : Work → Work → Term → Term → ℕ → ℕ → Type 0
OpensTo old new p q line n = (these : List Term) → LineHasOnly old line (implies_term p q ∷ these) → LineHasOnly new n (q ∷ not_term p ∷ these)

-- line n has (AND p q), from a line with p and one with q
abbrev pub PairsTo : Work → Work → Term → Term → ℕ → ℕ → ℕ → Type 0
PairsTo old new p q first second n = (these : List Term) → LineHasOnly old first (p ∷ these) → LineHasOnly old second (q ∷ these) → LineHasOnly new n (and_term p q ∷ these)

-- line n has the conclusion of the term under its hypotheses, from a line with the term
abbrev pub SupposesTo : Work → Work → Term → ℕ → ℕ → Type 0
SupposesTo old new t line n =
    (these : List Term) → LineHasOnly old line (t ∷ these) → LineHasOnly new n ((rule_parts t).conclusion ∷ (map not_term (rule_parts t).hypotheses ++ these))
