-- IFs that are joined from their branches.
use Rattle.std.specs.Prelude.{ℕ, List, [], ◌∷◌, codes}
use Rattle.nq_logic.specs.Terms.{Term, Substitution}
use Rattle.nq_logic.specs.Words.{variable, not_term, equal_term, if_term}
use Rattle.nq_bank.specs.Content.{Content, IsIdOf, term_at}
use Rattle.nq_rule.specs.declared.branching.Branches.{Branches}
use Rattle.nq_history.specs.declared.entry.Entry.{Entry}
use Rattle.nq_kernel.specs.declared.work.Work.{Work}
use Rattle.nq_kernel.specs.Growing.{LineStands}
use Rattle.nq_lines.specs.Lines.{IsTermIn, LineHasOnly}
use Rattle.nq_lines.specs.declared.joining.BranchLines.{BranchLines}

-- the IF of these parts
abbrev pub if_at : Content → Branches → Term
if_at bank parts = if_term (term_at bank parts.test) (term_at bank parts.first) (term_at bank parts.second)

-- the parts are over the history
pub record AreBranchesIn (history : List Entry) (work : Work) (parts : Branches) : Type 0 where
  pub test : IsTermIn history work parts.test
  pub first : IsTermIn history work parts.first
  pub second : IsTermIn history work parts.second

-- the lines stand
pub record BranchLinesStand (work : Work) (lines : BranchLines) : Type 0 where
  pub test : LineStands work lines.test
  pub first : LineStands work lines.first
  pub second : LineStands work lines.second

-- line n has (IF p x y), from a line with x where p is assumed, and one with y or p
abbrev pub JoinsIf : Work → Work → Term → Term → Term → ℕ → ℕ → ℕ → Type 0
JoinsIf old new p x y first second n =
    (these : List Term) → LineHasOnly old first (x ∷ not_term p ∷ these) → LineHasOnly old second (y ∷ p ∷ these) → LineHasOnly new n (if_term p x y ∷ these)

-- line n has the equation of the IFs of two tests that are equal, from the equations of the branches under the second test and its NOT
abbrev pub JoinsBranches : Work → Work → Branches → Branches → BranchLines → ℕ → Type 0
JoinsBranches old new before after lines n =
    (these : List Term) →
    LineHasOnly old lines.test (equal_term (term_at old.bank before.test) (term_at old.bank after.test) ∷ these) →
    LineHasOnly old lines.first (equal_term (term_at old.bank before.first) (term_at old.bank after.first) ∷ not_term (term_at old.bank after.test) ∷ these) →
    LineHasOnly old lines.second (equal_term (term_at old.bank before.second) (term_at old.bank after.second) ∷ not_term (not_term (term_at old.bank after.test)) ∷ these) →
    LineHasOnly new n (equal_term (if_at old.bank before) (if_at old.bank after) ∷ these)

-- what the law of joined IFs says of these terms
abbrev pub joined_literals : Term → Term → Term → Term → Term → Term → List Term
joined_literals p x y q u v =
    equal_term (if_term p x y) (if_term q u v) ∷ not_term (equal_term p q) ∷ not_term (if_term (not_term q) (equal_term y v) (equal_term x u)) ∷ []

-- line n is that law, of variables
abbrev pub IsIfLaw : Work → ℕ → Type 0
IsIfLaw work n = LineHasOnly work n (joined_literals (variable "P") (variable "X") (variable "Y") (variable "Q") (variable "U") (variable "V"))

-- the terms in the place of its variables
abbrev pub law_pairs_at : Content → Branches → Branches → Substitution
law_pairs_at bank before after =
    (codes "P", term_at bank before.test) ∷ (codes "X", term_at bank before.first) ∷ (codes "Y", term_at bank before.second)
    ∷ (codes "Q", term_at bank after.test) ∷ (codes "U", term_at bank after.first) ∷ (codes "V", term_at bank after.second) ∷ []

-- line n is the law of the parts of two IFs
abbrev pub HasJoined : Work → Work → Branches → Branches → ℕ → Type 0
HasJoined old new before after n =
    LineHasOnly new n (joined_literals (term_at old.bank before.test) (term_at old.bank before.first) (term_at old.bank before.second) (term_at old.bank after.test) (term_at old.bank after.first) (term_at old.bank after.second))

-- the parts are the NOT of the second test, and the equations of the second branches and of the first
pub record AreEquations (old new : Work) (before after parts : Branches) : Type 0 where
  pub test : IsIdOf new.bank parts.test (not_term (term_at old.bank after.test))
  pub first : IsIdOf new.bank parts.first (equal_term (term_at old.bank before.second) (term_at old.bank after.second))
  pub second : IsIdOf new.bank parts.second (equal_term (term_at old.bank before.first) (term_at old.bank after.first))
