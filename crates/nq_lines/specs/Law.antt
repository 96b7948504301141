-- How the law of joined IFs is made.
use Rattle.std.specs.Prelude.{ℕ, List, [], ◌∷◌}
use Rattle.nq_logic.specs.Terms.{Name, Term, Variable}
use Rattle.nq_logic.specs.Words.{not_term, equal_term, if_term}
use Rattle.nq_bank.specs.Content.{Content, IsIdOf, term_at}
use Rattle.nq_rule.specs.declared.branching.Branches.{Branches}
use Rattle.nq_kernel.specs.declared.work.Work.{Work}
use Rattle.nq_lines.specs.Lines.{LineHasOnly}
use Rattle.nq_lines.specs.Branches.{if_at}

-- the IF with the test of another
abbrev pub moved_at : Content → Branches → Branches → Term
moved_at bank before after = if_term (term_at bank after.test) (term_at bank before.first) (term_at bank before.second)

-- the equation of two IFs of one test under it
abbrev pub IsFirstCase : Work → Work → Branches → Branches → ℕ → ℕ → Type 0
IsFirstCase old new before after shown n =
    (these : List Term) → LineHasOnly old shown (equal_term (term_at old.bank before.first) (term_at old.bank after.first) ∷ not_term (term_at old.bank after.test) ∷ these) →
    LineHasOnly new n (equal_term (moved_at old.bank before after) (if_at old.bank after) ∷ not_term (term_at old.bank after.test) ∷ these)

-- or with it
abbrev pub IsSecondCase : Work → Work → Branches → Branches → ℕ → ℕ → Type 0
IsSecondCase old new before after shown n =
    (these : List Term) → LineHasOnly old shown (equal_term (term_at old.bank before.second) (term_at old.bank after.second) ∷ term_at old.bank after.test ∷ these) →
    LineHasOnly new n (equal_term (moved_at old.bank before after) (if_at old.bank after) ∷ term_at old.bank after.test ∷ these)

-- the equation of two IFs from the equations of their branches
abbrev pub AreEqualBranches : Work → Work → Branches → Branches → ℕ → ℕ → ℕ → Type 0
AreEqualBranches old new before after first second n =
    (these : List Term) → LineHasOnly old first (equal_term (term_at old.bank before.first) (term_at old.bank after.first) ∷ not_term (term_at old.bank after.test) ∷ these) →
    LineHasOnly old second (equal_term (term_at old.bank before.second) (term_at old.bank after.second) ∷ term_at old.bank after.test ∷ these) →
    LineHasOnly new n (equal_term (moved_at old.bank before after) (if_at old.bank after) ∷ these)

-- the equation of two IFs, or the NOT of the IF of the equations of their branches
abbrev pub IsJoined : Work → Work → Branches → Branches → ℕ → Type 0
IsJoined old new before after n =
    LineHasOnly new n (equal_term (moved_at old.bank before after) (if_at old.bank after)
    ∷ not_term (if_term (not_term (term_at old.bank after.test)) (equal_term (term_at old.bank before.second) (term_at old.bank after.second)) (equal_term (term_at old.bank before.first) (term_at old.bank after.first))) ∷ [])

-- the parts are these variables
pub record AreVariables (work : Work) (p x y : Name) (parts : Branches) : Type 0 where
  pub test : IsIdOf work.bank parts.test (Variable p)
  pub first : IsIdOf work.bank parts.first (Variable x)
  pub second : IsIdOf work.bank parts.second (Variable y)
