-- Rules that cite lines under other numbers.
use Rattle.std.specs.Prelude.{◌≡◌, ℕ, zero, suc, ⊤, List, [], ◌∷◌, get_or}
use Rattle.nq_bank.specs.Content.{Content}
use Rattle.nq_proof.specs.Laws.{renumbered}
use Rattle.nq_rule.specs.declared.induction.InductionStep.{InductionStep}
use Rattle.nq_rule.specs.declared.induction.CaseOfInduction.{CaseOfInduction}
use Rattle.nq_kernel.specs.declared.rule.Rule.{Rule}
use Rattle.nq_kernel.specs.Meaning.{RuleStands, rule_at}

-- the new number of line n, counted from 1; 0 where it has none
abbrev pub number_in : List ℕ → ℕ → ℕ
number_in numbers zero = 0
number_in numbers (suc k) = get_or numbers k 0

-- the instance, with another number for its line
pub record IsRenumberedStep (f : ℕ → ℕ) (step made : InductionStep) : Type 0 where
  pub line : made.line ≡ f step.line
  pub pairs : made.pairs.items ≡ step.pairs.items

abbrev pub AreRenumberedSteps : (ℕ → ℕ) → List InductionStep → List InductionStep → Type 0
AreRenumberedSteps f [] [] = ⊤
AreRenumberedSteps f [] (m ∷ made) = ⊥
AreRenumberedSteps f (s ∷ steps) [] = ⊥
AreRenumberedSteps f (s ∷ steps) (m ∷ made) = IsRenumberedStep f s m × AreRenumberedSteps f steps made

-- the case, with other numbers for its lines
pub record IsRenumberedCase (f : ℕ → ℕ) (case made : CaseOfInduction) : Type 0 where
  pub test : made.test ≡ case.test
  pub line : made.line ≡ f case.line
  pub steps : AreRenumberedSteps f case.steps.items made.steps.items

abbrev pub AreRenumberedCases : (ℕ → ℕ) → List CaseOfInduction → List CaseOfInduction → Type 0
AreRenumberedCases f [] [] = ⊤
AreRenumberedCases f [] (m ∷ made) = ⊥
AreRenumberedCases f (c ∷ cases) [] = ⊥
AreRenumberedCases f (c ∷ cases) (m ∷ made) = IsRenumberedCase f c m × AreRenumberedCases f cases made

-- over each bank it is the rule with other numbers for the lines that it cites, and what it names stands where that of the
-- rule does
pub record IsRenumbered (f : ℕ → ℕ) (rule made : Rule) : Type 0 where
  pub same : (bank : Content) → rule_at bank made ≡ renumbered f (rule_at bank rule)
  pub stands : (bank : Content) → RuleStands bank rule → RuleStands bank made
