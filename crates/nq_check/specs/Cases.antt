-- The cases of an induction, from the lines that wait for it.
use Rattle.std.specs.Prelude.{◌≡◌, ◌++◌, Bool, true, false, List, [], ◌∷◌, Option, Some, None}
use Rattle.nq_logtext.specs.Reading.{◌>>=◌}
use Rattle.nq_proof.specs.Rules.{CaseLines, Hypothesis}
use Rattle.nq_rule.specs.declared.induction.CaseOfInduction.{CaseOfInduction}
use Rattle.nq_rule.specs.declared.induction.InductionStep.{InductionStep}
use Rattle.nq_log.specs.States.{Block, CaseLine, is_empty, only_when}
use Rattle.nq_log.specs.RuleLines.{grouped}

abbrev pub with_steps : CaseLines → List Hypothesis → CaseLines
with_steps c steps = record c { hypotheses = c.hypotheses ++ steps }

-- the cases so far, of which the last gets the hypotheses that stand before the next one, and then the later ones
abbrev pub resumed : List CaseLines → List Hypothesis × List CaseLines → Option (List CaseLines)
resumed [] g = only_when (is_empty g.0) g.1
resumed (c ∷ []) g = Some (with_steps c g.0 ∷ g.1)
resumed (c ∷ d ∷ cs) g = resumed (d ∷ cs) g >>= λ rest. Some (c ∷ rest)

-- the cases of these lines, behind the cases so far
abbrev pub resumed_at : Block → List CaseLines → List CaseLine → Option (List CaseLines)
resumed_at block cs lines = grouped block lines >>= resumed cs

-- The line goes behind the cases so far, whatever follows; or it fits nowhere.
abbrev pub GoesWith : Bool → Block → CaseLine → List CaseLines → List CaseLines → Type 0
GoesWith true block line old new = (rest : List CaseLine) → resumed_at block old (line ∷ rest) ≡ resumed_at block new rest
GoesWith false block line old new = (rest : List CaseLine) → resumed_at block old (line ∷ rest) ≡ None

-- the step is the last of the last case
pub record HasStep (old new : List CaseOfInduction) (step : InductionStep) : Type 0 where
  pub front : List CaseOfInduction
  pub before : CaseOfInduction
  pub after : CaseOfInduction
  pub old_is : old ≡ front ++ before ∷ []
  pub new_is : new ≡ front ++ after ∷ []
  pub test : after.test ≡ before.test
  pub line : after.line ≡ before.line
  pub steps : after.steps.items ≡ before.steps.items ++ step ∷ []

abbrev pub PutsStep : Bool → List CaseOfInduction → List CaseOfInduction → InductionStep → Type 0
PutsStep true old new step = HasStep old new step
PutsStep false old new step = (old ≡ []) × (new ≡ [])
