-- Steps, summed line by line.
use Rattle.std.proofs.Common.{◌≡◌, ℕ, zero, suc, ◌+◌, ◌-◌, ◌*◌, ◌^◌, ◌<◌, ◌≤◌, ◌⊎◌, inl, inr, min, List, [], ◌∷◌, ◌++◌, length, get_or, take, ap, ◌∙◌, arith}
use Rattle.std.specs.Prelude.{Result, Ok, Err, OnErr}
use Rattle.std.proofs.lemmas.List.{take_more}
use Rattle.nq_rule.specs.declared.induction.InductionStep.{InductionStep}
use Rattle.nq_rule.specs.declared.induction.CaseOfInduction.{CaseOfInduction}
use Rattle.nq_kernel.specs.Steps.{steps_of_hypotheses, steps_of_cases}

hypotheses-push : (steps : List InductionStep) (s : InductionStep) → steps_of_hypotheses (steps ++ s ∷ []) ≡ steps_of_hypotheses steps + (2 + 2 * length s.pairs.items)
hypotheses-push [] s = omega arith
hypotheses-push (r ∷ steps) s = let rest = hypotheses-push steps s in omega (arith, rest)

pub hypotheses_more : (steps : List InductionStep) (i : ℕ) (s : InductionStep) → i < length steps → get_or steps i s ≡ s → steps_of_hypotheses (take (i + 1) steps) ≡ steps_of_hypotheses (take i steps) + (2 + 2 * length s.pairs.items)
hypotheses_more steps i s below at = ap steps_of_hypotheses (take_more steps i s below ∙ ap (λ r. take i steps ++ r ∷ []) at) ∙ hypotheses-push (take i steps) s

cases-push : (cases : List CaseOfInduction) (c : CaseOfInduction) → steps_of_cases (cases ++ c ∷ []) ≡ steps_of_cases cases + (3 + steps_of_hypotheses c.steps.items)
cases-push [] c = omega arith
cases-push (d ∷ cases) c = let rest = cases-push cases c in omega (arith, rest)

pub cases_more : (cases : List CaseOfInduction) (i : ℕ) (c : CaseOfInduction) → i < length cases → get_or cases i c ≡ c → steps_of_cases (take (i + 1) cases) ≡ steps_of_cases (take i cases) + (3 + steps_of_hypotheses c.steps.items)
cases_more cases i c below at = ap steps_of_cases (take_more cases i c below ∙ ap (λ d. take i cases ++ d ∷ []) at) ∙ cases-push (take i cases) c

below_or_past : (limit sum : ℕ) → (limit < sum) ⊎ (sum ≤ limit)
below_or_past limit zero = inr (omega arith)
below_or_past zero (suc sum) = inl (omega arith)
below_or_past (suc limit) (suc sum) = elim (below_or_past limit sum) as (λ o. (suc limit < suc sum) ⊎ (suc sum ≤ suc limit)) [ inl h ↦ inl (omega arith) | inr h ↦ inr (omega arith) ]

-- what is counted is counted up to the limit
pub counted_is : (used limit made steps kept total new : ℕ) → kept ≡ min steps (2 ^ 128 - 1) → total ≡ min (made + kept) (2 ^ 128 - 1) → limit < 2 ^ 64 → new ≡ min (used + total) limit → new ≡ min (used + made + steps) limit
counted_is used limit made steps kept total new a b c d = omega arith

-- it is within the limit where the sum as it is kept is
pub within_is : (used limit made steps kept total : ℕ) → kept ≡ min steps (2 ^ 128 - 1) → total ≡ min (made + kept) (2 ^ 128 - 1) → limit < 2 ^ 64 → used + total ≤ limit → used + made + steps ≤ limit
within_is used limit made steps kept total a b c d = omega arith

pub passes_is : (used limit made steps kept total : ℕ) → kept ≡ min steps (2 ^ 128 - 1) → total ≡ min (made + kept) (2 ^ 128 - 1) → limit < 2 ^ 64 → (used + total ≤ limit → ⊥) → limit < used + made + steps
passes_is used limit made steps kept total a b c d = elim (below_or_past limit (used + total)) [ inl past ↦ omega (arith, past) | inr within ↦ absurd (d within) ]

-- a part of them passes the limit only where all do
pub part_passes : (used limit made steps kept part total : ℕ) → kept ≡ min steps (2 ^ 128 - 1) → part ≤ kept → total ≡ min (made + part) (2 ^ 128 - 1) → limit < 2 ^ 64 → (used + total ≤ limit → ⊥) → limit < used + made + steps
part_passes used limit made steps kept part total a le b c d = elim (below_or_past limit (used + total)) [ inl past ↦ omega (arith, past) | inr within ↦ absurd (d within) ]

-- what holds after an error
pub err_holds : {A F : Type 0} (r : Result A F) (e : F) (P : Type 0) → OnErr r P → r ≡ Err e → P
err_holds (Ok a) e P h is = absurd cc
err_holds (Err d) e P h is = h
