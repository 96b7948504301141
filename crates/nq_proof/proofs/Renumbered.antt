-- A rule whose cited lines have other numbers gives the clause that it gives after the lines under those numbers.
use Rattle.std.proofs.Common.{◌≡◌, ℕ, List, [], ◌∷◌, ◌++◌, ◌&&◌, refl, ap, ap₂}
use Rattle.std.specs.Prelude.{Option}
use Rattle.nq_logic.specs.Terms.{Term, substituted}
use Rattle.nq_logic.specs.Words.{call1, call2, not_term}
use Rattle.nq_logic.specs.Laws.{denied}
use Rattle.nq_proof.specs.Rules.{Hypothesis, CaseLines, Taut, AxiomRow, EventTerm, Weaken, Cut, Instance, Reflexive, Replace, Join, SplitFirst, SplitSecond, NotNot, Value, Linear, Induct, is_substitution, when, has_only, case_tests, case_substitutions, are_falls, are_steps}
use Rattle.nq_proof.specs.Laws.{renumbered_hypotheses, renumbered_cases, RulesMayBeRenumbered}

module _ (lines : ℕ → Option (List Term)) (f : ℕ → ℕ) where
  same_tests : (cases : List CaseLines) → case_tests (renumbered_cases f cases) ≡ case_tests cases
  same_tests [] = refl
  same_tests (c ∷ cases) = ap (λ ts. c.test ∷ ts) (same_tests cases)

  same_substitutions : (hypotheses : List Hypothesis) → case_substitutions (renumbered_hypotheses f hypotheses) ≡ case_substitutions hypotheses
  same_substitutions [] = refl
  same_substitutions (s ∷ rest) = ap (λ ss. s.pairs ∷ ss) (same_substitutions rest)

  same_falls : (m test : Term) (hypotheses : List Hypothesis) → are_falls lines m test (renumbered_hypotheses f hypotheses) ≡ are_falls (λ n. lines (f n)) m test hypotheses
  same_falls m test [] = refl
  same_falls m test (s ∷ rest) =
      ap (λ b. is_substitution s.pairs && has_only (lines (f s.line)) (not_term test ∷ call2 "ORD-LESSP" (substituted s.pairs m) m ∷ []) && b) (same_falls m test rest)

  same_steps : (p m : Term) (cases : List CaseLines) → are_steps lines p m (renumbered_cases f cases) ≡ are_steps (λ n. lines (f n)) p m cases
  same_steps p m [] = refl
  same_steps p m (c ∷ cases) =
      ap₂ (λ a b. a && b)
      (ap₂ (λ ss b. has_only (lines (f c.step)) (not_term c.test ∷ (denied p ss ++ (p ∷ []))) && b) (same_substitutions c.hypotheses) (same_falls m c.test c.hypotheses)) (same_steps p m cases)

pub renumbered_law : RulesMayBeRenumbered
renumbered_law h lines f (Taut ts) = refl
renumbered_law h lines f (AxiomRow name row i) = refl
renumbered_law h lines f (EventTerm name) = refl
renumbered_law h lines f (Weaken l ts) = refl
renumbered_law h lines f (Cut l m t) = refl
renumbered_law h lines f (Instance l s) = refl
renumbered_law h lines f (Reflexive t) = refl
renumbered_law h lines f (Replace l k path t side) = refl
renumbered_law h lines f (Join l m p x y) = refl
renumbered_law h lines f (SplitFirst l k) = refl
renumbered_law h lines f (SplitSecond l k) = refl
renumbered_law h lines f (NotNot l k) = refl
renumbered_law h lines f (Value t) = refl
renumbered_law h lines f (Linear summands) = refl
renumbered_law h lines f (Induct p m o b cases) =
    ap₂ (λ tests steps. when (has_only (lines (f o)) (call1 "ORDINALP" m ∷ []) && has_only (lines (f b)) (tests ++ (p ∷ [])) && steps) (p ∷ [])) (same_tests lines f cases) (same_steps lines f p m cases)
