-- Calls that suggest an induction, and the goals to which one leads.
use Rattle.std.specs.Prelude.{◌≡◌, [], ◌∷◌, codes, Some}
use Rattle.nq_logic.specs.Terms.{Term}
use Rattle.nq_logic.specs.Words.{variable, call1, call2, equal_term, not_term, and_term, or_term, implies_term, numeral, true_term}
use Rattle.nq_logic.specs.Laws.{InductionCase}
use Rattle.nq_events.specs.Events.{Hints}
use Rattle.nq_goals.specs.Inducting.{Scheme, GoesBy, claim_of, all_of, goals_of_scheme, hinted_call, scheme_calls, suggesting_in, suggestions}
use Rattle.nq_goals.specs.NormalExamples.{p, q, x, y, plus, no_hints}
use Rattle.nq_goals.specs.SpentExamples.{append, associates, once_inducted}

-- INDUCT with this term
abbrev pub by_hint : Term → Hints
by_hint t = record no_hints { induct = Some t }

pub record CallsSuggest : Type 0 where
  pub both : suggesting_in [] (equal_term (plus x y) (plus y x) ∷ []) ≡ plus x y ∷ plus y x ∷ []
  -- only the place of the measured formal counts
  pub same : suggesting_in [] (plus x x ∷ []) ≡ plus x x ∷ []
  pub no_variable : suggesting_in [] (plus (numeral 2) y ∷ []) ≡ []
  pub not_recursive : suggesting_in [] (call1 "FIX" x ∷ []) ≡ []
  -- the term of the hint counts as a call before the first induction alone, and is itself to suggest one
  pub hinted : suggestions [] (by_hint (plus x y)) [] (q ∷ []) ≡ plus x y ∷ []
  pub hinted_first : scheme_calls [] (by_hint (plus x y)) [] (append x y ∷ []) ≡ plus x y ∷ []
  pub later : suggestions [] (by_hint (plus x y)) once_inducted (q ∷ []) ≡ []
  pub later_calls : scheme_calls [] (by_hint (plus x y)) once_inducted (append x y ∷ []) ≡ append x y ∷ []
  pub within : hinted_call [] (by_hint (call1 "FIX" (plus x y))) [] ≡ []

-- the case of the lists, supposed of the rest
abbrev pub list_case : InductionCase
list_case = record { test = call1 "LISTP" x; substitutions = ((codes "X", call1 "CDR" x) ∷ []) ∷ [] }

-- the same, supposed of the first element: the recursive call does not go there
abbrev pub wrong_case : InductionCase
wrong_case = record { test = call1 "LISTP" x; substitutions = ((codes "X", call1 "CAR" x) ∷ []) ∷ [] }

abbrev pub list_scheme : Scheme
list_scheme = record { measure = call1 "COUNT" x; cases = list_case ∷ [] }

pub record SchemesLead : Type 0 where
  pub one_literal : claim_of (p ∷ []) ≡ p
  pub several : claim_of (p ∷ q ∷ x ∷ []) ≡ or_term p (or_term q x)
  pub all : all_of (p ∷ q ∷ x ∷ []) ≡ and_term p (and_term q x)
  -- the case goes by the recursive call of the suggesting call
  pub goes : GoesBy [] list_case (append x y)
  pub goes_not : GoesBy [] wrong_case (append x y) → ⊥
  pub goals :
      goals_of_scheme (p ∷ []) list_scheme
      ≡ (implies_term (not_term (call1 "LISTP" x)) p ∷ []) ∷ (implies_term (and_term (call1 "LISTP" x) p) p ∷ []) ∷ []
  pub step :
      goals_of_scheme (call1 "NUMBERP" x ∷ []) list_scheme
      ≡ (implies_term (not_term (call1 "LISTP" x)) (call1 "NUMBERP" x) ∷ [])
      ∷ (implies_term (and_term (call1 "LISTP" x) (call1 "NUMBERP" (call1 "CDR" x))) (call1 "NUMBERP" x) ∷ [])
      ∷ []
