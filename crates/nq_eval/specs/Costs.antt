-- What a value takes: its calls, and how far their openings nest. They are the same wherever the term stands.
use Rattle.std.specs.Prelude.{◌≡◌, ℕ, zero, suc, ◌+◌, ◌-◌, max, nat_le, true, false, ◌&&◌, List, map, None}
use Rattle.nq_logic.specs.Terms.{Name, Term, applied, call}
use Rattle.nq_logic.specs.Histories.{History}
use Rattle.nq_fragments.specs.Outcomes.{Outcome, Reached, OutOfFuel, is_small}
use Rattle.nq_fragments.specs.Evaluation.{Way, nowhere, on_values, applied_to, choice_of, outcome_within}

-- what follows where so many calls are left and openings may nest so far, and no more than these are taken
abbrev pub granted : ℕ → ℕ → ℕ → ℕ → Way → Outcome
granted calls nesting n left next = elim (nat_le calls left && nat_le nesting n) as (λ b. Outcome) [ true ↦ next (left - calls) | false ↦ OutOfFuel ]

-- what evaluates what a call opens to, where openings may nest so far
abbrev pub inner : History → ℕ → Term → Way
inner h zero = nowhere
inner h (suc n) = outcome_within h n

-- the value of t is v, which takes so many calls, nested so far
pub record Takes (h : History) (t v : Term) (calls nesting : ℕ) : Type 0 where
  pub within : (n left : ℕ) → outcome_within h n t left ≡ granted calls nesting n left (Reached v)

-- the values of these terms are those, which take so many calls in all, nested so far
pub record TakesEach (h : History) (ts vs : List Term) (calls nesting : ℕ) : Type 0 where
  pub within : (n left : ℕ) (u : Term) (next : Term → Way) → applied_to next u (map (outcome_within h n) ts) left ≡ granted calls nesting n left (next (applied u vs))

-- the value of a call on values is v, which takes so many calls, nested so far
pub record CallTakes (h : History) (u v : Term) (calls nesting : ℕ) : Type 0 where
  pub within : (n left : ℕ) → on_values h (inner h n) u left ≡ granted calls nesting n left (Reached v)

-- what a call takes is what its arguments and the call of their values take
abbrev pub CostsAdd : Type 0
CostsAdd =
    (h : History) (f : Name) (ts vs : List Term) (v : Term) (a k b m : ℕ) → TakesEach h ts vs a k → CallTakes h (call f vs) v b m → is_small (call f ts) ≡ false → ((n : ℕ) → choice_of f (map (outcome_within h n) ts) ≡ None) →
    Takes h (call f ts) v (a + b) (max k m)
