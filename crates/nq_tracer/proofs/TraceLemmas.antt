-- The goals of one move from a first goal, as the steps of a trace.
use Rattle.std.proofs.Common.{◌≡◌, ℕ, zero, suc, true, ◌&&◌, List, [], ◌∷◌, refl, sym, ap₂, subst, inl, inr, arith}
use Rattle.std.proofs.lemmas.Bool.{lt-ltb}
use Rattle.std.specs.Prelude.{Some, slice_get}
use Rattle.nq_logic.specs.Terms.{Term}
use Rattle.nq_goals.specs.declared.kinds.MoveKind.{MoveKind}
use Rattle.nq_goals.specs.Trees.{Step, at_first, are_earlier}
use Rattle.nq_goals.specs.Forests.{step}
use Rattle.nq_traces.specs.Traces.{IsOneOf, IsLegalStep}
use Rattle.nq_tracer.specs.Steps.{steps_to, OneMoveIsTrace}

all_earlier : (kind : MoveKind) (n : ℕ) (nexts : List (List Term)) → are_earlier (suc n) (steps_to kind nexts) ≡ true
all_earlier kind n [] = refl
all_earlier kind n (g ∷ nexts) = ap₂ (λ a b. a && b) (lt-ltb 0 (suc n) (omega arith)) (all_earlier kind (suc n) nexts)

-- a step of this kind from the first goal to one of the goals
record LeadsToOne (kind : MoveKind) (nexts : List (List Term)) (s : Step) : Type 0 where
  goal : List Term
  is : s ≡ step 0 kind goal
  among : IsOneOf goal nexts

step_found : (kind : MoveKind) (nexts : List (List Term)) (k : ℕ) (s : Step) → slice_get (steps_to kind nexts) k ≡ Some s → LeadsToOne kind nexts s
step_found kind [] k s e = absurd cc
step_found kind (g ∷ nexts) zero s e = record { goal = g; is = (let one : step 0 kind g ≡ s = cc in sym one); among = inl refl }
step_found kind (g ∷ nexts) (suc k) s e =
    let later = step_found kind nexts k s e in
    record { goal = later.goal; is = later.is; among = inr later.among }

pub trace_of_move : OneMoveIsTrace
trace_of_move h hints kind first nexts move = record {
  earlier = all_earlier kind 0 nexts;
  legal = λ k s at.
      let found = step_found kind nexts k s at in
      subst (IsLegalStep h hints first (steps_to kind nexts)) (sym found.is)
      (record { above = []; from = first; nexts = nexts; stands = at_first; move = move; next = found.among });
}
