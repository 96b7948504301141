-- How a trace of legal steps goes on.
use Rattle.std.proofs.Common.{◌≡◌, ℕ, zero, suc, ◌+◌, ◌<◌, ◌≤◌, ◌⊎◌, true, Some, List, [], ◌∷◌, ◌++◌, length, refl, sym, ap, subst, inl, inr, arith}
use Rattle.std.proofs.lemmas.Bool.{lt-ltb}
use Rattle.std.specs.Prelude.{slice_get, ◌&&◌}
use Rattle.std.proofs.lemmas.Option.{slice_get_within}
use Rattle.nq_logic.specs.Terms.{Term}
use Rattle.nq_logic.specs.Histories.{History}
use Rattle.nq_events.specs.Events.{Hints}
use Rattle.nq_goals.specs.declared.kinds.MoveKind.{MoveKind}
use Rattle.nq_goals.specs.Paths.{Above, passed}
use Rattle.nq_goals.specs.Moves.{IsMove}
use Rattle.nq_goals.specs.Trees.{Step, IsGoalAt, at_first, at_step, are_earlier}
use Rattle.nq_goals.specs.Forests.{step}
use Rattle.nq_goals.proofs.Steps.{earlier_joined}
use Rattle.nq_traces.specs.Traces.{IsOneOf, IsLegalStep, IsTrace, TraceLaws}

slice_get-more : {X : Type 0} (xs ys : List X) (k : ℕ) (x : X) → slice_get xs k ≡ Some x → slice_get (xs ++ ys) k ≡ Some x
slice_get-more [] ys k x e = absurd cc
slice_get-more (y ∷ xs) ys zero x e = e
slice_get-more (y ∷ xs) ys (suc k) x e = slice_get-more xs ys k x e

slice_get-pushed : {X : Type 0} (xs : List X) (y : X) (k : ℕ) (x : X) → slice_get (xs ++ y ∷ []) k ≡ Some x → (slice_get xs k ≡ Some x) ⊎ (x ≡ y)
slice_get-pushed [] y zero x e = inr cc
slice_get-pushed [] y (suc k) x e = absurd cc
slice_get-pushed (z ∷ xs) y zero x e = inl e
slice_get-pushed (z ∷ xs) y (suc k) x e = slice_get-pushed xs y k x e

slice_get-end : {X : Type 0} (xs : List X) (y : X) → slice_get (xs ++ y ∷ []) (length xs) ≡ Some y
slice_get-end [] y = refl
slice_get-end (x ∷ xs) y = slice_get-end xs y

pub goal_kept : (first : List Term) (old more : List Step) (number : ℕ) (above : Above) (goal : List Term) → IsGoalAt first old number above goal → IsGoalAt first (old ++ more) number above goal
goal_kept first old more number above goal at_first = at_first
goal_kept first old more number a g (at_step k parent kind above from goal at up) =
    at_step k parent kind above from goal (slice_get-more old more k (step parent kind goal) at) (goal_kept first old more parent above from up)

-- the number of a goal is not past the last step
number_within : (first : List Term) (old : List Step) (number : ℕ) (above : Above) (goal : List Term) → IsGoalAt first old number above goal → number ≤ length old
number_within first old number above goal at_first = omega arith
number_within first old number a g (at_step k parent kind above from goal at up) = let below = slice_get_within old k (step parent kind goal) at in omega (arith, below)

legal_kept : (h : History) (hints : Hints) (first : List Term) (old more : List Step) (s : Step) → IsLegalStep h hints first old s → IsLegalStep h hints first (old ++ more) s
legal_kept h hints first old more s legal =
    record {
      above = legal.above;
      from = legal.from;
      nexts = legal.nexts;
      stands = goal_kept first old more s.parent legal.above legal.from legal.stands;
      move = legal.move;
      next = legal.next;
    }

module _ (h : History) (hints : Hints) (first : List Term) (old : List Step) (number : ℕ) (above : Above) (from : List Term) (kind : MoveKind) (nexts : List (List Term)) (next : List Term) (trace : IsTrace h hints first old) (stands : IsGoalAt first old number above from) (move : IsMove h hints above kind from nexts) (one : IsOneOf next nexts) where
  abbrev pub new : List Step
  new = old ++ (step number kind next ∷ [])

  earlier_pushed : are_earlier 1 new ≡ true
  earlier_pushed =
      let within = number_within first old number above from stands in
      earlier_joined 1 old (step number kind next ∷ []) trace.earlier (is_earlier (omega (arith, within)))
    where
      is_earlier : number < 1 + length old → are_earlier (1 + length old) (step number kind next ∷ []) ≡ true
      is_earlier below = ap (λ b. b && true) (lt-ltb number (1 + length old) below)

  legal_pushed : (k : ℕ) (s : Step) → slice_get new k ≡ Some s → IsLegalStep h hints first new s
  legal_pushed k s at =
      elim (slice_get-pushed old (step number kind next) k s at) [
        | inl e ↦ legal_kept h hints first old (step number kind next ∷ []) s (trace.legal k s e)
        | inr e ↦ subst (IsLegalStep h hints first new) (sym e) last
      ]
    where
      last : IsLegalStep h hints first new (step number kind next)
      last = record { above = above; from = from; nexts = nexts; stands = goal_kept first old (step number kind next ∷ []) number above from stands; move = move; next = one }

  pub stepped : IsTrace h hints first new × IsGoalAt first new (suc (length old)) (passed from kind ∷ above) next
  stepped = (
    record { earlier = earlier_pushed; legal = legal_pushed },
    at_step (length old) number kind above from next (slice_get-end old (step number kind next)) (goal_kept first old (step number kind next ∷ []) number above from stands),
  )

none_legal : (h : History) (hints : Hints) (first : List Term) (k : ℕ) (s : Step) → slice_get [] k ≡ Some s → IsLegalStep h hints first [] s
none_legal h hints first k s e = absurd cc

pub trace_laws_hold : TraceLaws
trace_laws_hold = record {
  begun = λ h hints first. record { earlier = refl; legal = none_legal h hints first };
  kept = λ first old more number above goal at. goal_kept first old more number above goal at;
  stepped = λ h hints first old number above from kind nexts next trace stands move one. stepped h hints first old number above from kind nexts next trace stands move one;
}
