-- What the lines of a block show of a measure.
use Rattle.std.proofs.Common.{◌≡◌, ℕ, suc, ◌+◌, ◌<◌, ◌≤◌, Bool, true, false, ◌&&◌, ◌||◌, not, List, [], ◌∷◌, ◌++◌, length, get_or, drop, drop-cons, add-one, map, refl, sym, ap, ap₂, ◌∙◌, arith}
use Rattle.nq_logic.specs.Terms.{Name, Term, substituted}
use Rattle.nq_logic.specs.Names.{are_distinct}
use Rattle.nq_logic.specs.Admissible.{Call, calls_of, matched, mentions, obligation}
use Rattle.nq_proof.specs.Rules.{has_only}
use Rattle.nq_log.specs.States.{Block, clause_at}
use Rattle.nq_log.specs.ClosingLines.{are_falls}
use Rattle.nq_calls.specs.Calls.{beneath, counted_calls}
use Rattle.nq_calls.specs.Falls.{is_in_used, obligation_at, uses_of}
use Rattle.nq_calls.specs.Laws.{SmallerMentions}
use Rattle.nq_check.specs.Measures.{are_older, are_shown}

-- a test and the rest of each list are taken apart
taken_apart : (here older shown others : Bool) → (not here && shown && (older && others)) ≡ ((not here && older) && (shown && others))
taken_apart true older shown others = refl
taken_apart false older true others = refl
taken_apart false true false others = refl
taken_apart false false false others = refl

module _ (block : Block) (f : Name) (xs : List Name) (m : Term) (law : SmallerMentions) (distinct : are_distinct xs ≡ true) (older : mentions f m ≡ false) where
  -- the measure at a call mentions the function where an argument of a formal that is used does
  smaller : (c : Call) → mentions f (substituted (matched xs c.arguments) m) ≡ is_in_used f (uses_of xs m) c.arguments
  smaller c = law f xs c.arguments m distinct ∙ ap (λ b. b || is_in_used f (uses_of xs m) c.arguments) older

  -- each call has its line where the function stands in no argument that is used, and each counted call has its line
  pub falls_apart : (calls : List Call) (rs : List ℕ) → length (beneath f [] calls) ≡ length rs → are_falls block f xs m calls rs ≡ (are_older f (uses_of xs m) (beneath f [] calls) && are_shown block xs m (beneath f [] calls) rs)
  falls_apart [] [] e = refl
  falls_apart [] (r ∷ rs) e = absurd (omega (arith, e))
  falls_apart (c ∷ calls) [] e = absurd (omega (arith, e))
  falls_apart (c ∷ calls) (r ∷ rs) e =
      let shown = has_only (clause_at block r) (obligation f xs m c.tests c.arguments) in
      ap₂ (λ a b. not a && shown && b) (smaller c) (falls_apart calls rs (omega (arith, e)))
      ∙ taken_apart (is_in_used f (uses_of xs m) c.arguments) (are_older f (uses_of xs m) (beneath f [] calls)) shown (are_shown block xs m (beneath f [] calls) rs)

  -- lines that are not as many show nothing
  pub too_few : (calls : List Call) (rs : List ℕ) → (length (beneath f [] calls) ≡ length rs → ⊥) → are_falls block f xs m calls rs ≡ false
  too_few [] [] other = absurd (other refl)
  too_few [] (r ∷ rs) other = refl
  too_few (c ∷ calls) [] other = refl
  too_few (c ∷ calls) (r ∷ rs) other =
      ap (λ b. not (mentions f (substituted (matched xs c.arguments) m)) && has_only (clause_at block r) (obligation f xs m c.tests c.arguments) && b) (too_few calls rs (λ e. other (omega (arith, e))))
      ∙ nothing (not (mentions f (substituted (matched xs c.arguments) m)) && has_only (clause_at block r) (obligation f xs m c.tests c.arguments))
    where
      nothing : (b : Bool) → (b && false) ≡ false
      nothing true = refl
      nothing false = refl
