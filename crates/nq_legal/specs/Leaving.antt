-- What becomes of a goal in which no move has a candidate.
use Rattle.std.specs.Prelude.{◌≡◌, List, [], ◌∷◌, Option, None, Some, ⊤}
use Rattle.nq_bank.specs.declared.node.TermId.{TermId}
use Rattle.nq_bank.specs.Content.{Content, term_at, terms_at}
use Rattle.nq_history.specs.declared.entry.Entry.{Entry}
use Rattle.nq_history.specs.declared.hints.Hints.{Hints}
use Rattle.nq_history.specs.Events.{events_at}
use Rattle.nq_goals.specs.Inducting.{hinted_term, scheme_calls, suggesting_in}
use Rattle.nq_goals.specs.Moves.{HasNoCandidate, StartsInduction}
use Rattle.nq_goals.specs.Normal.{IsNormal}
use Rattle.nq_goals.specs.Paths.{inducted_goals}
use Rattle.nq_goals.specs.Spent.{IsFalse}
use Rattle.nq_event.specs.EventsAt.{hints_at}
use Rattle.nq_waterfall.specs.declared.trail.Ancestor.{Ancestor}
use Rattle.nq_waterfall.specs.Trails.{above_at}
use Rattle.nq_waterfall.specs.Turns.{SpentAt}
use Rattle.nq_legal.specs.declared.leaving.Left.{Left}
use Rattle.nq_legal.specs.declared.leaving.Left.TheVariants.{Over, ToInduction, ToHint, Untold}

-- it is in normal form and not false, and no move but an induction has a candidate in it
pub record IsStuck (bank : Content) (history : List Entry) (hints : Hints) (goal : List TermId) : Type 0 where
  pub normal : IsNormal (events_at bank history) (hints_at bank hints) (terms_at bank goal)
  pub not_false : IsFalse (events_at bank history) (terms_at bank goal) → ⊥
  pub none : HasNoCandidate (events_at bank history) (hints_at bank hints) (terms_at bank goal)

-- no hint says by which call the next induction goes
abbrev pub IsFreeAt : Content → Hints → List Ancestor → Type 0
IsFreeAt bank hints path = hinted_term (hints_at bank hints).induct (inducted_goals (above_at bank path)) ≡ []

-- an induction may start, by the calls that suggest it
pub record IsToInduct (bank : Content) (history : List Entry) (hints : Hints) (path : List Ancestor) (goal : List TermId) : Type 0 where
  pub starts : StartsInduction (events_at bank history) (hints_at bank hints) (above_at bank path) (terms_at bank goal)
  pub calls : scheme_calls (events_at bank history) (hints_at bank hints) (above_at bank path) (terms_at bank goal) ≡ suggesting_in (events_at bank history) (terms_at bank goal)

-- a hint says that the next induction goes by this term
abbrev pub IsHintedAt : Content → Hints → List Ancestor → TermId → Type 0
IsHintedAt bank hints path t = hinted_term (hints_at bank hints).induct (inducted_goals (above_at bank path)) ≡ term_at bank t ∷ []

-- the term by which a hint says that the next induction goes, if one does
abbrev pub IsHintNow : Content → Hints → List Ancestor → Option TermId → Type 0
IsHintNow bank hints path None = IsFreeAt bank hints path
IsHintNow bank hints path (Some t) = (hints.induct ≡ Some t) × IsHintedAt bank hints path t

-- an induction may start, by the call of the hint
pub record IsToHint (bank : Content) (history : List Entry) (hints : Hints) (path : List Ancestor) (goal : List TermId) (call : TermId) : Type 0 where
  pub hint : hints.induct ≡ Some call
  pub starts : StartsInduction (events_at bank history) (hints_at bank hints) (above_at bank path) (terms_at bank goal)
  pub calls : scheme_calls (events_at bank history) (hints_at bank hints) (above_at bank path) (terms_at bank goal) ≡ term_at bank call ∷ []

-- it is left over, or is to be led on by an induction
abbrev pub IsLeft : Content → List Entry → Hints → List Ancestor → List TermId → Left → Type 0
IsLeft bank history hints path goal (Over cause) = SpentAt bank history hints path goal cause
IsLeft bank history hints path goal ToInduction = IsToInduct bank history hints path goal
IsLeft bank history hints path goal (ToHint call) = IsToHint bank history hints path goal call
IsLeft bank history hints path goal Untold = ⊤
