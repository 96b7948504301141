-- Of what form a goal is.
use Rattle.std.proofs.Common.{◌≡◌, ℕ, Bool, true, false, List, [], ◌∷◌, ◌++◌, refl, ap, ap₂}
use Rattle.std.specs.Prelude.{◌↔◌, IsTrue, All}
use Rattle.nq_logic.specs.Terms.{Term}
use Rattle.nq_logic.specs.Histories.{History}
use Rattle.nq_bank.specs.declared.node.TermId.{TermId}
use Rattle.nq_bank.specs.Content.{Content, terms_at}
use Rattle.nq_history.specs.declared.entry.Entry.{Entry}
use Rattle.nq_history.specs.declared.hints.Hints.{Hints}
use Rattle.nq_history.specs.Events.{events_at}
use Rattle.nq_event.specs.EventsAt.{hints_at}
use Rattle.nq_goals.specs.NewVariables.{clause_variables}
use Rattle.nq_goals.specs.Normal.{IsNormal}
use Rattle.nq_goals.specs.Spent as spent
use Rattle.nq_goals.specs.Spent.{normal, first_and_ground}
use Rattle.nq_ground_goals.specs.Literals.{IsLiteral}
use Rattle.nq_kernel.specs.declared.work.Work.{Work}
use Rattle.nq_waterfall.specs.Ready.{IsGoalIn}
use Rattle.nq_waterfall.specs.declared.trail.Ancestor.{Ancestor}
use Rattle.nq_waterfall.specs.Trails.{above_at}
use Rattle.nq_legal.specs.Forms.{IsForm, told_form}

ground_if_false : (h : History) (goal : List Term) → spent.IsFalse h goal → clause_variables goal ≡ []
ground_if_false h [] k = refl
ground_if_false h (t ∷ goal) k = ap₂ (λ (a b : List (List ℕ)). a ++ b) (k.0).ground (ground_if_false h goal k.1)

-- what is told of a goal is its form
pub form_told : (bank : Content) (history : List Entry) (hints : Hints) (path : List Ancestor) (goal : List TermId) (falsity plain first : Bool) → (IsTrue falsity ↔ spent.IsFalse (events_at bank history) (terms_at bank goal)) →
    (IsTrue plain ↔ IsNormal (events_at bank history) (hints_at bank hints) (terms_at bank goal)) → (first ≡ true → path ≡ []) → IsForm bank history hints path goal (told_form falsity plain first)
form_told bank history hints path goal true true first f n p = record { form = normal (n.0 refl); holds = f.0 refl; first = tt }
form_told bank history hints path goal true false true f n p =
    record { form = first_and_ground (ap (above_at bank) (p refl)) (ground_if_false (events_at bank history) (terms_at bank goal) (f.0 refl)); holds = f.0 refl; first = tt }
form_told bank history hints path goal true false false f n p = tt
form_told bank history hints path goal false true first f n p = (n.0 refl, (λ k. absurd (never (f.1 k))))
  where
    never : false ≡ true → ⊥
    never e = absurd cc
form_told bank history hints path goal false false first f n p = tt

-- an answer that tells whether the goal is false
abbrev pub FalseIs : Bool → History → List Term → Type 0
FalseIs answer h goal = IsTrue answer ↔ spent.IsFalse h goal

abbrev pub FalseTold : Bool → Content → List Entry → List TermId → Type 0
FalseTold answer bank history goal = FalseIs answer (events_at bank history) (terms_at bank goal)

-- the literals of a goal can be evaluated
pub literals_in : (history : List Entry) (work : Work) (goal : List TermId) → IsGoalIn history work goal → All (IsLiteral work.bank history) goal
literals_in history work goal k = λ i d below. record { stands = (k i d below).stands; over = (k i d below).over }
