-- What IRR drops over ids, and how its move is closed.
use Rattle.std.specs.Prelude.{◌≡◌, ℕ, Bool, false, not, List, [], ◌∷◌, All, Option, MatchOption, ⊤}
use Rattle.nq_logic.specs.Terms.{Name, Term, Variable, Function, Applied, IsAmong}
use Rattle.nq_logic.specs.Histories.{History}
use Rattle.nq_bank.specs.Content.{Content, Stands, terms_at}
use Rattle.nq_bank.specs.declared.node.TermId.{TermId}
use Rattle.nq_proof.specs.Clauses.{Clause, has_term}
use Rattle.nq_kernel.specs.declared.work.Work.{Work}
use Rattle.nq_lines.specs.Lines.{LineHasOnly, AreAmong}
use Rattle.nq_goals.specs.Dropping.{droppings_of, others}
use Rattle.nq_moves.specs.Found.{goals_at, GoalsStand}
use Rattle.nq_kernel.specs.declared.verdict.MoveKind.TheVariants as kind
use Rattle.nq_moves.specs.declared.moved.Moved.{Moved}
use Rattle.nq_moves.specs.declared.dropping.Dropped.{Dropped}

-- the names of those that are variables
abbrev pub names_of : List Term → List Name
names_of [] = []
names_of (Variable x ∷ ts) = x ∷ names_of ts
names_of (Function f ∷ ts) = names_of ts
names_of (Applied t u ∷ ts) = names_of ts

-- whether the term is a variable that is none of these
abbrev pub is_other_variable : Term → List Term → Bool
is_other_variable (Variable x) seen = not (has_term (Variable x) seen)
is_other_variable (Function f) seen = false
is_other_variable (Applied t u) seen = false

-- the group, and the literals of the goal that are left
pub record IsDroppedGroup (bank : Content) (goal group : Clause) (d : Dropped) : Type 0 where
  pub group_is : terms_at bank d.group.items ≡ group
  pub rest_is : terms_at bank d.rest.items ≡ others group goal
  pub stand : All (Stands bank) d.rest.items

pub record DropsGroup (bank : Content) (h : History) (goal : List TermId) (d : Dropped) : Type 0 where
  pub group : Clause
  pub candidate : IsAmong group (droppings_of h (terms_at bank goal))
  pub drops : IsDroppedGroup bank (terms_at bank goal) group d

-- a group is found exactly where there is a candidate
abbrev pub DropsOne : Content → History → List TermId → Option Dropped → Type 0
DropsOne bank h goal found = MatchOption found (droppings_of h (terms_at bank goal) ≡ []) (DropsGroup bank h goal)

-- a move of IRR from the goal
pub record IsDropped (bank : Content) (h : History) (goal : List TermId) (moved : Moved) : Type 0 where
  pub kind : moved.why.kind ≡ kind.Irr
  pub group : Clause
  pub candidate : IsAmong group (droppings_of h (terms_at bank goal))
  pub leads : goals_at bank moved.children.items ≡ others group (terms_at bank goal) ∷ []
  pub stand : GoalsStand bank moved.children.items
  pub literals : terms_at bank moved.why.literals.items ≡ group

-- there is a line for each child, in their order, and it holds only literals of the child
abbrev pub HoldChildren : Work → List Clause → List ℕ → Type 0
HoldChildren work [] [] = ⊤
HoldChildren work [] (n ∷ lines) = ⊥
HoldChildren work (child ∷ children) [] = ⊥
HoldChildren work (child ∷ children) (n ∷ lines) = LineHasOnly work n child × HoldChildren work children lines

-- the move led to one child, which has only literals of the goal
pub record IsLeft (bank : Content) (goal : List TermId) (moved : Moved) : Type 0 where
  pub child : Clause
  pub within : AreAmong child (terms_at bank goal)
  pub leads : goals_at bank moved.children.items ≡ child ∷ []
  pub stand : GoalsStand bank moved.children.items
