-- IRR: a group of literals that shares no variable with the others, and that says nothing of interest, is dropped.
use Rattle.std.specs.Prelude.{◌≡◌, ℕ, zero, suc, Bool, true, false, ◌||◌, ◌&&◌, not, if◌then◌else◌, List, [], ◌∷◌, ◌++◌, length}
use Rattle.nq_logic.specs.Terms.{Term, Variable, Function, Applied, IsAmong}
use Rattle.nq_logic.specs.Histories.{History}
use Rattle.nq_bank.specs.Parts.{occurs}
use Rattle.nq_proof.specs.Clauses.{Clause, has_term, without}
use Rattle.nq_events.specs.Events.{Hints}
use Rattle.nq_goals.specs.Occurrences.{atom_of}
use Rattle.nq_goals.specs.Recursion.{holds_recursive, is_recursive_call}

-- whether some variable of t stands in u
unfoldable pub shares : Term → Term → Bool
shares (Variable x) u = occurs x u
shares (Function f) u = false
shares (Applied t s) u = shares t u || shares s u

-- whether t has a variable of one of these
abbrev pub is_tied : Clause → Term → Bool
is_tied [] t = false
is_tied (u ∷ c) t = shares u t || is_tied c t

-- the literals of c that have, or have not, a variable of one of these
abbrev pub tied : Clause → Clause → Clause
tied these [] = []
tied these (t ∷ c) = if is_tied these t then t ∷ tied these c else tied these c

abbrev pub untied : Clause → Clause → Clause
untied these [] = []
untied these (t ∷ c) = if is_tied these t then untied these c else t ∷ untied these c

-- the literals inside with those outside that are tied to them, so many times over
abbrev pub group_from : ℕ → Clause → Clause → Clause
group_from zero inside outside = inside
group_from (suc n) inside outside = group_from n (inside ++ tied inside outside) (untied inside outside)

-- the group of a literal: the least set of literals of the goal that has it and shares no variable with the others
abbrev pub group_of : Clause → Term → Clause
group_of goal t = group_from (length goal) (t ∷ []) (without t goal)

-- whether one of the literals, without its outer NOT, holds a recursive function
abbrev pub one_holds_recursive : History → Clause → Bool
one_holds_recursive h [] = false
one_holds_recursive h (t ∷ c) = holds_recursive h (atom_of t) || one_holds_recursive h c

-- whether the group is one literal that, without its outer NOT, is a call of a recursive function on distinct variables
abbrev pub is_lone_call : History → Clause → Bool
is_lone_call h [] = false
is_lone_call h (t ∷ []) = is_recursive_call h (atom_of t)
is_lone_call h (t ∷ u ∷ c) = false

-- whether the group says nothing of interest
abbrev pub is_irrelevant : History → Clause → Bool
is_irrelevant h group = not (one_holds_recursive h group) || is_lone_call h group

-- the literals of c that are none of these
abbrev pub others : Clause → Clause → Clause
others these [] = []
others these (t ∷ c) = if has_term t these then others these c else t ∷ others these c

abbrev pub is_empty : Clause → Bool
is_empty [] = true
is_empty (t ∷ c) = false

-- whether the group is irrelevant and not all of the goal
abbrev pub can_drop : History → Clause → Clause → Bool
can_drop h goal group = is_irrelevant h group && not (is_empty (others group goal))

-- the group of each of these literals that can be dropped
abbrev pub droppings_from : History → Clause → Clause → List Clause
droppings_from h goal [] = []
droppings_from h goal (t ∷ c) =
    elim (can_drop h goal (group_of goal t)) as (λ b. List Clause) [ true ↦ group_of goal t ∷ droppings_from h goal c | false ↦ droppings_from h goal c ]

-- all candidates of a goal: the groups that can be dropped, each once for each of its literals
abbrev pub droppings_of : History → Clause → List Clause
droppings_of h goal = droppings_from h goal goal

-- the group is a candidate in the goal; hints don't matter
abbrev pub DropCandidate : History → Hints → Clause → Clause → Type 0
DropCandidate h hints goal group = IsAmong group (droppings_of h goal)

-- the move leads from the goal to these goals alone
pub record DropMove (h : History) (hints : Hints) (path : List Clause) (goal : Clause) (nexts : List Clause) : Type 0 where
  pub group : Clause
  pub candidate : DropCandidate h hints goal group
  pub leads : nexts ≡ others group goal ∷ []
