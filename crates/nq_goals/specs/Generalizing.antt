-- GEN: terms that stand on two sides are replaced by new variables.
use Rattle.std.specs.Prelude.{◌≡◌, ℕ, suc, Bool, true, false, ◌&&◌, ◌||◌, not, nat_le, if◌then◌else◌, List, [], ◌∷◌, ◌++◌, map, length, codes}
use Rattle.nq_logic.specs.Terms.{Name, Term, Variable, Function, Applied, IsAmong, Each}
use Rattle.nq_logic.specs.Words.{not_term}
use Rattle.nq_logic.specs.Histories.{History}
use Rattle.nq_logic.specs.ShellPrinciple.{shells_of, recognizers}
use Rattle.nq_logic.specs.RuleShapes.{is_call}
use Rattle.nq_logic.specs.Values.{is_value}
use Rattle.nq_logic.specs.Formulas.{clause}
use Rattle.nq_logic.specs.Derivations.{Derivable}
use Rattle.nq_proof.specs.Clauses.{Clause, distinct}
use Rattle.nq_proof.specs.Paths.{is_function}
use Rattle.nq_events.specs.Events.{Hints}
use Rattle.nq_goals.specs.Occurrences.{atom_of}
use Rattle.nq_goals.specs.Functions.{accessors, constructors, is_call_among, propositional}
use Rattle.nq_goals.specs.Replacing.{Exchange, parts_in_all, stands_in, exchanged}
use Rattle.nq_goals.specs.NewVariables.{new_variables, used_variables}

-- the functions whose calls are not generalized: a shell's base is none of them
abbrev pub kept_functions : History → List Name
kept_functions h =
    accessors (shells_of h) ++ (constructors (shells_of h) ++ (recognizers (shells_of h) ++ (codes "EQUAL" ∷ codes "LESSP" ∷ propositional)))

-- in how many of the literals the term stands
abbrev pub literals_with : Term → Clause → ℕ
literals_with a [] = 0
literals_with a (t ∷ c) = if stands_in a t then suc (literals_with a c) else literals_with a c

-- whether the term stands on both sides of an EQUAL or a LESSP
abbrev pub is_on_both_sides : Term → Term → Bool
is_on_both_sides a (Variable x) = false
is_on_both_sides a (Function f) = false
is_on_both_sides a (Applied (Variable x) u) = false
is_on_both_sides a (Applied (Function f) u) = false
is_on_both_sides a (Applied (Applied f t) u) = (is_function "EQUAL" f || is_function "LESSP" f) && stands_in a t && stands_in a u

-- the same of one of these literals without its outer NOT
abbrev pub is_on_both_sides_of_one : Term → Clause → Bool
is_on_both_sides_of_one a [] = false
is_on_both_sides_of_one a (t ∷ c) = is_on_both_sides a (atom_of t) || is_on_both_sides_of_one a c

-- whether a call in the goal may be generalized
abbrev pub can_generalize : History → Clause → Term → Bool
can_generalize h goal t =
    is_call t && not (is_value t) && not (is_call_among (kept_functions h) t)
    && (nat_le 2 (literals_with t goal) || is_on_both_sides_of_one t goal)

abbrev pub chosen_from : (Term → Bool) → List Term → List Term
chosen_from test [] = []
chosen_from test (t ∷ ts) = elim (test t) as (λ b. List Term) [ true ↦ t ∷ chosen_from test ts | false ↦ chosen_from test ts ]

-- all candidates of a goal, each once; under DO-NOT-GENERALIZE there is none
abbrev pub generalizings_of : History → Hints → Clause → List Term
generalizings_of h hints goal = if hints.no_generalize then [] else distinct (chosen_from (can_generalize h goal) (parts_in_all goal))

abbrev pub GeneralizeCandidate : History → Hints → Clause → Term → Type 0
GeneralizeCandidate h hints goal t = IsAmong t (generalizings_of h hints goal)

-- each term with its variable
abbrev pub exchange_of : List Term → List Name → Exchange
exchange_of [] xs = []
exchange_of (t ∷ ts) [] = []
exchange_of (t ∷ ts) (x ∷ xs) = (t, Variable x) ∷ exchange_of ts xs

-- a fact that is derivable
abbrev pub IsFact : History → Term → Type 0
IsFact h l = Derivable h (clause (l ∷ []))

-- The move leads from the goal to these goals alone: to the goal with its candidates among some terms replaced by new
-- variables, one for each, and with added facts, in which the variables have taken the terms' places too.
pub record GeneralizeMove (h : History) (hints : Hints) (path : List Clause) (goal : Clause) (nexts : List Clause) : Type 0 where
  pub first : Term
  pub more : List Term
  pub candidates : Each (GeneralizeCandidate h hints goal) (first ∷ more)
  pub apart : distinct (first ∷ more) ≡ first ∷ more
  pub facts : List Term
  pub are_facts : Each (IsFact h) facts
  pub leads :
      nexts
      ≡ distinct (map (exchanged (exchange_of (first ∷ more) (new_variables (used_variables path goal) (length (first ∷ more))))) (goal ++ map not_term facts)) ∷ []
