-- What is found in a goal of ids, and the moves that are made of it.
use Rattle.std.specs.Prelude.{◌≡◌, List, [], ◌∷◌, map, All, Option, MatchOption, Vec}
use Rattle.std.specs.declared.alloc.Global.{Global}
use Rattle.nq_logic.specs.Terms.{IsAmong}
use Rattle.nq_bank.specs.Content.{Content, Stands, IsNamed, text_at, term_at, terms_at}
use Rattle.nq_bank.specs.declared.node.TermId.{TermId}
use Rattle.nq_proof.specs.Clauses.{Clause}
use Rattle.nq_goals.specs.Equations.{Equation}
use Rattle.nq_goals.specs.Substituting.{Substituting, substitutions_of, substituted_goal}
use Rattle.nq_kernel.specs.declared.verdict.MoveKind.TheVariants as kind
use Rattle.nq_moves.specs.declared.moved.Moved.{Moved}
use Rattle.nq_moves.specs.declared.equations.Sides.{Sides}
use Rattle.nq_moves.specs.declared.substituting.Found.{Found}

-- the equation of two ids
abbrev pub sides_at : Content → Sides → Equation
sides_at bank s = record { left = term_at bank s.left; right = term_at bank s.right }

pub record SidesStand (bank : Content) (s : Sides) : Type 0 where
  pub left : Stands bank s.left
  pub right : Stands bank s.right

-- a candidate of SUBST over ids
abbrev pub substituting_at : Content → Found → Substituting
substituting_at bank f = record { literal = term_at bank f.literal; variable = text_at bank f.variable; term = term_at bank f.term }

pub record FoundStands (bank : Content) (f : Found) : Type 0 where
  pub literal : Stands bank f.literal
  pub variable : IsNamed bank f.variable
  pub term : Stands bank f.term

pub record IsFound (bank : Content) (list : List Substituting) (f : Found) : Type 0 where
  pub stands : FoundStands bank f
  pub among : IsAmong (substituting_at bank f) list

-- a candidate is found exactly where there is one
abbrev pub FindsOne : Content → List Substituting → Option Found → Type 0
FindsOne bank list found = MatchOption found (list ≡ []) (IsFound bank list)

-- the goals over ids
abbrev pub goals_at : Content → List (Vec TermId Global) → List Clause
goals_at bank goals = map (λ goal. terms_at bank goal.items) goals

pub record GoalsStand (bank : Content) (goals : List (Vec TermId Global)) : Type 0 where
  pub each : All (λ goal. All (Stands bank) goal.items) goals

-- a move of SUBST from the goal was made, of this candidate
pub record IsSubstituted (old new : Content) (goal : List TermId) (moved : Moved) : Type 0 where
  pub kind : moved.why.kind ≡ kind.Subst
  pub found : Found
  pub is : IsFound old (substitutions_of (terms_at old goal)) found
  pub leads : goals_at new moved.children.items ≡ substituted_goal (substituting_at old found) (terms_at old goal) ∷ []
  pub stand : GoalsStand new moved.children.items
  pub pairs : moved.why.pairs.items ≡ record { variable = found.variable; term = found.term } ∷ []
  pub literals : moved.why.literals.items ≡ found.literal ∷ []
