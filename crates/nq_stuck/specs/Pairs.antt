-- Calls of two arguments, and the sides of equations and inequalities.
use Rattle.std.specs.Prelude.{◌≡◌, ℕ, true, false, List}
use Rattle.nq_logic.specs.Terms.{Term, Function, Applied}
use Rattle.nq_bank.specs.Content.{Content, Stands, IsNamed, text_at, term_at}
use Rattle.nq_goals.specs.Equations.{Equation}
use Rattle.nq_goals.specs.Replacing.{stands_in}
use Rattle.nq_goals.specs.Generalizing.{is_on_both_sides}
use Rattle.nq_stuck.specs.declared.equations.Couple.{Couple}
use Rattle.nq_stuck.specs.declared.equations.Sides.{Sides}

-- the term is this call of two arguments
abbrev pub CoupleIs : Content → Term → Couple → Type 0
CoupleIs bank t c = t ≡ Applied (Applied (Function (text_at bank c.function)) (term_at bank c.left)) (term_at bank c.right)

pub record CoupleStands (bank : Content) (c : Couple) : Type 0 where
  pub function : IsNamed bank c.function
  pub left : Stands bank c.left
  pub right : Stands bank c.right

-- the term is no call of two arguments
pub record HasNoCouple (t : Term) : Type 0 where
  pub none : (f : List ℕ) (a b : Term) → t ≡ Applied (Applied (Function f) a) b → ⊥

-- the equation of two ids
abbrev pub sides_at : Content → Sides → Equation
sides_at bank s = record { left = term_at bank s.left; right = term_at bank s.right }

pub record SidesStand (bank : Content) (s : Sides) : Type 0 where
  pub left : Stands bank s.left
  pub right : Stands bank s.right

-- what stands on both sides of the equation or inequality stands in these two
pub record Compares (t : Term) (sides : Equation) : Type 0 where
  pub left : (a : Term) → is_on_both_sides a t ≡ true → stands_in a sides.left ≡ true
  pub right : (a : Term) → is_on_both_sides a t ≡ true → stands_in a sides.right ≡ true

-- nothing stands on both sides
pub record ComparesNone (t : Term) : Type 0 where
  pub none : (a : Term) → is_on_both_sides a t ≡ false
