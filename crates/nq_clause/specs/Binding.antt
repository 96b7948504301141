-- What variables are bound to, and when a match fits.
use Rattle.std.specs.Prelude.{◌≡◌, ◌<◌, Bool, MatchBool, IsTrue, None, List, ◌++◌, map, All}
use Rattle.nq_logic.specs.Terms.{Name, Term, IsAmong, Substitution, value_at, substituted}
use Rattle.nq_logic.specs.Words.{numeral}
use Rattle.nq_logic.specs.Numerals.{number_of, numeral_limit}
use Rattle.nq_logic.specs.Admissible.{AreDistinct}
use Rattle.nq_bank.specs.Parts.{occurs}
use Rattle.nq_bank.specs.Content.{Content, Stands, IsNamed, text_at, term_at}
use Rattle.nq_clause.specs.declared.binding.Bound.{Bound}
use Rattle.nq_clause.specs.declared.binding.Bound.TheVariants.{Term as Other, Num}
use Rattle.nq_clause.specs.declared.binding.Binding.{Binding}

-- the term that a variable is bound to
abbrev pub bound_at : Content → Bound → Term
bound_at bank (Other t) = term_at bank t
bound_at bank (Num n) = numeral n

-- it is a numeral, or a term of the bank that is none
abbrev pub BoundStands : Content → Bound → Type 0
BoundStands bank (Other t) = Stands bank t × (number_of (term_at bank t) ≡ None)
BoundStands bank (Num n) = n < numeral_limit

-- the substitution that bindings make
abbrev pub bindings_at : Content → List Binding → Substitution
bindings_at bank bindings = map (λ b. (text_at bank b.variable, bound_at bank b.bound)) bindings

-- the variable stands in the bank, and what it is bound to
pub record BindingStands (bank : Content) (b : Binding) : Type 0 where
  pub variable : IsNamed bank b.variable
  pub bound : BoundStands bank b.bound

-- the variables that a substitution binds
abbrev pub variables_of : Substitution → List Name
variables_of s = map (λ b. b.0) s

-- no variable is bound twice
abbrev pub BindsOnce : Substitution → Type 0
BindsOnce s = AreDistinct (variables_of s)

-- s gives each variable of r what r gives it
pub record Extends (s r : Substitution) : Type 0 where
  pub same : (x : Name) → IsAmong x (variables_of r) → value_at s x ≡ value_at r x

-- each variable of the term is bound
pub record BindsAll (s : Substitution) (t : Term) : Type 0 where
  pub bound : (x : Name) → IsTrue (occurs x t) → IsAmong x (variables_of s)

-- only variables of the term are bound
pub record BindsOnly (s : Substitution) (t : Term) : Type 0 where
  pub in_term : (x : Name) → IsAmong x (variables_of s) → IsTrue (occurs x t)

-- The bindings that stood, and more of variables of the pattern: they bind each variable of it, and take it to the target.
pub record Matches (bank : Content) (pattern target : Term) (old new : List Binding) : Type 0 where
  pub more : List Binding
  pub whole : new ≡ old ++ more
  pub only : BindsOnly (bindings_at bank more) pattern
  pub stand : All (BindingStands bank) new
  pub once : BindsOnce (bindings_at bank new)
  pub all : BindsAll (bindings_at bank new) pattern
  pub fits : substituted (bindings_at bank new) pattern ≡ target

-- no substitution that extends r takes the pattern to the target
pub record MatchesNone (r : Substitution) (pattern target : Term) : Type 0 where
  pub none : (s : Substitution) → Extends s r → substituted s pattern ≡ target → ⊥

-- the answer tells whether the bindings match, or no substitution does
abbrev pub TellsMatch : Bool → Content → Term → Term → List Binding → List Binding → Type 0
TellsMatch answer bank pattern target old new =
    MatchBool answer (Matches bank pattern target old new) (MatchesNone (bindings_at bank old) pattern target)
