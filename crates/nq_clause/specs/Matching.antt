-- What is known while a pattern is matched.
use Rattle.std.specs.Prelude.{◌≡◌, ℕ, nat_eq, Some, List, [], length}
use Rattle.std.specs.declared.hash.FoldHasher.{FoldHasher}
use Rattle.std.specs.declared.hash.BuildHasherDefault.{BuildHasherDefault}
use Rattle.std.specs.HashMap.{get, HashMap}
use Rattle.nq_logic.specs.Terms.{Name, Term, call, Substitution, substituted}
use Rattle.nq_bank.specs.declared.node.TermId.{TermId}
use Rattle.nq_bank.specs.Parts.{arguments_before}
use Rattle.nq_bank.specs.Content.{Content, term_at}
use Rattle.nq_clause.specs.declared.binding.Bound.{Bound}
use Rattle.nq_clause.specs.Binding.{bound_at, BoundStands, BindsAll}

-- the arguments of a call; a numeral above 0 has one
abbrev pub arguments_of : Term → List Term
arguments_of t = arguments_before t []

-- the term is a call of f with n arguments
pub record IsCallOf (f : Name) (n : ℕ) (t : Term) : Type 0 where
  pub is : t ≡ call f (arguments_of t)
  pub count : length (arguments_of t) ≡ n

-- s binds each variable of the pattern, and takes it to the target
pub record IsMatched (bank : Content) (s : Substitution) (pattern : Term) (target : Bound) : Type 0 where
  pub stands : BoundStands bank target
  pub all : BindsAll s pattern
  pub fits : substituted s pattern ≡ bound_at bank target

-- bounds by the places of terms
abbrev pub Bounds : Type 0
Bounds = HashMap ℕ Bound (BuildHasherDefault FoldHasher)

-- each term that is known is matched with its bound
pub record HasMatches (bank : Content) (s : Substitution) (known : Bounds) : Type 0 where
  pub right : (t : TermId) (b : Bound) → get nat_eq known t.0 ≡ Some b → IsMatched bank s (term_at bank t) b
