-- When one substitution takes terms to others, and room for what it binds.
use Rattle.std.specs.Prelude.{◌≡◌, ◌≤◌, ℕ, List, length}
use Rattle.nq_logic.specs.Terms.{Name, Term, IsAmong, Each, Substitution, substituted}
use Rattle.nq_logic.specs.Admissible.{HasVariables}
use Rattle.nq_clause.specs.Binding.{variables_of, Extends}

-- one substitution takes each of the terms c to one of d
pub record Subsumes (c d : List Term) : Type 0 where
  pub substitution : Substitution
  pub takes : Each (λ t. IsAmong (substituted substitution t) d) c

-- as many bindings as the terms have variables are not too many
pub record HasRoom (room : ℕ) (ts : List Term) : Type 0 where
  pub names : List Name
  pub all : Each (HasVariables names) ts
  pub enough : length names ≤ room

-- the same, with the variables that are bound
pub record HasRoomWith (room : ℕ) (r : Substitution) (ts : List Term) : Type 0 where
  pub names : List Name
  pub bound : (x : Name) → IsAmong x (variables_of r) → IsAmong x names
  pub all : Each (HasVariables names) ts
  pub enough : length names ≤ room

-- a substitution that extends r takes each of the terms c to one of d
pub record SubsumesFrom (r : Substitution) (c d : List Term) : Type 0 where
  pub substitution : Substitution
  pub extends : Extends substitution r
  pub takes : Each (λ t. IsAmong (substituted substitution t) d) c

-- no substitution that extends r takes t to u, and each of the terms c to one of d
pub record SubsumesNone (r : Substitution) (t u : Term) (c d : List Term) : Type 0 where
  pub none : (s : Substitution) → Extends s r → substituted s t ≡ u → Each (λ v. IsAmong (substituted s v) d) c → ⊥
