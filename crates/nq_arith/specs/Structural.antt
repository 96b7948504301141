-- Structural definitions: a formal of which each recursive call takes a part.
use Rattle.std.specs.Prelude.{◌≡◌, ℕ, false, List, ◌∷◌, length}
use Rattle.nq_logic.specs.Terms.{Term, Variable, IsTerm, IsAmong, Each, value_at}
use Rattle.nq_logic.specs.Words.{call1}
use Rattle.nq_logic.specs.Histories.{History, Shell, Part, Definition}
use Rattle.nq_logic.specs.Ground.{symbols_of}
use Rattle.nq_logic.specs.Names.{is_in_use}
use Rattle.nq_logic.specs.Admissible.{matched, calls_of, IsMeasure}
use Rattle.nq_proof.specs.Closed.{MeetsShellPrinciple}
use Rattle.nq_arith.specs.Nests.{IsShellOf, nest, AreGuarded}

-- t is a nest of one or more accessors of one shell around x, and the tests say at each level that the constructor made the
-- term there
pub record IsStructuralNest (h : History) (x : Term) (tests : List Term) (t : Term) : Type 0 where
  pub shell : Shell
  pub here : IsShellOf h shell
  pub first : Part
  pub rest : List Part
  pub parts : Each (λ part. IsAmong part shell.parts) (first ∷ rest)
  pub is : t ≡ nest x (first ∷ rest)
  pub guarded : AreGuarded tests shell x (first ∷ rest)

-- the formal is structural in the body: every recursive call has such a nest in its place, under the tests that govern it
abbrev pub IsStructuralIn : History → Definition → List ℕ → Type 0
IsStructuralIn h d x = Each (λ c. IsStructuralNest h (Variable x) c.tests (value_at (matched d.formals c.arguments) x)) (calls_of d.function d.body)

-- a structural definition: some formal is structural in the body
pub record IsStructural (h : History) (d : Definition) : Type 0 where
  pub formal : List ℕ
  pub is_formal : IsAmong formal d.formals
  pub descends : IsStructuralIn h d formal

-- The size of a structural formal is a measure of the definition, so that the Definition Principle holds by it.
abbrev pub StructuralIsMeasured : Type 0
StructuralIsMeasured =
    (h : History) (d : Definition) (x : List ℕ) → MeetsShellPrinciple h → is_in_use d.function h ≡ false → IsTerm ((d.function, length d.formals) ∷ symbols_of h) d.body → IsAmong x d.formals →
    IsStructuralIn h d x → IsMeasure h d (call1 "COUNT" (Variable x))
