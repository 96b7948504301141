-- Nests of one shell's accessors, and lines that say that they are smaller.
use Rattle.std.specs.Prelude.{◌≡◌, ℕ, List, ◌∷◌, map, Some, None}
use Rattle.nq_logic.specs.Terms.{Name, Term, Function, Applied, IsAmong, Each}
use Rattle.nq_logic.specs.Words.{not_term}
use Rattle.nq_logic.specs.Histories.{History, Shell, Part}
use Rattle.nq_kernel.specs.declared.work.Work.{Work}
use Rattle.nq_arith.specs.Nests.{accessor_of, is_smaller, is_below, nest, AreGuarded, IsShellOf}
use Rattle.nq_arith.specs.Structural.{IsStructuralNest}
use Rattle.nq_lines.specs.Lines.{AreAmong, LineHasOnly}
use Rattle.nq_decrease.specs.declared.level.Level.{Level}
use Rattle.nq_decrease.specs.declared.kind.Kind.{Kind}
use Rattle.nq_decrease.specs.Levels.{part_of, tests_of, kind_at}

-- t is a nest of one or more of the shell's accessors around x, and the tests say so at each level
pub record IsNestOf (s : Shell) (tests : List Term) (x t : Term) : Type 0 where
  pub first : Part
  pub rest : List Part
  pub parts : Each (λ part. IsAmong part s.parts) (first ∷ rest)
  pub is : t ≡ nest x (first ∷ rest)
  pub guarded : AreGuarded tests s x (first ∷ rest)

-- it is, and line n has only that it is smaller than x, and the NOTs of the tests
pub record IsNestLine (work : Work) (s : Shell) (tests : List Term) (x t : Term) (n : ℕ) : Type 0 where
  pub is : IsNestOf s tests x t
  pub line : LineHasOnly work n (is_smaller t x ∷ map not_term tests)

-- t is a nest of the accessors of a shell of the history, and line n has only that it is smaller than x, and the NOTs of the tests
pub record IsShellNestLine (h : History) (work : Work) (tests : List Term) (x t : Term) (n : ℕ) : Type 0 where
  pub shell : Shell
  pub here : IsShellOf h shell
  pub line : IsNestLine work shell tests x t n

-- t is structural around x, and line n has only that it is below x, and the NOTs of the tests
pub record IsDecreaseLine (h : History) (work : Work) (tests : List Term) (x t : Term) (n : ℕ) : Type 0 where
  pub structural : IsStructuralNest h x tests t
  pub line : LineHasOnly work n (is_below t x ∷ map not_term tests)

-- line n has that t is smaller than z, from a line that t is smaller than y and one that y is smaller than z
abbrev pub JoinsSizes : Work → Work → Term → Term → Term → ℕ → ℕ → ℕ → Type 0
JoinsSizes old new t y z first second n =
    (these : List Term) → LineHasOnly old first (is_smaller t y ∷ these) → LineHasOnly old second (is_smaller y z ∷ these) → LineHasOnly new n (is_smaller t z ∷ these)

-- line n has that the part of y is smaller than z, from a line that y is smaller than z, where the tests of the level are denied
abbrev pub AddsLevel : Work → Work → Level → Term → Term → ℕ → ℕ → Type 0
AddsLevel old new level y z inner n =
    (these : List Term) → LineHasOnly old inner (is_smaller y z ∷ these) → AreAmong (map not_term (tests_of level y)) these → LineHasOnly new n (is_smaller (accessor_of (part_of level) y) z ∷ these)

-- line n has that t is below z, from a line that it is smaller
abbrev pub Lowers : Work → Work → Term → Term → ℕ → ℕ → Type 0
Lowers old new t z line n = (these : List Term) → LineHasOnly old line (is_smaller t z ∷ these) → LineHasOnly new n (is_below t z ∷ these)

-- the term is the call of an accessor of this shell
pub record IsOfShell (t : Term) (kind : Kind) : Type 0 where
  pub accessor : List ℕ
  pub argument : Term
  pub whole : t ≡ Applied (Function accessor) argument
  pub kind_is : kind_at accessor ≡ Some kind

-- the term is no call of an accessor of a ground shell
abbrev pub IsOfNoShell : Term → Type 0
IsOfNoShell t = (f : Name) (u : Term) → t ≡ Applied (Function f) u → kind_at f ≡ None
