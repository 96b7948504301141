-- Parts of a user's shell's value, and the tests under which they are smaller than the value.
use Rattle.std.specs.Prelude.{◌≡◌, ℕ, Option, Some, None, List, [], ◌∷◌, map, slice_get, bytes_eq, false}
use Rattle.nq_logic.specs.Terms.{Name, Term, Function, IsAmong, Each}
use Rattle.nq_logic.specs.Words.{not_term, equal_term}
use Rattle.nq_logic.specs.Histories.{Part, Shell}
use Rattle.nq_logic.specs.Shells.{recognizes}
use Rattle.nq_arith.specs.Nests.{accessor_of, is_smaller, IsGuarded}
use Rattle.nq_kernel.specs.declared.work.Work.{Work}
use Rattle.nq_lines.specs.Lines.{AreAmong, LineHasOnly}
use Rattle.nq_shell_parts.specs.LawClauses.{equation_by_itself_clause, equation_by_turned_clause}
use Rattle.nq_decrease.specs.declared.own_tests.OwnGuard.{OwnGuard}
use Rattle.nq_decrease.specs.declared.own_tests.OwnGuard.TheVariants.{Recognized, Unequal, UnequalTurned}
use Rattle.nq_decrease.specs.declared.own_level.OwnLevel.{OwnLevel}

-- the test that says that y is not u, in this way
abbrev pub unequal_test : OwnGuard → Term → Term → Term
unequal_test Recognized y u = not_term (equal_term y u)
unequal_test Unequal y u = not_term (equal_term y u)
unequal_test UnequalTurned y u = not_term (equal_term u y)

-- the tests that say that y is not the base, in this way
abbrev pub base_tests : OwnGuard → Option Name → Term → List Term
base_tests guard None y = []
base_tests guard (Some b) y = unequal_test guard y (Function b) ∷ []

-- the tests that say that the shell made y, in this way
abbrev pub made_tests : Shell → OwnGuard → Term → List Term
made_tests s guard y = recognizes s y ∷ base_tests guard s.base y

-- the part of this accessor at a place
pub record HasAccessor (parts : List Part) (f : Name) (place : ℕ) : Type 0 where
  pub part : Part
  pub at : slice_get parts place ≡ Some part
  pub accessor : f ≡ part.accessor

-- no part has this accessor
abbrev pub IsNoAccessor : List Part → Name → Type 0
IsNoAccessor parts f = Each (λ part. bytes_eq f part.accessor ≡ false) parts

-- f is the accessor of the level's part, and the tests say that the shell made y
pub record IsOwnLevelOf (s : Shell) (f : Name) (y : Term) (tests : List Term) (level : OwnLevel) : Type 0 where
  pub has : HasAccessor s.parts f level.place
  pub guarded : IsGuarded tests s y
  pub among : AreAmong (made_tests s level.guard y) tests

-- f is no accessor of the shell, or the tests do not say that the shell made y
abbrev pub HasNoOwnLevel : Shell → Name → Term → List Term → Type 0
HasNoOwnLevel s f y tests = (part : Part) → IsAmong part s.parts → f ≡ part.accessor → IsGuarded tests s y → ⊥

-- the line says that the part of y is smaller than y, where the tests say that the shell made y
abbrev pub OwnLevelLine : Work → Shell → OwnLevel → Term → ℕ → Type 0
OwnLevelLine work s level y n = (part : Part) → slice_get s.parts level.place ≡ Some part → LineHasOnly work n (is_smaller (accessor_of part y) y ∷ map not_term (made_tests s level.guard y))

-- line n has that the part of y is smaller than z, from a line that y is smaller than z, where the tests of the level are denied
abbrev pub AddsOwnLevel : Work → Work → Shell → OwnLevel → Term → Term → ℕ → ℕ → Type 0
AddsOwnLevel old new s level y z inner n =
    (part : Part) (these : List Term) → slice_get s.parts level.place ≡ Some part → LineHasOnly old inner (is_smaller y z ∷ these) → AreAmong (map not_term (made_tests s level.guard y)) these →
    LineHasOnly new n (is_smaller (accessor_of part y) z ∷ these)

-- t is what the accessor at a place takes from y
abbrev pub IsPartAt : Shell → ℕ → Term → Term → Type 0
IsPartAt s place y t = (part : Part) → slice_get s.parts place ≡ Some part → t ≡ accessor_of part y

-- that y is the base
abbrev pub is_this_base : Option Name → Term → List Term
is_this_base None y = []
is_this_base (Some b) y = equal_term y (Function b) ∷ []

-- the line says that the part of y at a place is smaller than y, or y is not of the shell's kind, or it is the base
abbrev pub PartOrBaseLine : Work → Shell → ℕ → Term → ℕ → Type 0
PartOrBaseLine work s place y n = (part : Part) → slice_get s.parts place ≡ Some part → LineHasOnly work n (is_smaller (accessor_of part y) y ∷ not_term (recognizes s y) ∷ is_this_base s.base y)

-- the law that a test denies an equation, over the variables X and Y
abbrev pub denial_clause : OwnGuard → List Term
denial_clause Recognized = equation_by_itself_clause
denial_clause Unequal = equation_by_itself_clause
denial_clause UnequalTurned = equation_by_turned_clause

-- line n is another with the NOT of the test that y is not u, for the equation of y and u
abbrev pub DeniesEquation : Work → Work → OwnGuard → Term → Term → ℕ → ℕ → Type 0
DeniesEquation old new guard y u line n = (these : List Term) → LineHasOnly old line (equal_term y u ∷ these) → LineHasOnly new n (not_term (unequal_test guard y u) ∷ these)
