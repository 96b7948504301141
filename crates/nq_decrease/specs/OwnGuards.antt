-- Tests that say that the constructor of a user's shell made a term.
use Rattle.std.specs.Prelude.{◌≡◌, ⊤, Option, Some, None, List, false, bytes_eq, codes, if◌then◌else◌}
use Rattle.nq_logic.specs.Terms.{Name, Term, Function, Applied}
use Rattle.nq_logic.specs.Words.{not_term, equal_term}
use Rattle.nq_logic.specs.Histories.{Shell}
use Rattle.nq_logic.specs.Ground.{numbers, pairs}
use Rattle.nq_logic.specs.Shells.{recognizes}
use Rattle.nq_proof.specs.Clauses.{has_term}
use Rattle.nq_arith.specs.Nests.{IsGuarded}
use Rattle.nq_bank.specs.declared.node.Sym.{Sym}
use Rattle.nq_bank.specs.Content.{Content, IsNamed, text_at}
use Rattle.nq_decrease.specs.declared.own_tests.OwnTest.{OwnTest}
use Rattle.nq_decrease.specs.declared.own_tests.OwnTest.TheVariants.{Recognizes, NoBase, NoBaseTurned}
use Rattle.nq_decrease.specs.declared.own_tests.OwnGuard.{OwnGuard}
use Rattle.nq_decrease.specs.declared.own_tests.OwnGuard.TheVariants.{Recognized, Unequal, UnequalTurned}

-- the test, of the term y
abbrev pub own_test : Content → OwnTest → Term → Term
own_test bank (Recognizes r) y = Applied (Function (text_at bank r)) y
own_test bank (NoBase b) y = not_term (equal_term y (Function (text_at bank b)))
own_test bank (NoBaseTurned b) y = not_term (equal_term (Function (text_at bank b)) y)

-- a name other than ADD1, of which a call may be a numeral
pub record IsNoSuccessor (bank : Content) (r : Sym) : Type 0 where
  pub named : IsNamed bank r
  pub other : bytes_eq (text_at bank r) (codes "ADD1") ≡ false

-- a name other than ZERO, which is a numeral
pub record IsNoZero (bank : Content) (b : Sym) : Type 0 where
  pub named : IsNamed bank b
  pub other : bytes_eq (text_at bank b) (codes "ZERO") ≡ false

abbrev pub IsOwnTest : Content → OwnTest → Type 0
IsOwnTest bank (Recognizes r) = IsNoSuccessor bank r
IsOwnTest bank (NoBase b) = IsNoZero bank b
IsOwnTest bank (NoBaseTurned b) = IsNoZero bank b

-- no base, or one other than ZERO
abbrev pub IsOtherBase : Option Name → Type 0
IsOtherBase None = ⊤
IsOtherBase (Some b) = bytes_eq b (codes "ZERO") ≡ false

-- a shell other than those of lists and of numbers, whose tests have further spellings
pub record IsUserShell (s : Shell) : Type 0 where
  pub no_list : s ≡ pairs → ⊥
  pub no_number : s ≡ numbers → ⊥
  pub recognizer : bytes_eq s.recognizer (codes "ADD1") ≡ false
  pub base : IsOtherBase s.base

-- how the tests say that y is not this base
abbrev pub base_guard : Name → Term → List Term → Option OwnGuard
base_guard b y tests =
    if has_term (not_term (equal_term y (Function b))) tests then Some Unequal else if has_term (not_term (equal_term (Function b) y)) tests then Some UnequalTurned else None

abbrev pub guard_with : Option Name → Term → List Term → Option OwnGuard
guard_with None y tests = Some Recognized
guard_with (Some b) y tests = base_guard b y tests

-- how the tests say that the constructor of the shell made y
abbrev pub guard_at : Shell → Term → List Term → Option OwnGuard
guard_at s y tests = if has_term (recognizes s y) tests then guard_with s.base y tests else None

-- The tests say so exactly where there is a guard.
abbrev pub GuardIsExact : Type 0
GuardIsExact = (s : Shell) (y : Term) (tests : List Term) → IsUserShell s → (IsGuarded tests s y → guard_at s y tests ≡ None → ⊥) × ((g : OwnGuard) → guard_at s y tests ≡ Some g → IsGuarded tests s y)
