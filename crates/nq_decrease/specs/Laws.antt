-- What is told of structural nests besides the lines.
use Rattle.std.specs.Prelude.{◌≡◌, false, List, not, filter}
use Rattle.nq_logic.specs.Terms.{Name, Term, Variable}
use Rattle.nq_logic.specs.Histories.{History}
use Rattle.nq_logic.specs.Names.{is_in_use}
use Rattle.nq_logic.specs.Admissible.{mentions}
use Rattle.nq_proof.specs.Closed.{MeetsShellPrinciple}
use Rattle.nq_arith.specs.Structural.{IsStructuralNest}

-- the tests that do not mention the function
abbrev pub without_function : Name → List Term → List Term
without_function f tests = filter (λ t. not (mentions f t)) tests

-- The tests that mention a function that is not in use say nothing of a structural nest: it stays one without them.
abbrev pub StructuralWithout : Type 0
StructuralWithout = (h : History) (f x : Name) (tests : List Term) (t : Term) → MeetsShellPrinciple h → is_in_use f h ≡ false → IsStructuralNest h (Variable x) tests t → IsStructuralNest h (Variable x) (without_function f tests) t

-- and it is one with them
abbrev pub StructuralWith : Type 0
StructuralWith = (h : History) (f x : Name) (tests : List Term) (t : Term) → IsStructuralNest h (Variable x) (without_function f tests) t → IsStructuralNest h (Variable x) tests t
