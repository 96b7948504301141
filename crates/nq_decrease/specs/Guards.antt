-- Tests of a term, and the calls and equations that they are made of.
use Rattle.std.specs.Prelude.{◌≡◌, ◌<◌, Bool, true, bytes_eq, ◌&&◌, not, nat_lt, codes, ⊤}
use Rattle.nq_logic.specs.Terms.{Name, Term, Function, Applied}
use Rattle.nq_logic.specs.Words.{not_term, equal_term, zero_term}
use Rattle.nq_bank.specs.declared.node.Sym.{Sym}
use Rattle.nq_bank.specs.declared.node.TermId.{TermId}
use Rattle.nq_bank.specs.Content.{Content, Stands, IsNamed, text_at, term_at}
use Rattle.nq_bank.specs.Soundness.{ground_text}
use Rattle.nq_decrease.specs.declared.calls.OneCall.{OneCall}
use Rattle.nq_decrease.specs.declared.calls.Equation.{Equation}
use Rattle.nq_decrease.specs.declared.guard.Guard.{Guard}
use Rattle.nq_decrease.specs.declared.guard.Guard.TheVariants.{Call, Denial, NoZero, NoZeroTurned}

-- the term is no call of one argument, but for the calls of ADD1 that are numerals
abbrev pub IsNoCall : Term → Type 0
IsNoCall t = (f : Name) (u : Term) → t ≡ Applied (Function f) u → f ≡ codes "ADD1"

-- the term is the function's call of the argument, which stands before it
pub record IsOneCall (bank : Content) (t : TermId) (c : OneCall) : Type 0 where
  pub function : IsNamed bank c.function
  pub argument : Stands bank c.argument
  pub before : c.argument.0 < t.0
  pub whole : term_at bank t ≡ Applied (Function (text_at bank c.function)) (term_at bank c.argument)

-- the term is no equation
abbrev pub IsNoEquation : Term → Type 0
IsNoEquation t = (a b : Term) → t ≡ equal_term a b → ⊥

-- the term is the equation of these
pub record IsEquationOf (bank : Content) (t : TermId) (e : Equation) : Type 0 where
  pub left : Stands bank e.left
  pub right : Stands bank e.right
  pub whole : term_at bank t ≡ equal_term (term_at bank e.left) (term_at bank e.right)

-- whether this is the place of a ground name other than ADD1
abbrev pub is_test_name : Sym → Bool
is_test_name f = nat_lt f.0 48 && not (bytes_eq (ground_text f) (codes "ADD1"))

-- the function's call of y
abbrev pub call_of : Sym → Term → Term
call_of f y = Applied (Function (ground_text f)) y

-- the test, of the term y
abbrev pub test_of : Guard → Term → Term
test_of (Call f) y = call_of f y
test_of (Denial f) y = not_term (call_of f y)
test_of NoZero y = not_term (equal_term y zero_term)
test_of NoZeroTurned y = not_term (equal_term zero_term y)

-- the function of the test is a ground function other than ADD1
abbrev pub IsGuardNamed : Guard → Type 0
IsGuardNamed (Call f) = is_test_name f ≡ true
IsGuardNamed (Denial f) = is_test_name f ≡ true
IsGuardNamed NoZero = ⊤
IsGuardNamed NoZeroTurned = ⊤
