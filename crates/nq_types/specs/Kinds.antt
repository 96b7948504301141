-- Terms whose kind stands in them: T, F, the bases of shells, and calls of constructors. Values are among them.
use Rattle.std.specs.Prelude.{◌≡◌, ◌+◌, ℕ, true, List, Option, Some, None, slice_get, length}
use Rattle.nq_logic.specs.Terms.{Term, Function, call}
use Rattle.nq_logic.specs.Words.{true_term, false_term}
use Rattle.nq_logic.specs.Values.{is_value}
use Rattle.nq_logic.specs.Histories.{History, Shell}
use Rattle.nq_logic.specs.ShellPrinciple.{shells_of}
use Rattle.nq_types.specs.declared.kinds.Kind.{Kind}
use Rattle.nq_types.specs.declared.kinds.Kind.TheVariants.{Truth, Falsity, Base, Made, Other}

-- the term is the base of the shell at this place
pub record IsBaseAt (h : History) (t : Term) (place : ℕ) : Type 0 where
  pub shell : Shell
  pub at : slice_get (shells_of h) place ≡ Some shell
  pub base : List ℕ
  pub has : shell.base ≡ Some base
  pub is : t ≡ Function base

-- the term is a call of the constructor of the shell at this place
pub record IsMadeAt (h : History) (t : Term) (place : ℕ) : Type 0 where
  pub shell : Shell
  pub at : slice_get (shells_of h) place ≡ Some shell
  pub arguments : List Term
  pub count : length arguments ≡ length shell.parts
  pub is : t ≡ call shell.constructor arguments

-- the bit of the recognizer of a term that is T, F, a base or a call of a constructor
pub data IsOfKind (h : History) (t : Term) : ℕ → Type 0 where
  of_truth : t ≡ true_term → IsOfKind h t 0
  of_falsity : t ≡ false_term → IsOfKind h t 1
  of_base : (k : ℕ) → IsBaseAt h t k → IsOfKind h t (k + 2)
  of_made : (k : ℕ) → IsMadeAt h t k → IsOfKind h t (k + 2)

-- what a kind says of a term
abbrev pub HasKind : History → Term → Kind → Type 0
HasKind h t Truth = t ≡ true_term
HasKind h t Falsity = t ≡ false_term
HasKind h t (Base k) = IsBaseAt h t k
HasKind h t (Made k) = IsMadeAt h t k
HasKind h t Other = (k : ℕ) → IsOfKind h t k → ⊥

-- the bit of a kind, if it has one
abbrev pub bit_of : Kind → Option ℕ
bit_of Truth = Some 0
bit_of Falsity = Some 1
bit_of (Base k) = Some (k + 2)
bit_of (Made k) = Some (k + 2)
bit_of Other = None

-- each value is so
abbrev pub ValuesHaveKinds : Type 0
ValuesHaveKinds = (h : History) (t : Term) → is_value t ≡ true → (k : ℕ) × IsOfKind h t k
