-- Recursive functions, argument by argument.
use Rattle.std.proofs.Common.{◌≡◌, ℕ, zero, suc, false, List, refl}
use Rattle.std.specs.Prelude.{codes}
use Rattle.nq_logic.specs.Terms.{Variable, Function}
use Rattle.nq_logic.specs.Words.{numeral}
use Rattle.nq_logic.specs.Histories.{History}
use Rattle.nq_goals.specs.Recursion.{is_recursive, holds_recursive}
use Rattle.nq_moves.proofs.AnswerLemmas.{Spreads}

pub holds-Variable : (h : History) (x : List ℕ) → false ≡ holds_recursive h (Variable x)
unfolding holds_recursive
holds-Variable h x = refl

pub holds-Function : (h : History) (f : List ℕ) → is_recursive h f ≡ holds_recursive h (Function f)
unfolding holds_recursive
holds-Function h f = refl

pub holds_spreads : (h : History) → Spreads (holds_recursive h)
unfolding holds_recursive
holds_spreads h t u = refl

-- ADD1 is no recursive function
pub holds-numeral : (h : History) (n : ℕ) → holds_recursive h (numeral n) ≡ is_recursive h (codes "ZERO")
unfolding holds_recursive numeral
holds-numeral h zero = refl
holds-numeral h (suc n) = holds-numeral h n
