-- What it means that clauses are laws.
use Rattle.std.specs.Prelude.{List}
use Rattle.nq_logic.specs.Terms.{Term, Each}
use Rattle.nq_logic.specs.Formulas.{clause}
use Rattle.nq_logic.specs.Histories.{History}
use Rattle.nq_logic.specs.Derivations.{Derivable}

-- each of the clauses is derivable in every history
abbrev pub AreDerivable : List (List Term) → Type 0
AreDerivable laws = (h : History) → Each (λ c. Derivable h (clause c)) laws
