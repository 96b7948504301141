-- What goals stand for beside further formulas.
use Rattle.std.proofs.Common.{◌≡◌, List, [], ◌∷◌, map, refl, ap}
use Rattle.nq_logic.specs.Terms.{Each}
use Rattle.nq_logic.specs.Formulas.{Or, IsFormula, Formula, clause}
use Rattle.nq_logic.specs.Histories.{History}
use Rattle.nq_logic.specs.Ground.{symbols_of}
use Rattle.nq_logic.specs.Derivations.{Derivable}
use Rattle.nq_proof.specs.Clauses.{Clause}
use Rattle.nq_cases.specs.Simplifying.{clauses}

-- beside each formula beside which all of these stand, the goal stands; this composes, and gives the implication
pub record Gathers (h : History) (nexts : List Clause) (goal : Clause) : Type 0 where
  pub beside : (f : Formula) → IsFormula (symbols_of h) f → Each (λ next. Derivable h (Or f (clause next))) nexts → Derivable h (Or f (clause goal))

pub clauses_are : (nexts : List Clause) → map clause nexts ≡ clauses nexts
clauses_are [] = refl
clauses_are (c ∷ nexts) = ap (λ fs. clause c ∷ fs) (clauses_are nexts)
