-- What a GEN promises.
use Rattle.std.specs.Prelude.{◌≡◌, ℕ, false, List}
use Rattle.nq_logic.specs.Terms.{Name, Term, IsAmong}
use Rattle.nq_bank.specs.Parts.{occurs}
use Rattle.nq_proof.specs.Clauses.{Clause}
use Rattle.nq_goals.specs.NewVariables.{new_variables, used_variables}

-- The variables that come in are in no term of the goal, nor of an earlier goal of the path.
pub record AreNewVariables (path : List Clause) (goal : Clause) (x : Name) : Type 0 where
  pub in_goal : (t : Term) → IsAmong t goal → occurs x t ≡ false
  pub in_path : (earlier : Clause) → IsAmong earlier path → (t : Term) → IsAmong t earlier → occurs x t ≡ false

abbrev pub NewVariablesAreNew : Type 0
NewVariablesAreNew = (path : List Clause) (goal : Clause) (count : ℕ) (x : Name) → IsAmong x (new_variables (used_variables path goal) count) → AreNewVariables path goal x
