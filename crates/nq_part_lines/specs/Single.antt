-- Lines of one literal.
use Rattle.std.specs.Prelude.{ℕ, [], ◌∷◌}
use Rattle.nq_logic.specs.Terms.{Term}
use Rattle.nq_kernel.specs.declared.work.Work.{Work}
use Rattle.nq_kernel.specs.Growing.{LineHolds}

-- the line stands, and has just one literal
pub record HasOne (work : Work) (line : ℕ) : Type 0 where
  pub literal : Term
  pub holds : LineHolds work line (literal ∷ [])
