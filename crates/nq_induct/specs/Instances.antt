-- Lines that hold an equation of a term and itself.
use Rattle.std.specs.Prelude.{ℕ, [], ◌∷◌}
use Rattle.nq_logic.specs.Terms.{Term}
use Rattle.nq_logic.specs.Words.{equal_term}
use Rattle.nq_bank.specs.declared.node.TermId.{TermId}
use Rattle.nq_bank.specs.Content.{IsIdOf}
use Rattle.nq_kernel.specs.declared.work.Work.{Work}
use Rattle.nq_kernel.specs.Growing.{LineHolds}

-- the line has one literal, the equation of a term and itself
pub record IsReflexive (work : Work) (line : ℕ) : Type 0 where
  pub side : Term
  pub holds : LineHolds work line (equal_term side side ∷ [])

-- the id is that of the term whose equation with itself the line holds
abbrev pub HasSide : Work → ℕ → TermId → Type 0
HasSide work line t = (u : Term) → LineHolds work line (equal_term u u ∷ []) → IsIdOf work.bank t u
