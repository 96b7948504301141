-- Work that grows without counting steps.
use Rattle.std.specs.Prelude.{◌≡◌, List, Option}
use Rattle.nq_proof.specs.Clauses.{Clause}
use Rattle.nq_history.specs.declared.entry.Entry.{Entry}
use Rattle.nq_rule.specs.Conclusions.{IsDeep}
use Rattle.nq_kernel.specs.declared.work.Work.{Work}
use Rattle.nq_kernel.specs.Growing.{WorkGrows}

-- no term of the clause is too deep
pub record IsShallow (clause : Option Clause) : Type 0 where
  pub not_deep : IsDeep clause → ⊥

-- the work grew, and no step was counted
pub record GrowsUncounted (history : List Entry) (old new : Work) : Type 0 where
  pub grows : WorkGrows history old new
  pub uncounted : new.counter ≡ old.counter
