-- Lines that stand.
use Rattle.std.proofs.Common.{ℕ, List}
use Rattle.std.specs.Prelude.{Option, Some, None, Result, IfOk, IfSome}
use Rattle.nq_logic.specs.Terms.{Term}
use Rattle.nq_rule.proofs.Made.{for_ok}
use Rattle.nq_kernel.specs.declared.work.Stop.{Stop}
use Rattle.nq_kernel.specs.declared.work.Work.{Work}
use Rattle.nq_kernel.specs.Growing.{LineStands}
use Rattle.nq_lines.specs.Lines.{LineHasOnly}
use Rattle.nq_lines.proofs.LineLemmas.{only_stands}

some_stands : (work : Work) (o : Option ℕ) (these : List Term) → IfSome o (λ n. LineHasOnly work n these) → IfSome o (LineStands work)
some_stands work None these h = tt
some_stands work (Some n) these h = only_stands work n these h

-- a line that was found stands
pub found_stands : (work : Work) (r : Result (Option ℕ) Stop) (these : List Term) → IfOk r (λ o. IfSome o (λ n. LineHasOnly work n these)) → IfOk r (λ o. IfSome o (LineStands work))
found_stands work r these h = for_ok r (λ o. IfSome o (λ n. LineHasOnly work n these)) (λ o. IfSome o (LineStands work)) (λ o found. some_stands work o these found) h
