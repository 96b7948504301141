-- Lines that the free search finds.
use Rattle.std.proofs.Common.{List, Option, Some, None, ℕ, sym, subst}
use Rattle.std.specs.Prelude.{IfSome}
use Rattle.nq_logic.specs.Terms.{Term}
use Rattle.nq_bank.specs.declared.node.TermId.{TermId}
use Rattle.nq_bank.specs.Content.{terms_at}
use Rattle.nq_bank.proofs.Growth.{terms_at-grown}
use Rattle.nq_history.specs.declared.entry.Entry.{Entry}
use Rattle.nq_history.specs.declared.hints.Hints.{Hints}
use Rattle.nq_kernel.specs.declared.work.Work.{Work}
use Rattle.nq_kernel.specs.Growing.{WorkGrows}
use Rattle.nq_lines.specs.Lines.{LineHasOnly}
use Rattle.nq_search.specs.Goals.{CanSearch}
use Rattle.nq_search.specs.Searching.{IsFound}
use Rattle.nq_waterfall.specs.Ready.{CanMove, IsGoalIn}
use Rattle.nq_waterfall.proofs.SameLemmas.{goal_stands}

-- where goals may be moved, they may be searched for
pub can_search : (history : List Entry) (hints : Hints) (work : Work) → CanMove history hints work → CanSearch history hints work
can_search history hints work k = record { stands = k.stands; ready = k.ready; hints_stand = k.hints_stand; hints_in = k.hints_in }

found_some : (work : Work) (goal : List Term) (found : Option ℕ) → IsFound work goal found → IfSome found (λ n. LineHasOnly work n goal)
found_some work goal None k = tt
found_some work goal (Some n) k = k

-- a line that was found has only the literals of the goal as it stands then
pub line_found : (history : List Entry) (old new : Work) (goal : List TermId) (found : Option ℕ) → IsGoalIn history old goal → WorkGrows history old new → IsFound new (terms_at old.bank goal) found → IfSome found (λ n. LineHasOnly new n (terms_at new.bank goal))
line_found history old new goal found goal_in grows k =
    subst (λ (ts : List Term). IfSome found (λ n. LineHasOnly new n ts)) (sym (terms_at-grown old.bank new.bank goal grows.bank (goal_stands history old goal goal_in))) (found_some new (terms_at old.bank goal) found k)
