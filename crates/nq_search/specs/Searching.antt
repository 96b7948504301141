-- What a search finds, and what it is led by.
use Rattle.std.specs.Prelude.{ℕ, List, All, Option, Some, None, ⊤, Vec}
use Rattle.std.specs.declared.alloc.Global.{Global}
use Rattle.nq_bank.specs.declared.node.TermId.{TermId}
use Rattle.nq_proof.specs.Clauses.{Clause}
use Rattle.nq_history.specs.declared.entry.Entry.{Entry}
use Rattle.nq_kernel.specs.declared.work.Work.{Work}
use Rattle.nq_kernel.specs.Growing.{WorkGrows}
use Rattle.nq_lines.specs.Lines.{LineHasOnly}
use Rattle.nq_search.specs.Goals.{HaveLines, IsGoalIn}
use Rattle.nq_search.specs.declared.tactic.Led.{Led}

-- A goal is led on. What is kept for the way back serves however the work grows.
pub record IsLed {Way : Type 0} (nexts_of : Way → List (Vec TermId Global)) (IsWay : List Entry → Work → List TermId → Way → Type 0) (history : List Entry) (work : Work) (goal : List TermId) (led : Led Way) : Type 0 where
  pub nexts_in : All (λ next. IsGoalIn history work next.items) (nexts_of led.way)
  pub way_back : (later : Work) → WorkGrows history work later → IsWay history later goal led.way

-- a line that was found has only the goal's literals
abbrev pub IsFound : Work → Clause → Option ℕ → Type 0
IsFound work goal None = ⊤
IsFound work goal (Some n) = LineHasOnly work n goal

-- so do lines that were found of several goals
abbrev pub AreFound : Work → List Clause → Option (Vec ℕ Global) → Type 0
AreFound work goals None = ⊤
AreFound work goals (Some lines) = HaveLines work goals lines.items
