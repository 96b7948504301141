-- What a search may assume, goals over ids, and their lines.
use Rattle.std.specs.Prelude.{ℕ, List, [], ◌∷◌, map, All, ⊤, Vec}
use Rattle.std.specs.declared.alloc.Global.{Global}
use Rattle.nq_bank.specs.declared.node.TermId.{TermId}
use Rattle.nq_bank.specs.Content.{Content, terms_at}
use Rattle.nq_proof.specs.Clauses.{Clause}
use Rattle.nq_history.specs.declared.entry.Entry.{Entry}
use Rattle.nq_history.specs.declared.hints.Hints.{Hints}
use Rattle.nq_history.specs.Events.{events_at}
use Rattle.nq_history.specs.Hints.{HintsStand}
use Rattle.nq_kernel.specs.declared.work.Work.{Work}
use Rattle.nq_kernel.specs.Growing.{WorkStands}
use Rattle.nq_kernel.specs.Ready.{IsReady}
use Rattle.nq_kernel.specs.Hints.{HintsAreIn}
use Rattle.nq_lines.specs.Lines.{IsTermIn, LineHasOnly}

-- what a search may assume of the history and of the hints
pub record CanSearch (history : List Entry) (hints : Hints) (work : Work) : Type 0 where
  pub stands : WorkStands history work
  pub ready : IsReady (events_at work.bank history)
  pub hints_stand : HintsStand work.bank hints
  pub hints_in : HintsAreIn work.bank history hints

-- each literal of the goal is over the history's functions, with variables that a log can spell
abbrev pub IsGoalIn : List Entry → Work → List TermId → Type 0
IsGoalIn history work goal = All (IsTermIn history work) goal

-- the clauses of some goals
abbrev pub goals_at : Content → List (Vec TermId Global) → List Clause
goals_at bank goals = map (λ goal. terms_at bank goal.items) goals

-- each line has only the literals of its goal
abbrev pub HaveLines : Work → List Clause → List ℕ → Type 0
HaveLines work [] [] = ⊤
HaveLines work [] (n ∷ lines) = ⊥
HaveLines work (goal ∷ goals) [] = ⊥
HaveLines work (goal ∷ goals) (n ∷ lines) = LineHasOnly work n goal × HaveLines work goals lines
