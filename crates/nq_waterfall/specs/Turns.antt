-- What a mover does with a goal.
use Rattle.std.specs.Prelude.{ℕ, List, [], ◌∷◌, ⊤, All, Vec}
use Rattle.std.specs.declared.alloc.Global.{Global}
use Rattle.nq_bank.specs.declared.node.TermId.{TermId}
use Rattle.nq_bank.specs.Content.{Content, terms_at}
use Rattle.nq_proof.specs.Clauses.{Clause}
use Rattle.nq_history.specs.declared.entry.Entry.{Entry}
use Rattle.nq_history.specs.declared.hints.Hints.{Hints}
use Rattle.nq_history.specs.Events.{events_at}
use Rattle.nq_kernel.specs.declared.work.Work.{Work}
use Rattle.nq_kernel.specs.Growing.{WorkGrows}
use Rattle.nq_lines.specs.Lines.{LineHasOnly}
use Rattle.nq_kernel.specs.declared.verdict.MoveKind.{MoveKind}
use Rattle.nq_kernel.specs.declared.verdict.Cause.{Cause}
use Rattle.nq_goals.specs.Moves.{IsMove}
use Rattle.nq_goals.specs.Spent.{IsSpent}
use Rattle.nq_waterfall.specs.Kinds.{goal_kind, goal_cause}
use Rattle.nq_waterfall.specs.declared.trail.Ancestor.{Ancestor}
use Rattle.nq_waterfall.specs.declared.mover.Lead.{Lead}
use Rattle.nq_waterfall.specs.declared.mover.Turn.{Turn}
use Rattle.nq_waterfall.specs.declared.mover.Turn.TheVariants.{Led, Closed, Spent, Unknown}
use Rattle.nq_event.specs.EventsAt.{hints_at}
use Rattle.nq_waterfall.specs.Trails.{goals_at, above_at}
use Rattle.nq_waterfall.specs.Ready.{IsGoalIn}

-- the goal under these goals is led on to these
abbrev pub MoveAt : Content → List Entry → Hints → List Ancestor → MoveKind → List TermId → List (Vec TermId Global) → Type 0
MoveAt bank history hints path kind goal nexts = IsMove (events_at bank history) (hints_at bank hints) (above_at bank path) (goal_kind kind) (terms_at bank goal) (goals_at bank nexts)

-- the goal under these goals is left over
abbrev pub SpentAt : Content → List Entry → Hints → List Ancestor → List TermId → Cause → Type 0
SpentAt bank history hints path goal cause = IsSpent (events_at bank history) (hints_at bank hints) (above_at bank path) (terms_at bank goal) (goal_cause cause)

-- A goal is led on by a move. What is kept for the way back serves however the work grows.
pub record IsLead {Way : Type 0} (IsWay : List Entry → Work → List TermId → List (Vec TermId Global) → Way → Type 0) (history : List Entry) (hints : Hints) (work : Work) (path : List Ancestor)
    (goal : List TermId) (lead : Lead Way) : Type 0 where
  pub move : MoveAt work.bank history hints path lead.kind goal lead.nexts.items
  pub nexts_in : All (λ next. IsGoalIn history work next.items) lead.nexts.items
  pub way_back : (later : Work) → WorkGrows history work later → IsWay history later goal lead.nexts.items lead.way

-- a goal is led on, or closed by a line with only its literals, or left over; or nothing is told of it
abbrev pub IsTurn : {Way : Type 0} (IsWay : List Entry → Work → List TermId → List (Vec TermId Global) → Way → Type 0) (history : List Entry) (hints : Hints) (work : Work) (path : List Ancestor)
    (goal : List TermId) → Turn Way → Type 0
IsTurn IsWay history hints work path goal (Led lead) = IsLead IsWay history hints work path goal lead
IsTurn IsWay history hints work path goal (Closed line) = LineHasOnly work line (terms_at work.bank goal)
IsTurn IsWay history hints work path goal (Spent cause) = SpentAt work.bank history hints path goal cause
IsTurn IsWay history hints work path goal Unknown = ⊤

-- each line has only the literals of its goal
abbrev pub HaveLines : Work → List Clause → List ℕ → Type 0
HaveLines work [] [] = ⊤
HaveLines work [] (n ∷ lines) = ⊥
HaveLines work (goal ∷ goals) [] = ⊥
HaveLines work (goal ∷ goals) (n ∷ lines) = LineHasOnly work n goal × HaveLines work goals lines
