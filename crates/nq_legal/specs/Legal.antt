-- What is kept of a legal move, and what a legal mover does whatever stands above a goal.
use Rattle.std.specs.Prelude.{◌≡◌, List, map, ⊤, Vec}
use Rattle.std.specs.declared.alloc.Global.{Global}
use Rattle.nq_bank.specs.declared.node.TermId.{TermId}
use Rattle.nq_bank.specs.Content.{Content, terms_at}
use Rattle.nq_history.specs.declared.entry.Entry.{Entry}
use Rattle.nq_history.specs.declared.hints.Hints.{Hints}
use Rattle.nq_history.specs.Events.{events_at}
use Rattle.nq_kernel.specs.declared.work.Work.{Work}
use Rattle.nq_kernel.specs.declared.verdict.MoveKind.{MoveKind}
use Rattle.nq_goals.specs.Normal.{IsNormal}
use Rattle.nq_moves.specs.Ways as moves
use Rattle.nq_event.specs.EventsAt.{hints_at}
use Rattle.nq_simplify.specs.Ways.{WayStands, LeadsTo}
use Rattle.nq_waterfall.specs.declared.trail.Ancestor.{Ancestor}
use Rattle.nq_waterfall.specs.declared.mover.Lead.{Lead}
use Rattle.nq_waterfall.specs.Trails.{goals_at}
use Rattle.nq_waterfall.specs.Turns.{MoveAt, IsLead}
use Rattle.nq_legal.specs.declared.way.Way.{Way}
use Rattle.nq_legal.specs.declared.way.Way.TheVariants.{Simplified, Moved, Inducted}

-- the goals have the same literals
abbrev pub AreCopies : List (Vec TermId Global) → List (Vec TermId Global) → Type 0
AreCopies goals others = map (λ goal. goal.items) goals ≡ map (λ goal. goal.items) others

-- What is kept serves to go back from lines of the nexts to a line of the goal. Of an induction nothing is kept.
abbrev pub IsWay : List Entry → Work → List TermId → List (Vec TermId Global) → Way → Type 0
IsWay history work goal nexts (Simplified steps) = WayStands history work steps × LeadsTo work steps (terms_at work.bank goal) (goals_at work.bank nexts)
IsWay history work goal nexts (Moved moved) = moves.IsWay history work goal moved × AreCopies nexts moved.children.items
IsWay history work goal nexts Inducted = ⊤

-- the goal is in normal form
abbrev pub NormalAt : Content → List Entry → Hints → List TermId → Type 0
NormalAt bank history hints goal = IsNormal (events_at bank history) (hints_at bank hints) (terms_at bank goal)

-- the goal is led on to these by a move of this kind, whatever stands above it
abbrev pub LeadsAnywhere : Content → List Entry → Hints → MoveKind → List TermId → List (Vec TermId Global) → Type 0
LeadsAnywhere bank history hints kind goal nexts = (path : List Ancestor) → MoveAt bank history hints path kind goal nexts

-- the goal is led on so
abbrev pub IsLegal : List Entry → Hints → Work → List TermId → Lead Way → Type 0
IsLegal history hints work goal lead = (path : List Ancestor) → IsLead IsWay history hints work path goal lead
