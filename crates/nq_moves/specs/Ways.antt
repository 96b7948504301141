-- The ways back from the goals to which moves led.
use Rattle.std.specs.Prelude.{List, All}
use Rattle.nq_bank.specs.declared.node.TermId.{TermId}
use Rattle.nq_history.specs.declared.entry.Entry.{Entry}
use Rattle.nq_kernel.specs.declared.work.Work.{Work}
use Rattle.nq_kernel.specs.declared.verdict.MoveKind.{MoveKind}
use Rattle.nq_kernel.specs.declared.verdict.MoveKind.TheVariants as kind
use Rattle.nq_kernel.specs.Growing.{WorkStands, WorkGrows}
use Rattle.nq_lines.specs.Lines.{IsTermIn}
use Rattle.nq_moves.specs.declared.moved.Moved.{Moved}
use Rattle.nq_moves.specs.Found.{IsSubstituted}
use Rattle.nq_moves.specs.Dropped.{IsLeft}
use Rattle.nq_moves.specs.Swapped.{IsSwapped}
use Rattle.nq_moves.specs.Renamed.{IsRenamed}
use Rattle.nq_moves.specs.Eliminated.{IsEliminated}

-- what is kept of a move of this kind serves to go back
abbrev pub WayOf : MoveKind → List Entry → Work → List TermId → Moved → Type 0
WayOf kind.Simp history work goal moved = ⊥
WayOf kind.Subst history work goal moved = IsSubstituted work.bank work.bank goal moved
WayOf kind.Elim history work goal moved = IsEliminated history work goal moved
WayOf kind.Fert history work goal moved = IsSwapped history work goal moved
WayOf kind.Gen history work goal moved = IsRenamed history work goal moved
WayOf kind.Irr history work goal moved = IsLeft work.bank goal moved
WayOf kind.Ind history work goal moved = ⊥

-- lines of the children give a line of the goal
abbrev pub IsWay : List Entry → Work → List TermId → Moved → Type 0
IsWay history work goal moved = WayOf moved.why.kind history work goal moved

-- a move that can be gone back, to goals over the functions of the history
pub record IsMove (history : List Entry) (work : Work) (goal : List TermId) (moved : Moved) : Type 0 where
  pub way : IsWay history work goal moved
  pub children_in : All (λ child. All (IsTermIn history work) child.items) moved.children.items

-- a way back serves however the work grows
abbrev pub WaysLast : Type 0
WaysLast =
    (history : List Entry) (old new : Work) (goal : List TermId) (moved : Moved) → WorkStands history old → WorkGrows history old new → All (IsTermIn history old) goal →
    IsWay history old goal moved → IsWay history new goal moved
