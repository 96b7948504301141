-- Goals that are owed of an induction.
use Rattle.std.specs.Prelude.{List, All, Vec}
use Rattle.std.specs.declared.alloc.Global.{Global}
use Rattle.nq_bank.specs.declared.node.TermId.{TermId}
use Rattle.nq_history.specs.declared.entry.Entry.{Entry}
use Rattle.nq_kernel.specs.declared.work.Work.{Work}
use Rattle.nq_lines.specs.Lines.{IsTermIn}

-- each literal of each goal is over the history
abbrev pub AreGoalsIn : List Entry → Work → List (Vec TermId Global) → Type 0
AreGoalsIn history work goals = All (λ (goal : Vec TermId Global). All (IsTermIn history work) goal.items) goals
