-- Terms of which lines are made.
use Rattle.std.specs.Prelude.{◌≤◌, List}
use Rattle.nq_logic.specs.Sizes.{depth_of}
use Rattle.nq_bank.specs.declared.node.TermId.{TermId}
use Rattle.nq_bank.specs.Content.{term_at}
use Rattle.nq_history.specs.declared.entry.Entry.{Entry}
use Rattle.nq_kernel.specs.declared.work.Work.{Work}
use Rattle.nq_lines.specs.Lines.{IsTermIn}
use Rattle.nq_part_lines.specs.LawLines.{term_room}

-- the term is over the history's functions, and not too deep
pub record IsSmallIn (history : List Entry) (work : Work) (t : TermId) : Type 0 where
  pub inside : IsTermIn history work t
  pub room : depth_of (term_at work.bank t) ≤ term_room
