-- Lines over the history's own functions of which no literal is deep.
use Rattle.std.specs.Prelude.{◌≤◌, ℕ, List}
use Rattle.nq_logic.specs.Terms.{IsTerm, Each}
use Rattle.nq_logic.specs.Ground.{symbols_of}
use Rattle.nq_logic.specs.Sizes.{depth_of}
use Rattle.nq_history.specs.declared.entry.Entry.{Entry}
use Rattle.nq_history.specs.Events.{events_at}
use Rattle.nq_kernel.specs.declared.work.Work.{Work}
use Rattle.nq_kernel.specs.Growing.{LineStands, held}
use Rattle.nq_part_lines.specs.Known.{row_room}

pub record IsOwnLine (history : List Entry) (work : Work) (n : ℕ) : Type 0 where
  pub stands : LineStands work n
  pub over : Each (IsTerm (symbols_of (events_at work.bank history))) (held work n)
  pub low : Each (λ t. depth_of t ≤ row_room) (held work n)
