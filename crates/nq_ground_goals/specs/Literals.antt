-- Literals of goals, over a bank.
use Rattle.std.specs.Prelude.{List}
use Rattle.nq_bank.specs.declared.node.TermId.{TermId}
use Rattle.nq_bank.specs.Content.{Content, Stands}
use Rattle.nq_history.specs.declared.entry.Entry.{Entry}
use Rattle.nq_kernel.specs.Over.{TermIsIn}

-- the literal stands, and is over the history's functions
pub record IsLiteral (bank : Content) (history : List Entry) (t : TermId) : Type 0 where
  pub stands : Stands bank t
  pub over : TermIsIn bank history t
