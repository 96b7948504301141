-- Terms in place of variables.
use Rattle.std.specs.Prelude.{List}
use Rattle.nq_bank.specs.Content.{text_at}
use Rattle.nq_clause.specs.declared.substitution.Pair.{Pair}
use Rattle.nq_clause.specs.Substitution.{PairStands}
use Rattle.nq_history.specs.declared.entry.Entry.{Entry}
use Rattle.nq_kernel.specs.declared.work.Work.{Work}
use Rattle.nq_kernel.specs.Over.{IsVariable, TermIsIn}

-- a variable that a log can spell, with a term over the functions of the history
pub record IsPairOver (history : List Entry) (work : Work) (p : Pair) : Type 0 where
  pub stands : PairStands work.bank p
  pub term : TermIsIn work.bank history p.term
  pub name : IsVariable (text_at work.bank p.variable)
