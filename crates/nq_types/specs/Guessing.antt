-- Terms and lines by which others are told.
use Rattle.std.specs.Prelude.{◌≤◌, All, List, length}
use Rattle.nq_logic.specs.ShellPrinciple.{shells_of}
use Rattle.nq_bank.specs.declared.node.TermId.{TermId}
use Rattle.nq_history.specs.declared.entry.Entry.{Entry}
use Rattle.nq_history.specs.Events.{events_at}
use Rattle.nq_kernel.specs.declared.work.Work.{Work}
use Rattle.nq_kernel.specs.Growing.{LineStands, WorkStands}
use Rattle.nq_kernel.specs.Ready.{IsReady}
use Rattle.nq_lines.specs.declared.facts.Fact.{Fact}
use Rattle.nq_lines.specs.Lines.{IsTermIn}
use Rattle.nq_types.specs.declared.assumptions.Equal.{Equal}

-- lines may be guessed under these assumptions
pub record CanGuess (history : List Entry) (work : Work) (ids : List TermId) : Type 0 where
  pub stands : WorkStands history work
  pub ready : IsReady (events_at work.bank history)
  pub room : length (shells_of (events_at work.bank history)) ≤ 61
  pub assumed : All (IsTermIn history work) ids

-- the equation that is assumed, and its other side, are terms over the history
pub record IsEqualIn (history : List Entry) (work : Work) (equal : Equal) : Type 0 where
  pub assumption : IsTermIn history work equal.assumption
  pub other : IsTermIn history work equal.other

-- the term is over the history, and the line stands, whatever it shows
pub record IsGuessed (history : List Entry) (work : Work) (fact : Fact) : Type 0 where
  pub term : IsTermIn history work fact.term
  pub line : LineStands work fact.line
