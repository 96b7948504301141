-- The program's history, as the logic sees it.
use Rattle.nq_logic.specs.Histories as logic
use Rattle.nq_history.specs.Events.{events_at, HistoryStands}
use Rattle.nq_history.specs.Marking.{AreMarked}
use Rattle.nq_block.specs.Names.{HasSymbols}
use Rattle.nq_kernel.specs.Ready.{IsReady}
use Rattle.nq_spelling.specs.SpelledEvents.{HasFewNames}
use Rattle.nq_run.specs.declared.session.Session.{Session}

abbrev pub history_of : Session → logic.History
history_of s = events_at s.bank s.history

-- What the entries name stands in the bank, each entry keeps the mark from before its event, and a log can spell their
-- names, which are not too many. Each event had a new name when it was added, met the principle of its kind, and has
-- terms that a log can spell; so each lemma is derivable.
pub record SessionStands (s : Session) : Type 0 where
  pub history : HistoryStands s.bank s.history
  pub marked : AreMarked s.bank s.history
  pub symbols : HasSymbols (history_of s)
  pub few : HasFewNames (history_of s)
  pub ready : IsReady (history_of s)
