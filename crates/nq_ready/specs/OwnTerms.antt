-- What ready histories give to provers.
use Rattle.std.specs.Prelude.{List}
use Rattle.nq_bank.specs.Content.{Content}
use Rattle.nq_history.specs.declared.entry.Entry.{Entry}
use Rattle.nq_history.specs.Events.{events_at}
use Rattle.nq_kernel.specs.Ready.{IsReady}
use Rattle.nq_lines.specs.OwnTerms.{HasOwnTerms}

-- The terms of axioms and lemmas, and the rows of the tables of axioms, are over the history's own functions.
abbrev pub ReadyOwnTerms : Type 0
ReadyOwnTerms = (bank : Content) (history : List Entry) → IsReady (events_at bank history) → HasOwnTerms (events_at bank history)
