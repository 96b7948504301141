-- Steps that are used up.
use Rattle.std.specs.Prelude.{◌≡◌, ℕ, List, []}
use Rattle.nq_logic.specs.Histories.{History}
use Rattle.nq_history.specs.declared.entry.Entry.{Entry}
use Rattle.nq_history.specs.Events.{events_at}
use Rattle.nq_kernel.specs.declared.work.Work.{Work}
use Rattle.nq_kernel.specs.Growing.{WorkGrows}

-- The work of an event began in this history with this limit, without a line and with no step used, and it has grown until as
-- many steps as the limit were used.
pub record IsUsedUp (limit : ℕ) (h : History) : Type 0 where
  pub entries : List Entry
  pub begun : Work
  pub spent : Work
  pub history_is : events_at begun.bank entries ≡ h
  pub no_lines : begun.log ≡ []
  pub unused : begun.counter.used ≡ 0
  pub limit_is : begun.counter.limit ≡ limit
  pub grows : WorkGrows entries begun spent
  pub all_used : spent.counter.used ≡ limit
