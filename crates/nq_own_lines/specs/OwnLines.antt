-- Work whose lines speak of the history's own functions, with variables that a log can spell.
use Rattle.std.specs.Prelude.{◌≡◌, ℕ, List, []}
use Rattle.nq_logic.specs.Terms.{Each}
use Rattle.nq_proof.specs.Clauses.{Clause}
use Rattle.nq_history.specs.declared.entry.Entry.{Entry}
use Rattle.nq_history.specs.Events.{events_at}
use Rattle.nq_kernel.specs.declared.work.Work.{Work}
use Rattle.nq_kernel.specs.Growing.{LineHolds, WorkGrows, WorkStands}
use Rattle.nq_kernel.specs.Ready.{IsReady, WorkHolds}
use Rattle.nq_lines.specs.OwnTerms.{IsOver}

-- each literal of each standing line is a term over the history's functions with their arities, and each of its variables is a
-- symbol other than T, F and NIL
abbrev pub HasOwnLines : List Entry → Work → Type 0
HasOwnLines history work = (n : ℕ) (c : Clause) → LineHolds work n c → Each (IsOver (events_at work.bank history)) c

-- work whose log has no line is so
abbrev pub NoLineIsForeign : Type 0
NoLineIsForeign = (history : List Entry) (work : Work) → work.log ≡ [] → HasOwnLines history work

-- Work that is so over a ready history, and whose lines are derivable, stays so however it grows.
abbrev pub LinesStayOwn : Type 0
LinesStayOwn =
    (history : List Entry) (old new : Work) → WorkStands history old → IsReady (events_at old.bank history) → WorkHolds history old → HasOwnLines history old → WorkGrows history old new → HasOwnLines history new
