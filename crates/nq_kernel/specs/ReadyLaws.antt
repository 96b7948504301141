-- What ready histories are, and that the lines of work over them hold.
use Rattle.std.specs.Prelude.{◌≡◌, ◌++◌, ◌∷◌, [], List, Some}
use Rattle.nq_logic.specs.Terms.{Name, Term}
use Rattle.nq_logic.specs.Ground.{symbols_of}
use Rattle.nq_logic.specs.Names.{before_event}
use Rattle.nq_logic.specs.Histories.{History, Event}
use Rattle.nq_proof.specs.Closed.{IsClosed}
use Rattle.nq_proof.specs.Laws.{LemmasHold}
use Rattle.nq_proof.specs.Rules.{event_term}
use Rattle.nq_bank.specs.Content.{Content, Grows}
use Rattle.nq_history.specs.declared.entry.Entry.{Entry}
use Rattle.nq_history.specs.Events.{events_at, HistoryStands}
use Rattle.nq_kernel.specs.declared.work.Work.{Work}
use Rattle.nq_kernel.specs.Growing.{WorkStands, WorkGrows}
use Rattle.nq_kernel.specs.Over.{IsVariable, IsTermOf}
use Rattle.nq_kernel.specs.Ready.{IsReady, IsReadyEvent, HasUsableDefinitions, WorkHolds}

-- a ready history speaks of its own functions alone
abbrev pub ReadyIsClosed : Type 0
ReadyIsClosed = (h : History) → IsReady h → IsClosed h

-- its lemmas are derivable in it
abbrev pub ReadyLemmasHold : Type 0
ReadyLemmasHold = (h : History) → IsReady h → LemmasHold h

-- the term of each of its axioms and lemmas is over its functions, with variables that a log can spell
abbrev pub ReadyTerms : Type 0
ReadyTerms = (h : History) (name : Name) (t : Term) → IsReady h → event_term name h ≡ Some t → IsTermOf IsVariable (symbols_of h) t

-- its definitions can be used, and so can those of the ground history
abbrev pub ReadyDefinitions : Type 0
ReadyDefinitions = (h : History) → IsReady h → HasUsableDefinitions h

-- a history without events is ready
abbrev pub NoEventIsReady : Type 0
NoEventIsReady = IsReady []

-- a ready history stays ready with a ready event more
abbrev pub OneMoreReadyEvent : Type 0
OneMoreReadyEvent = (h : History) (e : Event) → IsReady h → IsReadyEvent h e → IsReady (h ++ e ∷ [])

-- what stands before an event of it is ready
abbrev pub ReadyBefore : Type 0
ReadyBefore = (h : History) (x : Name) → IsReady h → IsReady (before_event x h)

-- entries that are ready over a bank are so over a bank that grew
abbrev pub ReadyGrown : Type 0
ReadyGrown = (old new : Content) (history : List Entry) → HistoryStands old history → Grows old new → IsReady (events_at old history) → IsReady (events_at new history)

-- work whose log has no line holds
abbrev pub NoLineHolds : Type 0
NoLineHolds = (history : List Entry) (work : Work) → work.log ≡ [] → WorkHolds history work

-- Work that holds over a ready history holds however it grows.
abbrev pub GrownWorkHolds : Type 0
GrownWorkHolds = (history : List Entry) (old new : Work) → WorkStands history old → IsReady (events_at old.bank history) → WorkHolds history old → WorkGrows history old new → WorkHolds history new
