-- What an event that was accepted, proved or undone does to a history.
use Rattle.std.specs.Prelude.{List, [], ◌∷◌, ◌++◌, length, Option}
use Rattle.nq_logic.specs.Terms.{Name, Term}
use Rattle.nq_logic.specs.Histories.{History}
use Rattle.nq_logic.specs.Histories as logic
use Rattle.nq_logic.specs.Names.{before_event}
use Rattle.nq_events.specs.Events.{Event, BootStrap, AddShell, Dcl, Defn, AddAxiom, ProveLemma, Toggle, Undo, Skipped}

-- a definition with the measure under which it was accepted, if it is recursive
abbrev pub defined : Name → List Name → Term → Option Term → logic.Event
defined name xs t m = logic.Defines (record { function = name; formals = xs; body = t; measure = m })

-- The history after the event. The measure is that of a recursive definition.
abbrev pub history_after : History → Event → Option Term → History
history_after h BootStrap m = []
history_after h (AddShell shell) m = h ++ logic.AddShell shell ∷ []
history_after h (Dcl name formals) m = h ++ logic.Declaration name (length formals) ∷ []
history_after h (Defn name formals body measures) m = h ++ defined name formals body m ∷ []
history_after h (AddAxiom name classes t) m = h ++ logic.Axiom name classes t ∷ []
history_after h (ProveLemma name classes t hints) m = h ++ logic.Lemma name classes t ∷ []
history_after h (Toggle name old disabled) m = h ++ logic.Toggle name old disabled ∷ []
history_after h (Undo name) m = before_event name h
history_after h Skipped m = h
