-- What a form leaves in the bank.
use Rattle.std.specs.Prelude.{◌≡◌, Bool, true, false, drop, length}
use Rattle.nq_form.specs.Form.{Form}
use Rattle.nq_bank.specs.Content.{Content, Grows}
use Rattle.nq_bank.specs.Marks.{released}
use Rattle.nq_bank.specs.declared.node.Mark.{Mark}
use Rattle.nq_history.specs.Marking.{given_back}
use Rattle.nq_events.specs.Events.{Event, BootStrap, AddShell, Dcl, Defn, AddAxiom, ProveLemma, Toggle, Undo, Skipped}
use Rattle.nq_events.specs.Reading.{event_of}
use Rattle.nq_run.specs.HistoryView.{history_of}
use Rattle.nq_run.specs.declared.session.Session.{Session}

-- the bank is what the one before held below the mark of the first event that is gone
abbrev pub IsGivenBack : Session → Session → Type 0
IsGivenBack old new = new.bank ≡ given_back old.bank (drop (length new.history) old.history)

-- What an event that is taken leaves in the bank into which it was read: all that was read and no more, so that what its proof
-- made is given back. A definition leaves also the terms of the measures that were tried. Events that are undone give back all
-- that they brought, and nothing is added.
abbrev pub Leaves : Event → Session → Session → Type 0
Leaves BootStrap read new = IsGivenBack read new
Leaves (AddShell shell) read new = new.bank ≡ read.bank
Leaves (Dcl name formals) read new = new.bank ≡ read.bank
Leaves (Defn name formals body measures) read new = Grows read.bank new.bank × (new.bank.names ≡ read.bank.names)
Leaves (AddAxiom name classes t) read new = new.bank ≡ read.bank
Leaves (ProveLemma name classes t hints) read new = new.bank ≡ read.bank
Leaves (Toggle name old disabled) read new = new.bank ≡ read.bank
Leaves (Undo name) read new = IsGivenBack read new
Leaves Skipped read new = new.bank ≡ read.bank

-- The same, by whether the event is taken: where it isn't, the bank is released to the mark.
abbrev pub LeavesBy : Bool → Event → Mark → Session → Session → Type 0
LeavesBy true event mark read new = Leaves event read new
LeavesBy false event mark read new = new.bank ≡ released read.bank mark

-- What a form leaves, by whether its event is taken: where none is, the bank is as it was before the form; else the event leaves
-- the bank so, into which the form was read.
abbrev pub KeepsBank : Bool → Session → Form → Session → Type 0
KeepsBank true old form new = (read : Content) × Grows old.bank read × Leaves (event_of (history_of old) form) (record { bank = read; history = old.history }) new
KeepsBank false old form new = new.bank ≡ old.bank
