-- Events that a closing line adds.
use Rattle.std.specs.Prelude.{Bool, ◌&&◌, not, map}
use Rattle.std.specs.Option.{option_map}
use Rattle.nq_logic.specs.Terms.{Name}
use Rattle.nq_logic.specs.Histories.{History, Event, AddShell, Declaration, Defines, Axiom, Lemma, Toggle}
use Rattle.nq_logic.specs.Names.{is_in_use}
use Rattle.nq_bank.specs.Content.{Content, text_at, term_at}
use Rattle.nq_bank.specs.Shells.{shell_at, texts_at}
use Rattle.nq_history.specs.declared.entry.EntryKind.{EntryKind}
use Rattle.nq_history.specs.declared.entry.EntryKind.TheVariants as kind
use Rattle.nq_history.specs.Events.{class_of}
use Rattle.nq_log.specs.ClosingLines.{has_room}

-- whether a history may have one more event, of this name
abbrev pub has_place : History → Name → Bool
has_place h n = has_room h && not (is_in_use n h)

-- the event that a kind brings under a name
abbrev pub event_named : Content → Name → EntryKind → Event
event_named bank name (kind.Shell shell) = AddShell (shell_at bank shell)
event_named bank name (kind.Dcl n) = Declaration name n
event_named bank name (kind.Defn formals body measure) =
    Defines (record { function = name; formals = texts_at bank formals.items; body = term_at bank body; measure = option_map (term_at bank) measure })
event_named bank name (kind.Axiom classes t) = Axiom name (map class_of classes.items) (term_at bank t)
event_named bank name (kind.Lemma classes t) = Lemma name (map class_of classes.items) (term_at bank t)
event_named bank name (kind.Toggle old disabled) = Toggle name (text_at bank old) disabled
