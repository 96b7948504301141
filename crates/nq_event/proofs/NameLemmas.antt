-- Names that are in no bank are names of no events.
use Rattle.std.proofs.Common.{◌≡◌, Bool, true, false, List, [], ◌∷◌, refl, sym, ap, ◌∙◌, cond}
use Rattle.std.specs.Prelude.{None, Some, All, bytes_eq}
use Rattle.std.proofs.lemmas.Slice.Eq.{bytes_eq-Decides}
use Rattle.nq_logic.specs.Terms.{Name}
use Rattle.nq_logic.specs.Names.{event_name, event_in, looked_up}
use Rattle.nq_bank.specs.declared.node.Sym.{Sym}
use Rattle.nq_bank.specs.Content.{Content, NamesNone, text_at}
use Rattle.nq_bank.proofs.NodesLemmas.{All-head, All-tail}
use Rattle.nq_history.specs.declared.entry.EntryKind.{EntryKind}
use Rattle.nq_history.specs.declared.entry.EntryKind.TheVariants as kind
use Rattle.nq_history.specs.declared.entry.Entry.{Entry}
use Rattle.nq_history.specs.Events.{event_of, event_at, all_events_at, events_at, KindStands, EntryStands, HistoryStands}
use Rattle.nq_history.proofs.LookupLemmas.{all_events_are}

-- two names that differ
bytes_apart : (b : Bool) (f g : Name) → bytes_eq f g ≡ b → (f ≡ g → ⊥) → b ≡ false
bytes_apart true f g h k = absurd (k ((bytes_eq-Decides f g).0 h))
bytes_apart false f g h k = refl

pub apart : (f g : Name) → (f ≡ g → ⊥) → bytes_eq f g ≡ false
apart f g k = bytes_apart (bytes_eq f g) f g refl k

-- the event of an entry has the entry's name
name_of_event : (bank : Content) (name : Sym) (k : EntryKind) → KindStands bank name k → event_name (event_of bank name k) ≡ text_at bank name
name_of_event bank name (kind.Shell shell) h = ap (text_at bank) (sym h.1)
name_of_event bank name (kind.Dcl n) h = refl
name_of_event bank name (kind.Defn formals body measure) h = refl
name_of_event bank name (kind.Axiom classes t) h = refl
name_of_event bank name (kind.Lemma classes t) h = refl
name_of_event bank name (kind.Toggle old disabled) h = refl

unnamed_in : (bank : Content) (x : Name) (entries : List Entry) → NamesNone bank x → All (EntryStands bank) entries → event_in x (all_events_at bank entries) ≡ None
unnamed_in bank x [] none h = refl
unnamed_in bank x (e ∷ entries) none h =
    let here = All-head (EntryStands bank) e entries h in
    let other = apart x (event_name (event_at bank e)) (λ same. none.none e.name here.name (sym (name_of_event bank e.name e.kind here.kind) ∙ sym same)) in
    ap (λ b. cond b (Some (event_at bank e)) (event_in x (all_events_at bank entries))) other ∙ unnamed_in bank x entries none (All-tail (EntryStands bank) e entries h)

-- no event has a name that isn't in the bank
pub unnamed_event : (bank : Content) (x : Name) (history : List Entry) → NamesNone bank x → HistoryStands bank history → looked_up x (events_at bank history) ≡ None
unnamed_event bank x history none h = ap (event_in x) (all_events_are bank history h) ∙ unnamed_in bank x history none h.entries
