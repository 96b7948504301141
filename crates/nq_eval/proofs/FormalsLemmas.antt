-- The formals of a function that a history defines.
use Rattle.std.proofs.Common.{◌≡◌, Bool, true, false, Option, Some, None, List, [], ◌∷◌, refl, sym, ap, ◌∙◌, subst}
use Rattle.std.specs.Prelude.{All, nat_eq, if◌then◌else◌, Vec}
use Rattle.std.specs.declared.alloc.Global.{Global}
use Rattle.std.specs.Option.{option_map}
use Rattle.nq_logic.specs.Terms.{Term}
use Rattle.nq_logic.specs.Names.{looked_up}
use Rattle.nq_bank.specs.declared.node.TermId.{TermId}
use Rattle.nq_bank.specs.declared.node.Sym.{Sym}
use Rattle.nq_bank.specs.Content.{Content, text_at, term_at}
use Rattle.nq_bank.specs.Shells.{texts_at}
use Rattle.nq_bank.proofs.NodesLemmas.{All-head, All-tail}
use Rattle.nq_history.specs.declared.entry.Entry.{Entry}
use Rattle.nq_history.specs.declared.entry.EntryKind.{EntryKind}
use Rattle.nq_history.specs.declared.entry.EntryKind.TheVariants as kind
use Rattle.nq_history.specs.Events.{event_of, event_at, events_at, EntryStands, KindStands}
use Rattle.nq_history.specs.Lookups.{entry_named}
use Rattle.nq_fragments.specs.Openings.{event_opening}
use Rattle.nq_eval.specs.Opened.{IsDefinedBy}

-- what holds of all entries holds of the one that is found
pub named_entry : (P : Entry → Type 0) (name : Sym) (entries : List Entry) (e : Entry) → All P entries → entry_named name entries ≡ Some e → P e
named_entry P name [] e all found = absurd cc
named_entry P name (x ∷ entries) e all found = by_name (nat_eq name.0 x.name.0) found (named_entry P name entries e (All-tail P x entries all))
  where
    by_name : (b : Bool) → (if b then Some x else entry_named name entries) ≡ Some e → (entry_named name entries ≡ Some e → P e) → P e
    by_name true k rest = let same : x ≡ e = cc in subst P same (All-head P x entries all)
    by_name false k rest = rest k

-- no entry
pub nothing_named : (bank : Content) (history : List Entry) (f : Sym) (found : Option Entry) → option_map (event_at bank) found ≡ looked_up (text_at bank f) (events_at bank history) → found ≡ None → (vs : List Term) → event_opening vs (looked_up (text_at bank f) (events_at bank history)) ≡ None
nothing_named bank history f found event is vs = ap (event_opening vs) (sym event ∙ ap (option_map (event_at bank)) is)

module _ (bank : Content) (history : List Entry) (f : Sym) (found : Option Entry) (e : Entry) (event : option_map (event_at bank) found ≡ looked_up (text_at bank f) (events_at bank history)) (is : found ≡ Some e) where
  looked : looked_up (text_at bank f) (events_at bank history) ≡ Some (event_at bank e)
  looked = sym event ∙ ap (option_map (event_at bank)) is

  -- an entry that defines nothing
  pub undefined : (k : EntryKind) → e.kind ≡ k → ((vs : List Term) → event_opening vs (Some (event_of bank e.name k)) ≡ None) → (vs : List Term) → event_opening vs (looked_up (text_at bank f) (events_at bank history)) ≡ None
  undefined k same none vs = ap (event_opening vs) looked ∙ ap (λ k. event_opening vs (Some (event_of bank e.name k))) same ∙ none vs

  -- one that defines
  pub defined : (formals : Vec Sym Global) (body : TermId) (measure : Option TermId) → e.kind ≡ kind.Defn formals body measure → EntryStands bank e → IsDefinedBy bank (events_at bank history) f formals.items
  defined formals body measure same stands =
      let here : KindStands bank e.name (kind.Defn formals body measure) = subst (KindStands bank e.name) same stands.kind in
      record {
        definition = record { function = text_at bank e.name; formals = texts_at bank formals.items; body = term_at bank body; measure = option_map (term_at bank) measure };
        event = looked ∙ ap (λ k. Some (event_of bank e.name k)) same;
        reads = refl;
        stand = here.formals;
      }
