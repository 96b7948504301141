-- Entries mean the same in a bank that grew.
use Rattle.std.proofs.Common.{◌≡◌, Option, Some, None, List, [], ◌∷◌, get_or, take, map, refl, ap, ◌∙◌}
use Rattle.std.specs.Prelude.{All, IfSome}
use Rattle.std.specs.Option.{option_map}
use Rattle.nq_logic.specs.Histories.{AddShell, Axiom, Lemma, Declaration, Toggle}
use Rattle.nq_bank.specs.declared.node.Sym.{Sym}
use Rattle.nq_bank.specs.declared.node.TermId.{TermId}
use Rattle.nq_bank.specs.Content.{Content, Stands, Grows, text_at, term_at}
use Rattle.nq_bank.proofs.NodesLemmas.{All-head, All-tail}
use Rattle.nq_bank.proofs.Growth.{Stands-grown, IsNamed-grown, text_at-grown, term_at-grown}
use Rattle.nq_history.specs.declared.entry.Entry.{Entry}
use Rattle.nq_history.specs.declared.entry.EntryKind.{EntryKind}
use Rattle.nq_history.specs.declared.entry.EntryKind.TheVariants as kind
use Rattle.nq_history.specs.Events.{class_of, event_of, event_at, all_events_at, events_at, past_ground, ground_length, KindStands, EntryStands, HistoryStands}
use Rattle.nq_history.proofs.ShellLemmas.{texts-grown, names-grown, shell_at-grown, ShellStands-grown}
use Rattle.nq_history.proofs.Lists.{All-drop}

module _ (old new : Content) (h : Grows old new) where
  measure-grown : (o : Option TermId) → IfSome o (λ t. Stands old t) → option_map (term_at new) o ≡ option_map (term_at old) o
  measure-grown None k = refl
  measure-grown (Some t) k = ap Some (term_at-grown old new t h k)

  measure_stands : (o : Option TermId) → IfSome o (λ t. Stands old t) → IfSome o (λ t. Stands new t)
  measure_stands None k = tt
  measure_stands (Some t) k = Stands-grown old new t h k

  event_of-grown : (name : Sym) (k : EntryKind) → text_at new name ≡ text_at old name → KindStands old name k → event_of new name k ≡ event_of old name k
  event_of-grown name (kind.Shell shell) e stands = ap AddShell (shell_at-grown old new h shell stands.0)
  event_of-grown name (kind.Dcl n) e stands = ap (λ x. Declaration x n) e
  event_of-grown name (kind.Defn formals body measure) e stands =
      let xs = texts-grown old new h formals.items stands.formals in
      let t = term_at-grown old new body h stands.body in
      let m = measure-grown measure stands.measure in
      rw (e, xs, t, m) refl
  event_of-grown name (kind.Axiom classes t) e stands = ap (λ x. Axiom x (map class_of classes.items) (term_at new t)) e ∙ ap (Axiom (text_at old name) (map class_of classes.items)) (term_at-grown old new t h stands)
  event_of-grown name (kind.Lemma classes t) e stands = ap (λ x. Lemma x (map class_of classes.items) (term_at new t)) e ∙ ap (Lemma (text_at old name) (map class_of classes.items)) (term_at-grown old new t h stands)
  event_of-grown name (kind.Toggle other disabled) e stands = ap (λ x. Toggle x (text_at new other) disabled) e ∙ ap (λ x. Toggle (text_at old name) x disabled) (text_at-grown old new other h stands)

  KindStands-grown : (name : Sym) (k : EntryKind) → KindStands old name k → KindStands new name k
  KindStands-grown name (kind.Shell shell) stands = (ShellStands-grown old new h shell stands.0, stands.1)
  KindStands-grown name (kind.Dcl n) stands = tt
  KindStands-grown name (kind.Defn formals body measure) stands = record { formals = names-grown old new h formals.items stands.formals; body = Stands-grown old new body h stands.body; measure = measure_stands measure stands.measure }
  KindStands-grown name (kind.Axiom classes t) stands = Stands-grown old new t h stands
  KindStands-grown name (kind.Lemma classes t) stands = Stands-grown old new t h stands
  KindStands-grown name (kind.Toggle other disabled) stands = IsNamed-grown old new other h stands

  pub all_events_at-grown : (history : List Entry) → All (EntryStands old) history → all_events_at new history ≡ all_events_at old history
  all_events_at-grown [] k = refl
  all_events_at-grown (e ∷ history) k =
      let here : EntryStands old e = All-head (EntryStands old) e history k in
      ap (λ x. x ∷ all_events_at new history) (event_of-grown e.name e.kind (text_at-grown old new e.name h here.name) here.kind) ∙
      ap (λ es. event_at old e ∷ es) (all_events_at-grown history (All-tail (EntryStands old) e history k))

  pub events_at-grown : (history : List Entry) → All (EntryStands old) history → events_at new history ≡ events_at old history
  events_at-grown history k = all_events_at-grown (past_ground history) (All-drop (EntryStands old) ground_length history k)

  pub entries_grown : (history : List Entry) → All (EntryStands old) history → All (EntryStands new) history
  entries_grown history k = λ i d below. let here = k i d below in record { name = IsNamed-grown old new (get_or history i d).name h here.name; kind = KindStands-grown (get_or history i d).name (get_or history i d).kind here.kind }

  pub history_grown : (history : List Entry) → HistoryStands old history → HistoryStands new history
  history_grown history k = record { entries = entries_grown history k.entries; ground = ap (take ground_length) (all_events_at-grown history k.entries) ∙ k.ground }
