-- Marked entries: growth, a push and an undo keep them so.
use Rattle.std.proofs.Common.{◌≡◌, ◌<◌, ◌≤◌, ℕ, zero, suc, Bool, true, false, ◌++◌, List, [], ◌∷◌, length, get_or, take, refl, sym, ap, subst, ◌∙◌, arith}
use Rattle.std.specs.Prelude.{All, nat_lt}
use Rattle.std.proofs.lemmas.Bool.{ltb-true, ltb-false}
use Rattle.std.proofs.lemmas.List.{take-take, take-append-le, take-map, get_or-take, get_or_append_left, length-take, length-append}
use Rattle.std.proofs.Math.Seq.{take-append_seam, get_or-append_seam}
use Rattle.nq_bank.specs.Content.{Content, Grows}
use Rattle.nq_bank.specs.Marks.{CanRelease, released}
use Rattle.nq_bank.proofs.Growth.{Grows-trans}
use Rattle.nq_history.specs.declared.entry.Entry.{Entry}
use Rattle.nq_history.specs.Events.{all_events_at, event_at, ground_length, EntryStands, HistoryStands}
use Rattle.nq_history.specs.Marking.{AreMarked, IsMarked, IsWithin}
use Rattle.nq_history.proofs.HistoryLemmas.{all_events_at-grown}

-- each mark can be released to
pub marked_can : (bank : Content) (history : List Entry) → AreMarked bank history → (i : ℕ) (e : Entry) → i < length history → CanRelease bank (get_or history i e).mark
marked_can bank history h i d below =
    let e : Entry = get_or history i d in
    let at = h.each i e below (named_again history i d e below) in
    at.mark.can bank at.grew
  where
    named_again : (es : List Entry) (i : ℕ) (d e : Entry) → i < length es → get_or es i d ≡ get_or es i e
    named_again [] i d e k = absurd (omega (arith, k))
    named_again (x ∷ es) zero d e k = refl
    named_again (x ∷ es) (suc i) d e k = named_again es i d e (omega (arith, k))

pub marked_grown : (old new : Content) (history : List Entry) → Grows old new → AreMarked old history → AreMarked new history
marked_grown old new history grows h =
    record { each = λ i e below is. let at = h.each i e below is in record { earlier = at.earlier; mark = at.mark; grew = Grows-trans at.earlier old new at.grew grows; held = at.held } }

-- the entries lie within the bank
pub all_within : (bank : Content) (history : List Entry) → AreMarked bank history → All (EntryStands bank) history → All (IsWithin bank) history
all_within bank history h stand = λ i d below.
    let e : Entry = get_or history i d in
    let can = marked_can bank history h i d below in
    record { entry = stand i d below; nodes = can.nodes; names = can.names }

-- an entry that is marked is added
pub marked_push : (bank : Content) (history : List Entry) (e : Entry) → AreMarked bank history → IsMarked bank history e → AreMarked bank (history ++ e ∷ [])
marked_push bank history e h new = record { each = at }
  where
    at : (i : ℕ) (f : Entry) → i < length (history ++ e ∷ []) → f ≡ get_or (history ++ e ∷ []) i f → IsMarked bank (take i (history ++ e ∷ [])) f
    at i f below is = pick (nat_lt i (length history)) refl
      where
        pick : (b : Bool) → nat_lt i (length history) ≡ b → IsMarked bank (take i (history ++ e ∷ [])) f
        pick true k =
            let before = ltb-true i (length history) k in
            let whole : take i (history ++ e ∷ []) ≡ take i history = take-append-le i history (e ∷ []) (omega (arith, before)) in
            subst (λ es. IsMarked bank es f) (sym whole) (h.each i f before (is ∙ get_or_append_left history (e ∷ []) f i before))
        pick false k =
            let after = ltb-false i (length history) k in
            let size = length-append history (e ∷ []) in
            let last : i ≡ length history = omega (arith, after, below, size) in
            let whole : take i (history ++ e ∷ []) ≡ history = ap (λ n. take n (history ++ e ∷ [])) last ∙ take-append_seam history (e ∷ []) in
            let same : f ≡ e = is ∙ ap (λ n. get_or (history ++ e ∷ []) n f) last ∙ get_or-append_seam history e [] f in
            subst (λ es. IsMarked bank es f) (sym whole) (subst (IsMarked bank history) (sym same) new)

-- the bank of an earlier mark has grown to that of a later one
between : (first second bank : Content) → Grows first bank → Grows second bank → length first.names ≤ length second.names → length first.terms ≤ length second.terms → Grows first second
between first second bank h k names terms =
    record {
      names = ap (take (length first.names)) (sym k.names) ∙ take-take (length first.names) (length second.names) bank.names names ∙ h.names;
      terms = ap (take (length first.terms)) (sym k.terms) ∙ take-take (length first.terms) (length second.terms) bank.terms terms ∙ h.terms;
    }

-- an undo gives back the bank that was marked
module _ (bank : Content) (history : List Entry) (kept : ℕ) (e : Entry) (h : AreMarked bank history) (below : kept < length history) (is : e ≡ get_or history kept e) where
  at : IsMarked bank (take kept history) e
  at = h.each kept e below is

  returned : released bank e.mark ≡ at.earlier
  returned = at.mark.returns bank at.grew

  marked_earlier : AreMarked at.earlier (take kept history)
  marked_earlier =
      record {
        each = λ i f less is_f.
            let size = length-take kept history in
            let front : i < kept = omega (arith, less, size, below) in
            let here = h.each i f (omega (arith, front, below)) (is_f ∙ get_or-take kept history i f front) in
            let held = at.held i f less in
            let nodes : (get_or (take kept history) i f).mark.nodes ≡ f.mark.nodes = ap (λ x. x.mark.nodes) (sym is_f) in
            let names : (get_or (take kept history) i f).mark.names ≡ f.mark.names = ap (λ x. x.mark.names) (sym is_f) in
            let fewer_names : length here.earlier.names ≤ length at.earlier.names = omega (arith, names, held.names, here.mark.names) in
            let fewer_terms : length here.earlier.terms ≤ length at.earlier.terms = omega (arith, nodes, held.nodes, here.mark.nodes) in
            let whole : take i (take kept history) ≡ take i history = take-take i kept history (omega (arith, front)) in
            subst (λ es. IsMarked at.earlier es f) (sym whole) (record { earlier = here.earlier; mark = here.mark; grew = between here.earlier at.earlier bank here.grew at.grew fewer_names fewer_terms; held = here.held });
      }

  pub undo_marked : AreMarked (released bank e.mark) (take kept history)
  undo_marked = subst (λ b. AreMarked b (take kept history)) (sym returned) marked_earlier

  pub undo_stands : HistoryStands bank history → ground_length ≤ kept → HistoryStands (released bank e.mark) (take kept history)
  undo_stands stands long =
      let held : All (EntryStands at.earlier) (take kept history) = λ i d less. (at.held i d less).entry in
      let same : all_events_at bank (take kept history) ≡ all_events_at at.earlier (take kept history) = all_events_at-grown at.earlier bank at.grew (take kept history) held in
      let ground =
      ap (take ground_length) (sym same) ∙
      ap (take ground_length) (sym (take-map (event_at bank) kept history)) ∙
      take-take ground_length kept (all_events_at bank history) long ∙
      stands.ground in
      subst (λ b. HistoryStands b (take kept history)) (sym returned) (record { entries = held; ground = ground })

-- an entry at a place
pub entry_at : (entries : List Entry) (i : ℕ) → i < length entries → (e : Entry) × (e ≡ get_or entries i e)
entry_at [] i below = absurd (omega (arith, below))
entry_at (e ∷ entries) zero below = (e, refl)
entry_at (e ∷ entries) (suc i) below = entry_at entries i (omega (arith, below))

-- a bank that held the entries, and is given back, marks them and holds them as before
module _ (earlier bank : Content) (history : List Entry) (grew : Grows earlier bank) (held : All (IsWithin earlier) history) where
  pub given_back_marked : AreMarked bank history → AreMarked earlier history
  given_back_marked h =
      record {
        each = λ i f less is_f.
            let here = h.each i f less is_f in
            let within = held i f less in
            let nodes : (get_or history i f).mark.nodes ≡ f.mark.nodes = ap (λ x. x.mark.nodes) (sym is_f) in
            let names : (get_or history i f).mark.names ≡ f.mark.names = ap (λ x. x.mark.names) (sym is_f) in
            let fewer_names : length here.earlier.names ≤ length earlier.names = omega (arith, names, within.names, here.mark.names) in
            let fewer_terms : length here.earlier.terms ≤ length earlier.terms = omega (arith, nodes, within.nodes, here.mark.nodes) in
            record { earlier = here.earlier; mark = here.mark; grew = between here.earlier earlier bank here.grew grew fewer_names fewer_terms; held = here.held };
      }

  pub given_back_stands : HistoryStands bank history → HistoryStands earlier history
  given_back_stands stands =
      let stand : All (EntryStands earlier) history = λ i d less. (held i d less).entry in
      record { entries = stand; ground = ap (take ground_length) (sym (all_events_at-grown earlier bank grew history stand)) ∙ stands.ground }
