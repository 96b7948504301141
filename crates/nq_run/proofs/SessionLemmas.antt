-- What a session is after a form.
use Rattle.std.proofs.Common.{◌≡◌, ℕ, Bool, true, false, List, [], ◌∷◌, ◌++◌, ◌<◌, ◌≤◌, drop, length, take, refl, ap, sym, subst, ◌∙◌, arith, ltb-true}
use Rattle.std.proofs.lemmas.Bool.{lt-leb}
use Rattle.std.proofs.lemmas.List.{drop_more, length-map, length-take, take_all}
use Rattle.std.specs.Prelude.{All, IsTrue, Err, IfSome, Ok, Option, None, Some, get_or, is_some, if◌then◌else◌, nat_eq}
use Rattle.nq_logtext.specs.Symbols.{is_symbol}
use Rattle.nq_logic.specs.Terms.{Each, Name}
use Rattle.nq_logic.specs.Histories.{History}
use Rattle.nq_logic.specs.Ground.{ground_history}
use Rattle.nq_logic.specs.Names.{before_event, event_in, event_names, is_in_use, looked_up}
use Rattle.nq_bank.specs.declared.node.Mark.{Mark}
use Rattle.nq_bank.specs.declared.node.Sym.{Sym}
use Rattle.nq_bank.specs.Content.{Content, Grows}
use Rattle.nq_bank.specs.Marks.{IsMarkOf, released}
use Rattle.nq_history.specs.declared.entry.Entry.{Entry}
use Rattle.nq_history.specs.Events.{all_events_at, event_at, events_at, ground_length, past_ground, EntryStands, HistoryStands}
use Rattle.nq_history.specs.Marking.{given_back, AreMarked, IsMarked}
use Rattle.nq_history.specs.Lookups.{event_limit, entries_before, entry_named, push_fault, undo_answer, undo_result, IsAnswer, IsUndo}
use Rattle.nq_history.specs.declared.history.PushFault.{PushFault}
use Rattle.nq_history.specs.declared.history.PushFault.TheVariants.{Memory, NameInUse, TooManyEvents}
use Rattle.nq_history.specs.declared.history.UndoFault.{UndoFault}
use Rattle.nq_history.specs.declared.history.UndoFault.TheVariants as undo
use Rattle.nq_history.proofs.HistoryLemmas.{events_at-grown, history_grown}
use Rattle.nq_history.proofs.LookupLemmas.{before_is, named_at, undo_place}
use Rattle.nq_history.proofs.MarkingLemmas.{all_within, given_back_marked, given_back_stands, marked_grown}
use Rattle.nq_kernel.specs.declared.rule.Line.{Line}
use Rattle.nq_kernel.specs.Growing.{LogGrows}
use Rattle.nq_kernel.specs.Over.{IsVariable, RulesAreOver}
use Rattle.nq_log.specs.States.{Claim}
use Rattle.nq_block.specs.Blocks.{AddsBlock, IsBlock}
use Rattle.nq_block.specs.Closings.{IsFree}
use Rattle.nq_block.specs.Names.{HasSymbols}
use Rattle.nq_block.proofs.SymbolLaws.{symbols_begin_law, symbols_grow_law, symbols_stay_law}
use Rattle.nq_comment.specs.ReportViews.{answer_of}
use Rattle.nq_comment.specs.declared.answer.FormAnswer.{FormAnswer}
use Rattle.nq_events.specs.OwnRefusals.{refused_if, room_refusal}
use Rattle.nq_events.specs.Refusals as refusal
use Rattle.nq_kernel.specs.Ready.{IsReady, IsReadyEvent}
use Rattle.nq_kernel.proofs.ReadyLemmas.{ready_before, ready_more}
use Rattle.nq_spelling.specs.SpelledEvents.{FewNamesBegin, FewNamesGrow, FewNamesStay, HasFewNames}
use Rattle.nq_run.specs.declared.session.Session.{Session}
use Rattle.nq_run.specs.Banks.{IsGivenBack}
use Rattle.nq_run.specs.HistoryView.{history_of, SessionStands}
use Rattle.nq_run.specs.Sessions.{IsAdded, IsMarkBefore, IsUntaken}

-- ---- free names

pub never : {A : Type 0} (b : Bool) → b ≡ true → b ≡ false → A
never true on off = absurd cc
never false on off = absurd cc

-- an event of a free name is added, where there is memory
pub memory_alone : (bank : Content) (history : List Entry) (n : Name) (fault : PushFault) → IsFree (events_at bank history) n
    → IsAnswer (push_fault (is_in_use n (events_at bank history)) (length (past_ground history))) (Err fault) → fault ≡ Memory
memory_alone bank history n fault free answer =
    let h : History = events_at bank history in
    let room : length h < 10000 = ltb-true (length h) 10000 free.room in
    let count : length (past_ground history) < 10000 = subst (λ (k : ℕ). k < 10000) (length-map (past_ground history) (event_at bank)) room in
    let none : push_fault (is_in_use n h) (length (past_ground history)) ≡ None =
    ap (λ b. push_fault b (length (past_ground history))) free.unused
    ∙ ap (λ b. if b then Some TooManyEvents else None) (lt-leb event_limit (length (past_ground history)) count) in
    subst (λ (o : Option PushFault). IsAnswer o (Err fault)) none answer

pub not_in_use : (fault : PushFault) → fault ≡ Memory → fault ≡ NameInUse → ⊥
not_in_use fault memory used = let same : ◌≡◌ {A = PushFault} Memory NameInUse = sym memory ∙ used in cc

pub not_too_many : (fault : PushFault) → fault ≡ Memory → fault ≡ TooManyEvents → ⊥
not_too_many fault memory many = let same : ◌≡◌ {A = PushFault} Memory TooManyEvents = sym memory ∙ many in cc

-- there is room for an event of a free name
pub free_room : (h : History) (n : Name) → IsFree h n → room_refusal h ≡ None
free_room h n free = ap (λ b. refused_if b refusal.TooManyEvents) (lt-leb event_limit (length h) (ltb-true (length h) 10000 free.room))

-- what was added to no text is the block
pub block_added : (h : History) (c : Claim) (old new text : List ℕ) → old ≡ [] → text ≡ new → AddsBlock h c old new → IsBlock h c text
block_added h c old new text none is adds = subst (IsBlock h c) (sym (is ∙ adds.whole ∙ ap (λ (front : List ℕ). front ++ adds.text) none)) adds.block

-- ---- the ground history

-- the entries begin with those of the ground history
pub ground_within : (bank : Content) (history : List Entry) → HistoryStands bank history → ground_length ≤ length history
ground_within bank history stands =
    let ground_size : length ground_history ≡ ground_length = refl in
    let size = length-map history (event_at bank) in
    omega (arith, ap length stands.ground ∙ ground_size, length-take ground_length (all_events_at bank history), size)

-- what is left of a session that goes back to it
pub ground_given_back : (old new : Session) → SessionStands old → new.history ≡ take ground_length old.history → new.bank ≡ given_back old.bank (drop ground_length old.history) → IsGivenBack old new
ground_given_back old new stands is given =
    let size : ground_length ≡ length new.history = omega (arith, ap length is, length-take ground_length old.history, ground_within old.bank old.history stands.history) in
    given ∙ ap (λ (n : ℕ). given_back old.bank (drop n old.history)) size

-- there are no others where there is no event past it
pub ground_alone : (bank : Content) (history : List Entry) → all_events_at bank history ≡ ground_history → take ground_length history ≡ history
ground_alone bank history whole =
    let ground_size : length ground_history ≡ ground_length = refl in
    let size : length history ≡ ground_length = sym (length-map history (event_at bank)) ∙ ap length whole ∙ ground_size in
    take_all ground_length history (omega (arith, size))

pub ground_stands : FewNamesBegin → (session : Session) → HistoryStands session.bank session.history → AreMarked session.bank session.history → history_of session ≡ [] → SessionStands session
ground_stands few session history marked none = record {
  history = history;
  marked = marked;
  symbols = subst HasSymbols (sym none) symbols_begin_law;
  few = subst HasFewNames (sym none) few;
  ready = subst IsReady (sym none) tt;
}

-- ---- a bank that grows under a session

pub same_history : (old : Session) (bank : Content) → SessionStands old → Grows old.bank bank → events_at bank old.history ≡ history_of old
same_history old bank stands grows = events_at-grown old.bank bank grows old.history stands.history.entries

pub stands_grown : (old : Session) (bank : Content) → SessionStands old → Grows old.bank bank → SessionStands (record { bank = bank; history = old.history })
stands_grown old bank stands grows = record {
  history = history_grown old.bank bank grows old.history stands.history;
  marked = marked_grown old.bank bank old.history grows stands.marked;
  symbols = subst HasSymbols (sym (same_history old bank stands grows)) stands.symbols;
  few = subst HasFewNames (sym (same_history old bank stands grows)) stands.few;
  ready = subst IsReady (sym (same_history old bank stands grows)) stands.ready;
}

-- a mark that was just taken
pub mark_before : (old : Session) (bank : Content) (mark : Mark) → SessionStands old → Grows old.bank bank → IsMarkOf old.bank mark → IsMarkBefore bank old.history mark
mark_before old bank mark stands grows is =
    record { earlier = old.bank; mark_of = is; grew = grows; held = all_within old.bank old.history stands.marked stands.history.entries }

-- ---- a bank that is given back

module _ (old : Session) (mark : Mark) (stands : SessionStands old) (before : IsMarkBefore old.bank old.history mark) where
  earlier_entries : All (EntryStands before.earlier) old.history
  earlier_entries = λ i d less. (before.held i d less).entry

  earlier_history : events_at before.earlier old.history ≡ history_of old
  earlier_history = sym (events_at-grown before.earlier old.bank before.grew old.history earlier_entries)

  earlier_stands : SessionStands (record { bank = before.earlier; history = old.history })
  earlier_stands = record {
    history = given_back_stands before.earlier old.bank old.history before.grew before.held stands.history;
    marked = given_back_marked before.earlier old.bank old.history before.grew before.held stands.marked;
    symbols = subst HasSymbols (sym earlier_history) stands.symbols;
    few = subst HasFewNames (sym earlier_history) stands.few;
    ready = subst IsReady (sym earlier_history) stands.ready;
  }

  -- the session as it was before the form
  pub untaken_is : (bank : Content) (answer : FormAnswer) (block : List ℕ) → bank ≡ released old.bank mark → block ≡ []
      → IsUntaken old mark (answer_of answer) (record { session = record { bank = bank; history = old.history }; answer = answer; block = block })
  untaken_is bank answer block is none =
      let back : bank ≡ before.earlier = is ∙ before.mark_of.returns old.bank before.grew in
      record {
        bank = is;
        entries = refl;
        same = ap (λ (b : Content). events_at b old.history) back ∙ earlier_history;
        stands = subst (λ (b : Content). SessionStands (record { bank = b; history = old.history })) (sym back) earlier_stands;
        answer_is = refl;
        block_is = none;
      }

-- ---- one event more

pub added_is : FewNamesGrow → (old : Session) (entry : Entry) (name : Name) (later : List Entry) → SessionStands old → IsFree (history_of old) name
    → Each (λ n. IsTrue (is_symbol n)) (event_names (event_at old.bank entry)) → length (event_names (event_at old.bank entry)) ≤ 24 → IsReadyEvent (history_of old) (event_at old.bank entry)
    → HistoryStands old.bank later → AreMarked old.bank later → events_at old.bank later ≡ history_of old ++ event_at old.bank entry ∷ []
    → IsAdded old entry (record { bank = old.bank; history = later })
added_is grow old entry name later stands free symbols few ready history marked is = record {
  bank = refl;
  after = is;
  stands = record {
    history = history;
    marked = marked;
    symbols = subst HasSymbols (sym is) (symbols_grow_law (history_of old) (event_at old.bank entry) stands.symbols symbols);
    few = subst HasFewNames (sym is) (grow (history_of old) (event_at old.bank entry) stands.few (free_room (history_of old) name free) few);
    ready = subst IsReady (sym is) (ready_more (history_of old) (event_at old.bank entry) stands.ready ready);
  };
}

-- an entry that keeps a mark from before its event is marked
pub marked_before : (bank : Content) (history : List Entry) (entry : Entry) → IsMarkBefore bank history entry.mark → IsMarked bank history entry
marked_before bank history entry mark = record { earlier = mark.earlier; mark = mark.mark_of; grew = mark.grew; held = mark.held }

-- ---- events that are taken away

-- an event past the ground history is undone
pub no_fault : (h : History) (x : Name) (fault : UndoFault) → IsUndo x h (Err fault) → is_some (looked_up x h) ≡ true → is_some (event_in x ground_history) ≡ false → ⊥
no_fault h x undo.NoSuchEvent told known past = absurd cc
no_fault h x undo.GroundEvent told known past = let ground : is_some (event_in x ground_history) ≡ true = told.ground in absurd cc

no_undo_fault : (o : Option UndoFault) (n m : ℕ) → Ok n ≡ undo_result o m → o ≡ None
no_undo_fault None n m e = refl
no_undo_fault (Some fault) n m e = absurd cc

-- the entry of a name before which not all entries stand
entry_there : (name : Sym) (entries : List Entry) → length (entries_before name entries) < length entries → (e : Entry) × (entry_named name entries ≡ Some e)
entry_there name [] less = absurd (omega (arith, less))
entry_there name (e ∷ entries) less = pick (nat_eq name.0 e.name.0) less (entry_there name entries)
  where
    pick : (b : Bool) → length (if b then [] else e ∷ entries_before name entries) < length (e ∷ entries)
        → (length (entries_before name entries) < length entries → (f : Entry) × (entry_named name entries ≡ Some f))
        → (f : Entry) × ((if b then Some e else entry_named name entries) ≡ Some f)
    pick true less later = (e, refl)
    pick false less later = later (omega (arith, less))

module _ (old : Session) (name : Sym) (n : ℕ) (new : Session) (stands : SessionStands old)
    (answer : Ok n ≡ undo_answer (length (entries_before name old.history)) (length old.history))
    (history_is : new.history ≡ entries_before name old.history)
    (bank_is : IfSome (entry_named name old.history) (λ e. new.bank ≡ released old.bank e.mark)) where
  place : (length (entries_before name old.history) < length old.history) × (ground_length ≤ length (entries_before name old.history))
  place = undo_place name old.history _ _ refl refl (no_undo_fault _ n _ answer)

  there : (e : Entry) × (entry_named name old.history ≡ Some e)
  there = entry_there name old.history place.0

  gone : new.bank ≡ released old.bank there.0.mark
  gone = subst (λ (o : Option Entry). IfSome o (λ e. new.bank ≡ released old.bank e.mark)) there.1 bank_is

  at : IsMarked old.bank (take (length (entries_before name old.history)) old.history) there.0
  at = stands.marked.each (length (entries_before name old.history)) there.0 place.0 (named_at name old.history there.0 there.1)

  left : take (length (entries_before name old.history)) old.history ≡ new.history
  left = before_is name old.history ∙ sym history_is

  -- the events that are left are the same over the bank that is left
  pub undone_events : events_at new.bank new.history ≡ events_at old.bank new.history
  undone_events =
      let back : new.bank ≡ at.earlier = gone ∙ at.mark.returns old.bank at.grew in
      let held : All (EntryStands at.earlier) new.history = subst (All (EntryStands at.earlier)) left (λ i d less. (at.held i d less).entry) in
      ap (λ (b : Content). events_at b new.history) back ∙ sym (events_at-grown at.earlier old.bank at.grew new.history held)

  -- what is left of the bank is what it held below the mark of the event that is named
  pub undone_bank : IsGivenBack old new
  undone_bank =
      let size : length new.history ≡ length (entries_before name old.history) = ap length history_is in
      let here : there.0 ≡ get_or old.history (length (entries_before name old.history)) there.0 = named_at name old.history there.0 there.1 in
      gone ∙ ap (λ (e : Entry). released old.bank e.mark) here
      ∙ sym (ap (given_back old.bank) (ap (λ (n : ℕ). drop n old.history) size ∙ drop_more old.history (length (entries_before name old.history)) there.0 place.0))

  -- the first entries are left
  pub undone_take : take (length new.history) old.history ≡ new.history
  undone_take = ap (λ (es : List Entry). take (length es) old.history) history_is ∙ before_is name old.history ∙ sym history_is

  pub undone_fewer : length new.history ≤ length old.history
  undone_fewer = omega (arith, ap length history_is, place.0)

pub undone_stands : FewNamesStay → (old new : Session) (x : Name) → SessionStands old → HistoryStands new.bank new.history → AreMarked new.bank new.history
    → history_of new ≡ before_event x (history_of old) → SessionStands new
undone_stands stay old new x stands history marked is = record {
  history = history;
  marked = marked;
  symbols = subst HasSymbols (sym is) (symbols_stay_law (history_of old) x stands.symbols);
  few = subst HasFewNames (sym is) (stay (history_of old) x stands.few);
  ready = subst IsReady (sym is) (ready_before (history_of old) x stands.ready);
}

-- ---- no lines

pub no_lines : (bank : Content) (history : List Entry) (log : List Line) → log ≡ [] → LogGrows bank history [] log
no_lines bank history log none = subst (LogGrows bank history []) (sym none) (record { kept = refl; legal = λ k least below. absurd (omega (arith, below)) })

pub no_rules : (bank : Content) (history : List Entry) (log : List Line) → log ≡ [] → RulesAreOver IsVariable bank history 0 log
no_rules bank history log none = subst (RulesAreOver IsVariable bank history 0) (sym none) (record { each = λ k line least at. absurd cc })
