-- Shells that are added, and why others are not.
use Rattle.std.proofs.Common.{◌≡◌, ℕ, Bool, true, false, List, [], ◌∷◌, ◌++◌, length, map, refl, ap, sym, subst, ◌∙◌, ◌≤◌, leb-true, inl, inr}
use Rattle.std.specs.Prelude.{All, IfOk, IsTrue, None, Option, Some, Result, Ok, Err, ◌&&◌, if◌then◌else◌, is_none, nat_le}
use Rattle.std.specs.List.{filter}
use Rattle.std.proofs.lemmas.Bool.{lt-ltb}
use Rattle.std.proofs.lemmas.List.Elements.{All-filter}
use Rattle.nq_logtext.specs.Symbols.{is_symbol}
use Rattle.nq_logic.specs.Terms.{Each, IsAmong, Name}
use Rattle.nq_logic.specs.Histories as logic
use Rattle.nq_logic.specs.Histories.{History, accessor_symbols, base_symbols}
use Rattle.nq_logic.specs.Names.{event_names, has_name, is_in_use, symbol_names}
use Rattle.nq_logic.specs.ShellPrinciple.{ShellRefusal, listed, shell_names, shell_refusal, shells_of}
use Rattle.nq_logic.proofs.Tests.{names_found_law}
use Rattle.nq_proof.proofs.Tests.{and_left, and_right}
use Rattle.nq_bank.specs.declared.node.Mark.{Mark}
use Rattle.nq_bank.specs.declared.node.Sym.{Sym}
use Rattle.nq_bank.specs.declared.shell.Part.{Part}
use Rattle.nq_bank.specs.declared.shell.Shell.{Shell}
use Rattle.nq_bank.specs.Content.{Content, IsNamed, text_at}
use Rattle.nq_bank.specs.Shells.{BaseStands, PartStands, ShellStands, parts_at, shell_at, shells_at, text_if, texts_at}
use Rattle.nq_bank.proofs.NodesLemmas.{All-head, All-tail}
use Rattle.nq_history.specs.declared.entry.Entry.{Entry}
use Rattle.nq_history.specs.declared.entry.EntryKind.TheVariants as kind
use Rattle.nq_history.specs.Events.{events_at, EntryStands}
use Rattle.nq_history.proofs.Lists.{All-none, All-cons}
use Rattle.nq_shell.specs.Admission.{AreUsed}
use Rattle.nq_form.specs.Form.{Form}
use Rattle.nq_kernel.specs.Ready.{IsLimitedShell, IsReadyEvent, part_limit, recognizer_limit}
use Rattle.nq_log.specs.States.{Adds}
use Rattle.nq_log.specs.ClosingLines.{are_short, has_room}
use Rattle.nq_block.specs.Blocks.{IsBlock}
use Rattle.nq_block.specs.Closings.{CanAdd, IsBaseSpelled, IsFree, IsPartSpelled}
use Rattle.nq_comment.specs.declared.answer.FormAnswer.TheVariants as answers
use Rattle.nq_events.specs.Events as model
use Rattle.nq_events.specs.Refusals.{OfShell}
use Rattle.nq_events.specs.TermRefusals.{first}
use Rattle.nq_events.specs.OwnRefusals.{of_shell, own_refusal, room_refusal}
use Rattle.nq_events.specs.AllowedEvents.{IsShellAddable}
use Rattle.nq_events.proofs.AllowedEvents.{events_are_allowed}
use Rattle.nq_events.proofs.EventTerms.{first_left}
use Rattle.nq_run.specs.HistoryView.{history_of}
use Rattle.nq_run.specs.Sessions.{IsAdded, TakesEvent}
use Rattle.nq_run.specs.ShellNames.{base_name, names_in}
use Rattle.nq_spelling.specs.SpelledEvents.{IsSpelledShell}
use Rattle.nq_answers.specs.Steps.{refusal_answer, refused}
use Rattle.nq_run.specs.declared.session.Session.{Session}
use Rattle.nq_run.specs.declared.session.Taken.{Taken}
use Rattle.nq_run.proofs.TakingLemmas.{accepted_as}

-- ---- the names of a shell

accessors_stand : (bank : Content) (parts : List Part) → All (PartStands bank) parts → All (IsNamed bank) (map (λ part. part.accessor) parts)
accessors_stand bank [] h = All-none (IsNamed bank)
accessors_stand bank (part ∷ parts) h =
    All-cons (IsNamed bank) part.accessor (map (λ part. part.accessor) parts) (All-head (PartStands bank) part parts h).accessor
    (accessors_stand bank parts (All-tail (PartStands bank) part parts h))

with_base : (bank : Content) (base : Option Sym) (names : List Sym) → BaseStands bank base → All (IsNamed bank) names → All (IsNamed bank) (base_name base ++ names)
with_base bank None names b h = h
with_base bank (Some s) names b h = All-cons (IsNamed bank) s names b h

pub names_stand : (bank : Content) (s : Shell) → ShellStands bank s → All (IsNamed bank) (names_in s)
names_stand bank s h =
    let accessors : List Sym = map (λ part. part.accessor) s.parts.items in
    All-cons (IsNamed bank) s.constructor (base_name s.base ++ (s.recognizer ∷ accessors)) h.constructor
    (with_base bank s.base (s.recognizer ∷ accessors) h.base (All-cons (IsNamed bank) s.recognizer accessors h.recognizer (accessors_stand bank s.parts.items h.parts)))

accessor_texts : (bank : Content) (parts : List Part) → texts_at bank (map (λ part. part.accessor) parts) ≡ symbol_names (accessor_symbols (parts_at bank parts))
accessor_texts bank [] = refl
accessor_texts bank (part ∷ parts) = ap (λ (names : List Name). text_at bank part.accessor ∷ names) (accessor_texts bank parts)

last_texts : (bank : Content) (base : Option Sym) (recognizer : Sym) (parts : List Part)
    → texts_at bank (base_name base ++ (recognizer ∷ map (λ part. part.accessor) parts)) ≡ symbol_names (base_symbols (text_if bank base) ++ ((text_at bank recognizer, 1) ∷ accessor_symbols (parts_at bank parts)))
last_texts bank None recognizer parts = ap (λ (names : List Name). text_at bank recognizer ∷ names) (accessor_texts bank parts)
last_texts bank (Some s) recognizer parts = ap (λ (names : List Name). text_at bank s ∷ (text_at bank recognizer ∷ names)) (accessor_texts bank parts)

pub names_are : (bank : Content) (s : Shell) → texts_at bank (names_in s) ≡ shell_names (shell_at bank s)
names_are bank s = ap (λ (names : List Name). text_at bank s.constructor ∷ names) (last_texts bank s.base s.recognizer s.parts.items)

-- ---- names in use

module _ (p : Name → Bool) where
  texts_kept : (bank : Content) (names : List Sym) → texts_at bank (filter (λ s. p (text_at bank s)) names) ≡ filter p (texts_at bank names)
  texts_kept bank [] = refl
  texts_kept bank (s ∷ names) = go (p (text_at bank s)) (texts_kept bank names)
    where
      go : (b : Bool) → texts_at bank (filter (λ s. p (text_at bank s)) names) ≡ filter p (texts_at bank names)
          → texts_at bank (if b then s ∷ filter (λ s. p (text_at bank s)) names else filter (λ s. p (text_at bank s)) names)
          ≡ (if b then text_at bank s ∷ filter p (texts_at bank names) else filter p (texts_at bank names))
      go true e = ap (λ (ts : List Name). text_at bank s ∷ ts) e
      go false e = e

  is_kept : (n : Name) (xs : List Name) → IsAmong n xs → p n ≡ true → IsAmong n (filter p xs)
  is_kept n [] m e = absurd m
  is_kept n (x ∷ xs) m e = go (p x) refl m (λ later. is_kept n xs later e)
    where
      go : (b : Bool) → p x ≡ b → IsAmong n (x ∷ xs) → (IsAmong n xs → IsAmong n (filter p xs)) → IsAmong n (if b then x ∷ filter p xs else filter p xs)
      go true at (inl same) rest = inl same
      go true at (inr later) rest = inr (rest later)
      go false at (inl same) rest = let wrong : true ≡ false = sym e ∙ ap p same ∙ at in absurd cc
      go false at (inr later) rest = rest later

  was_kept : (n : Name) (xs : List Name) → IsAmong n (filter p xs) → p n ≡ true
  was_kept n [] m = absurd m
  was_kept n (x ∷ xs) m = go (p x) refl m (was_kept n xs)
    where
      go : (b : Bool) → p x ≡ b → IsAmong n (if b then x ∷ filter p xs else filter p xs) → (IsAmong n (filter p xs) → p n ≡ true) → p n ≡ true
      go true at (inl same) rest = ap p same ∙ at
      go true at (inr later) rest = rest later
      go false at later rest = rest later

  -- the test tells which of the names were kept
  told_by : (n : Name) (xs : List Name) → IsAmong n xs → p n ≡ has_name n (filter p xs)
  told_by n xs m = go (p n) (has_name n (filter p xs)) refl refl
    where
      go : (a b : Bool) → p n ≡ a → has_name n (filter p xs) ≡ b → a ≡ b
      go true b e f = sym ((names_found_law n (filter p xs)).1 (is_kept n xs m e)) ∙ f
      go false true e f = let wrong : false ≡ true = sym e ∙ was_kept n xs ((names_found_law n (filter p xs)).0 f) in absurd cc
      go false false e f = refl

  each_told : (all names : List Name) → ((n : Name) → IsAmong n names → IsAmong n all) → Each (λ n. p n ≡ has_name n (filter p all)) names
  each_told all [] within = tt
  each_told all (n ∷ names) within = (told_by n all (within n (inl refl)), each_told all names (λ m among. within m (inr among)))

abbrev used_in : Content → List Entry → Sym → Bool
used_in bank history s = is_in_use (text_at bank s) (events_at bank history)

pub used_stand : (bank : Content) (history : List Entry) (s : Shell) (names used : List Sym) → ShellStands bank s → names ≡ names_in s → used ≡ filter (used_in bank history) names → All (IsNamed bank) used
used_stand bank history s names used h named is =
    subst (All (IsNamed bank)) (sym (is ∙ ap (filter (used_in bank history)) named)) (All-filter (used_in bank history) (IsNamed bank) (names_in s) (names_stand bank s h))

pub used_told : (bank : Content) (history : List Entry) (s : Shell) (names used : List Sym) → names ≡ names_in s → used ≡ filter (used_in bank history) names
    → AreUsed bank used (λ n. is_in_use n (events_at bank history)) (shell_at bank s)
used_told bank history s names used named is =
    let p : Name → Bool = λ n. is_in_use n (events_at bank history) in
    let all : List Name = shell_names (shell_at bank s) in
    let texts : texts_at bank used ≡ filter p all =
    ap (texts_at bank) (is ∙ ap (filter (used_in bank history)) named) ∙ texts_kept p bank (names_in s) ∙ ap (filter p) (names_are bank s) in
    record { told = subst (λ (kept : List Name). Each (λ n. p n ≡ has_name n kept) all) (sym texts) (each_told p all all (λ n among. among)) }

-- ---- a spelled shell is within the limits

few_listed : (parts : List logic.Part) → are_short parts ≡ true → Each (λ part. length (listed part.restriction) ≤ recognizer_limit) parts
few_listed [] e = tt
few_listed (part ∷ parts) e =
    let few : nat_le (length (listed part.restriction)) recognizer_limit ≡ true = and_left (nat_le (length (listed part.restriction)) recognizer_limit) (are_short parts) e in
    (leb-true (length (listed part.restriction)) recognizer_limit few, few_listed parts (and_right (nat_le (length (listed part.restriction)) recognizer_limit) (are_short parts) e))

limited : (s : logic.Shell) → IsSpelledShell s → IsLimitedShell s
limited s spelled = record { few_parts = leb-true (length s.parts) part_limit spelled.few; few_recognizers = few_listed s.parts spelled.short }

-- ---- why a shell is refused

module _ (h : History) (s : logic.Shell) where
  abbrev principle : Option ShellRefusal
  principle = shell_refusal (λ name. is_in_use name h) (shells_of h) s

  own_is : own_refusal h (model.AddShell s) ≡ first (of_shell principle) (room_refusal h)
  unfolding own_refusal
  own_is = refl

  pub refused_so : (refusal : ShellRefusal) → Some refusal ≡ principle → refused (own_refusal h (model.AddShell s)) ≡ Some (refusal_answer (OfShell refusal))
  refused_so refusal e = ap refused own_is ∙ ap (λ (o : Option ShellRefusal). refused (first (of_shell o) (room_refusal h))) (sym e)

  pub room_left : None ≡ principle → refused (own_refusal h (model.AddShell s)) ≡ refused (room_refusal h)
  room_left e = ap refused own_is ∙ ap (λ (o : Option ShellRefusal). refused (first (of_shell o) (room_refusal h))) (sym e)

  none_of_shell : (o : Option ShellRefusal) → of_shell o ≡ None → o ≡ None
  none_of_shell None e = refl
  none_of_shell (Some refusal) e = absurd cc

  accepted : own_refusal h (model.AddShell s) ≡ None → principle ≡ None
  accepted e = none_of_shell principle (first_left (of_shell principle) (room_refusal h) (sym own_is ∙ e))

  allowed : own_refusal h (model.AddShell s) ≡ None → IsShellAddable h s
  allowed e = events_are_allowed h (model.AddShell s) e

  room : own_refusal h (model.AddShell s) ≡ None → has_room h ≡ true
  room e = lt-ltb (length h) 10000 (allowed e).room

  all_three : (a b c : Bool) → a ≡ true → b ≡ true → c ≡ true → (a && b && c) ≡ true
  all_three true true true e f g = refl
  all_three false b c e f g = absurd cc
  all_three true false c e f g = absurd cc
  all_three true true false e f g = absurd cc

  pub can_add : own_refusal h (model.AddShell s) ≡ None → IsSpelledShell s → CanAdd h s
  can_add e spelled = record {
    room = room e;
    accepted = all_three (is_none principle) (nat_le (length s.parts) 20) (are_short s.parts) (ap is_none (accepted e)) spelled.few spelled.short;
    constructor_spelled = spelled.constructor_spelled;
    base_spelled = spelled.base_spelled;
    recognizer_spelled = spelled.recognizer_spelled;
    parts_spelled = spelled.parts_spelled;
  }

  pub shell_ready : own_refusal h (model.AddShell s) ≡ None → IsSpelledShell s → IsReadyEvent h (logic.AddShell s)
  shell_ready e spelled = let is = (allowed e).accepted in record { unused = is.unused.0; holds = is; spelled = limited s spelled }

  pub free_constructor : own_refusal h (model.AddShell s) ≡ None → IsSpelledShell s → IsFree h s.constructor
  free_constructor e spelled = record { symbol = spelled.constructor_spelled; unused = (allowed e).accepted.unused.0; room = room e }

-- what the test of a shell tells, over the shells of the history and the names in use, is what the Shell Principle tells in the history
pub principle_told : (bank : Content) (history : List Entry) (s : logic.Shell) (shells : List Shell) (used named : List Sym) (told : Option ShellRefusal)
    → shells_at bank shells ≡ shells_of (events_at bank history) → named ≡ used
    → AreUsed bank used (λ n. is_in_use n (events_at bank history)) s
    → ((in_use : List ℕ → Bool) → AreUsed bank named in_use s → told ≡ shell_refusal in_use (shells_at bank shells) s) → told ≡ principle (events_at bank history) s
principle_told bank history s shells used named told are names in_use tells =
    let p : List ℕ → Bool = λ n. is_in_use n (events_at bank history) in
    tells p (subst (λ (ns : List Sym). AreUsed bank ns p s) (sym names) in_use) ∙ ap (λ (ss : List logic.Shell). shell_refusal p ss s) are

-- ---- the session with a shell

accessors_spelled : (parts : List logic.Part) → Each IsPartSpelled parts → Each (λ n. IsTrue (is_symbol n)) (symbol_names (accessor_symbols parts))
accessors_spelled [] h = tt
accessors_spelled (part ∷ parts) h = (h.0.accessor, accessors_spelled parts h.1)

last_spelled : (base : Option Name) (recognizer : Name) (parts : List logic.Part) → IsBaseSpelled base → IsTrue (is_symbol recognizer) → Each IsPartSpelled parts
    → Each (λ n. IsTrue (is_symbol n)) (symbol_names (base_symbols base ++ ((recognizer, 1) ∷ accessor_symbols parts)))
last_spelled None recognizer parts b r h = (r, accessors_spelled parts h)
last_spelled (Some base) recognizer parts b r h = (b.0, (r, accessors_spelled parts h))

-- a log can spell the names that a spelled shell brings
pub names_spelled : (s : logic.Shell) → IsSpelledShell s → Each (λ n. IsTrue (is_symbol n)) (event_names (logic.AddShell s))
names_spelled s spelled =
    (spelled.constructor_spelled, (spelled.constructor_spelled, last_spelled s.base s.recognizer s.parts spelled.base_spelled spelled.recognizer_spelled spelled.parts_spelled))

-- the entry of a shell stands where the shell does
abbrev pub shell_entry : Shell → Mark → Entry
shell_entry s mark = record { name = s.constructor; kind = kind.Shell s; mark = mark }

pub entry_stands : (bank : Content) (s : Shell) (mark : Mark) → ShellStands bank s → EntryStands bank (shell_entry s mark)
entry_stands bank s mark stands = record { name = stands.constructor; kind = (stands, refl) }

-- what the form of a shell is answered that nothing refuses
module _ (limit : ℕ) (old : Session) (form : Form) (s : Shell) (mark : Mark) (logging : Bool) (block : List ℕ) where
  abbrev added_shell : logic.Shell
  added_shell = shell_at old.bank s

  pub shell_added : {E : Type 0} (r : Result Taken E) → own_refusal (history_of old) (model.AddShell added_shell) ≡ None → (logging ≡ true → IsBlock (history_of old) (Adds (logic.AddShell added_shell)) block)
      → IfOk r (λ t. IsAdded old (shell_entry s mark) t.session) → IfOk r (λ t. t.answer ≡ answers.Accepted) → IfOk r (λ t. t.block ≡ block)
      → IfOk r (TakesEvent limit old mark form (model.AddShell added_shell) logging)
  shell_added (Ok t) lawful written added accepted text =
      accepted_as limit old mark form (model.AddShell added_shell) tt (shell_entry s mark) logging t added accepted (ap refused lawful) refl refl
      (λ on. subst (IsBlock (history_of old) (Adds (logic.AddShell added_shell))) (sym text) (written on))
  shell_added (Err e) lawful written added accepted text = tt
