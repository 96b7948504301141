-- What the lines of a shell lead to.
use Rattle.std.proofs.Common.{◌≡◌, Bool, true, false, ◌||◌, List, [], ◌∷◌, ◌++◌, length, refl, sym, ap, ◌∙◌, subst}
use Rattle.std.specs.Prelude.{Option, Some, None, Result, Ok, Err, Vec, All, is_none, is_ok, is_some, nat_le, not, ◌&&◌, if◌then◌else◌}
use Rattle.std.specs.declared.alloc.Global.{Global}
use Rattle.std.specs.List.{flat_map}
use Rattle.std.proofs.lemmas.List.{map-append}
use Rattle.nq_logtext.specs.Reading.{◌>>=◌}
use Rattle.nq_logtext.specs.Fields.{Field, mode, name}
use Rattle.nq_logtext.specs.Views.{one_name}
use Rattle.nq_logtext.specs.declared.line.Mode.{Mode}
use Rattle.nq_logic.specs.Terms.{Name, Each}
use Rattle.nq_logic.specs.Histories.{History, Part as PartOfTexts, Shell as ShellOfTexts, AddShell, base_symbols, accessor_symbols}
use Rattle.nq_logic.specs.Names.{is_in_use, symbol_names}
use Rattle.nq_logic.specs.ShellPrinciple.{first_used, shell_names, shell_refusal, shells_of, ShellRefusal}
use Rattle.nq_bank.specs.declared.shell.Part.{Part}
use Rattle.nq_bank.specs.Content.{Content, Grows}
use Rattle.nq_bank.specs.Shells.{part_at, parts_at, PartStands}
use Rattle.nq_bank.proofs.Standing.{All-push}
use Rattle.nq_history.specs.declared.entry.Entry.{Entry}
use Rattle.nq_history.specs.Events.{events_at}
use Rattle.nq_shell.specs.declared.admission.ShellFault.{ShellFault}
use Rattle.nq_shell.specs.Admission.{AreUsed, answer_at}
use Rattle.nq_log.specs.States.{Block, State, Step, Adds, Continues, after_claim, start_of, is_empty, only_when}
use Rattle.nq_log.specs.Logs.{claimed, continued}
use Rattle.nq_log.specs.Fields.{names_in}
use Rattle.nq_log.specs.ClosingLines.{added_shell, are_short, has_room, part_line, shell_claim}
use Rattle.nq_check.specs.declared.context.Context.{Context}
use Rattle.nq_check.specs.Claims.{has_place}
use Rattle.nq_check.specs.Contexts.{state_of, IsWhole}
use Rattle.nq_check.specs.declared.judged.Judged.{Judged}
use Rattle.nq_check.specs.declared.judged.Judged.TheVariants as outcome
use Rattle.nq_check.specs.Judging.{GoesOn, Leads}
use Rattle.nq_check.specs.Shells.{told_part}
use Rattle.nq_check.proofs.ContextLemmas.{events_grown, parts_grown, state_grown, whole_grown}

-- ---- PART

names_again : (names : List Name) → names_in (flat_map one_name names) ≡ Some names
names_again [] = refl
names_again (n ∷ names) = ap (λ (o : Option (List Name)). o >>= λ ns. Some (n ∷ ns)) (names_again names)

pub part_goes_on : (old : Context) (bank : Content) (parts : Vec Part Global) (part : Part) (a : Name) (kind : Mode) (d : Name) (names : List Name) → IsWhole old → Grows old.bank bank → PartStands bank part →
    part_at bank part ≡ told_part a kind d names → parts.items ≡ old.parts.items ++ part ∷ [] →
    GoesOn (state_of old) (continued (part_line (state_of old) (name a ∷ mode kind ∷ name d ∷ flat_map one_name names))) (record old { bank = bank; parts = parts })
part_goes_on old bank parts part a kind d names whole h stands is pushed = record {
  whole = let w = whole_grown old bank h whole in record { history = w.history; introduced = w.introduced; terms = w.terms; lines = w.lines; parts = subst (All (PartStands bank)) (sym pushed) (All-push (PartStands bank) old.parts.items part w.parts stands) };
  step =
      ap (λ (o : Option (List Name)). continued (o >>= λ rs. Some (record (state_of old).block { parts = (state_of old).block.parts ++ (told_part a kind d rs ∷ []) }))) (names_again names)
      ∙ ap (λ (ps : List PartOfTexts). Some (Continues (record (state_of old).block { parts = ps }))) whole_parts
      ∙ ap (λ (b : Block). Some (Continues (record b { parts = parts_at bank parts.items }))) (ap (λ (s : State). s.block) (state_grown old bank h whole));
  history = events_grown old bank h whole;
}
  where
    whole_parts : parts_at old.bank old.parts.items ++ (told_part a kind d names ∷ []) ≡ parts_at bank parts.items
    whole_parts =
        ap (λ (ps : List PartOfTexts). ps ++ (told_part a kind d names ∷ [])) (parts_grown old.bank bank h old.parts.items whole.parts)
        ∙ ap (λ (p : PartOfTexts). parts_at bank old.parts.items ++ (p ∷ [])) (sym is)
        ∙ sym (map-append (part_at bank) old.parts.items (part ∷ []))
        ∙ ap (parts_at bank) (sym pushed)

-- ---- names in use

used_joined : (f : Name → Bool) (xs ys : List Name) → is_some (first_used f (xs ++ ys)) ≡ (is_some (first_used f xs) || is_some (first_used f ys))
used_joined f [] ys = refl
used_joined f (x ∷ xs) ys = by_first (f x) (used_joined f xs ys)
  where
    by_first : (b : Bool) → is_some (first_used f (xs ++ ys)) ≡ (is_some (first_used f xs) || is_some (first_used f ys)) →
        is_some (if b then Some x else first_used f (xs ++ ys)) ≡ (is_some (if b then Some x else first_used f xs) || is_some (first_used f ys))
    by_first true e = refl
    by_first false e = e

used_first : (f : Name → Bool) (x : Name) (xs : List Name) → is_some (first_used f (x ∷ xs)) ≡ (f x || is_some (first_used f xs))
used_first f x xs = by_first (f x)
  where
    by_first : (b : Bool) → is_some (if b then Some x else first_used f xs) ≡ (b || is_some (first_used f xs))
    by_first true = refl
    by_first false = refl

-- a name of a shell is in use where its constructor, its base, its recognizer or an accessor is
shell_used : (f : Name → Bool) (s : ShellOfTexts) → (f s.constructor || (is_some (first_used f (symbol_names (base_symbols s.base))) || (f s.recognizer || is_some (first_used f (symbol_names (accessor_symbols s.parts))))))
    ≡ is_some (first_used f (shell_names s))
shell_used f s =
    ap (λ b. f s.constructor || (is_some (first_used f (symbol_names (base_symbols s.base))) || b)) (sym (used_first f s.recognizer (symbol_names (accessor_symbols s.parts))))
    ∙ ap (λ b. f s.constructor || b) (sym (used_joined f (symbol_names (base_symbols s.base)) (s.recognizer ∷ symbol_names (accessor_symbols s.parts))))
    ∙ ap (λ (names : List Name). f s.constructor || is_some (first_used f names)) (sym (map-append (λ symbol. symbol.0) (base_symbols s.base) ((s.recognizer, 1) ∷ accessor_symbols s.parts)))
    ∙ sym (used_first f s.constructor (symbol_names (base_symbols s.base ++ ((s.recognizer, 1) ∷ accessor_symbols s.parts))))

-- the names of a shell, of which these are in use
pub used_so : (f : Name → Bool) (s : ShellOfTexts) (c b r a : Bool) → f s.constructor ≡ c → is_some (first_used f (symbol_names (base_symbols s.base))) ≡ b → f s.recognizer ≡ r →
    is_some (first_used f (symbol_names (accessor_symbols s.parts))) ≡ a → (c || (b || (r || a))) ≡ is_some (first_used f (shell_names s))
used_so f s c b r a of_c of_b of_r of_a = sym (λ i. of_c i || (of_b i || (of_r i || of_a i))) ∙ shell_used f s

-- ---- the Shell Principle

none_used : (f : Name → Bool) (names : List Name) → is_some (first_used f names) ≡ false → Each (λ name. f name ≡ false) names
none_used f [] e = tt
none_used f (x ∷ names) e = by_first (f x) refl e (none_used f names)
  where
    by_first : (b : Bool) → f x ≡ b → is_some (if b then Some x else first_used f names) ≡ false → (is_some (first_used f names) ≡ false → Each (λ name. f name ≡ false) names) → Each (λ name. f name ≡ false) (x ∷ names)
    by_first true same e more = absurd cc
    by_first false same e more = (same, more e)

-- where no name is in use, none is among the used ones
pub unused : (bank : Content) (f : Name → Bool) (s : ShellOfTexts) → is_some (first_used f (shell_names s)) ≡ false → AreUsed bank [] f s
unused bank f s e = record { told = none_used f (shell_names s) e }

pub refused_used : (f : Name → Bool) (earlier : List ShellOfTexts) (s : ShellOfTexts) → is_some (first_used f (shell_names s)) ≡ true → is_none (shell_refusal f earlier s) ≡ false
refused_used f earlier s e = by_first (first_used f (shell_names s)) refl e
  where
    by_first : (o : Option Name) → first_used f (shell_names s) ≡ o → is_some o ≡ true → is_none (shell_refusal f earlier s) ≡ false
    by_first None same e = absurd cc
    by_first (Some n) same e = rw same refl

pub answer_is : {X : Type 0} (bank : Content) (r : Result X ShellFault) → is_ok r ≡ is_none (answer_at bank r)
answer_is bank (Ok x) = refl
answer_is bank (Err fault) = refl

accepted_unused : (f : Name → Bool) (earlier : List ShellOfTexts) (s : ShellOfTexts) → is_none (shell_refusal f earlier s) ≡ true → f s.constructor ≡ false
accepted_unused f earlier s e = by_first (f s.constructor) refl
  where
    by_first : (b : Bool) → f s.constructor ≡ b → b ≡ false
    by_first false same = refl
    by_first true same =
        let used : is_some (first_used f (shell_names s)) ≡ true = used_first f s.constructor (symbol_names (base_symbols s.base ++ ((s.recognizer, 1) ∷ accessor_symbols s.parts))) ∙ ap (λ b. b || is_some (first_used f (symbol_names (base_symbols s.base ++ ((s.recognizer, 1) ∷ accessor_symbols s.parts))))) same in
        let refused = refused_used f earlier s used in
        absurd cc

-- ---- SHELL

-- room and names aside, the block may end in a shell
lost : (alone cases room ok few short : Bool) → (alone && cases && few && short) ≡ false → ((alone && cases && room) && (ok && few && short)) ≡ false
lost false cases room ok few short e = refl
lost true false room ok few short e = refl
lost true true false ok few short e = refl
lost true true true false few short e = refl
lost true true true true few short e = e

barred : (first ok few short : Bool) → ok ≡ false → (first && (ok && few && short)) ≡ false
barred true false few short e = refl
barred false ok few short e = refl
barred true true few short e = absurd cc

kept : (alone cases room ok few short used : Bool) → (alone && cases && few && short) ≡ true → ok ≡ true → used ≡ false → ((alone && cases && room) && (ok && few && short)) ≡ (room && not used)
kept false cases room ok few short used e f g = absurd cc
kept true false room ok few short used e f g = absurd cc
kept true true room ok false short used e f g = absurd cc
kept true true room ok true false used e f g = absurd cc
kept true true room false true true used e f g = absurd cc
kept true true room true true true true e f g = absurd cc
kept true true room true true true false e f g = refl

-- a claim that is judged after the parts were taken is judged of the line
pub leads_from : (s t : State) (next : Option Step) (judged : Judged) (new : Context) → s.history ≡ t.history → Leads s next judged new → Leads t next judged new
leads_from s t next outcome.NotAllowed new e h = h
leads_from s t next outcome.Continues new e h = record { whole = h.whole; step = h.step; history = h.history ∙ e }
leads_from s t next (outcome.Claims text) new e h =
    record { claim = h.claim; whole = h.whole; step = h.step; state = h.state ∙ ap (λ (es : History). start_of (after_claim es h.claim)) e; text_is = h.text_is }
leads_from s t next outcome.Ends new e h = h

-- the history is the same behind the parts
pub history_kept : (old mid : Context) → IsWhole old → mid.history ≡ old.history → Grows old.bank mid.bank → (state_of mid).history ≡ (state_of old).history
history_kept old mid whole same h = ap (λ (es : List Entry). events_at mid.bank es) same ∙ events_grown old mid.bank h whole

module _ (old : Context) (c b r : Name) where
  abbrev line : List Field
  line = name c ∷ name b ∷ name r ∷ []

  abbrev told : ShellOfTexts
  told = added_shell (state_of old).block c b r

  abbrev refusal : History → ShellOfTexts → Option ShellRefusal
  refusal h s = shell_refusal (λ n. is_in_use n h) (shells_of h) s

  -- whether the block may end in a shell, as far as its names do not tell
  abbrev may_end : Bool
  may_end = is_none (state_of old).block.introduced && is_empty (state_of old).block.cases && nat_le (length (state_of old).block.parts) 20 && are_short (state_of old).block.parts

  pub shell_denied : may_end ≡ false → claimed (shell_claim (state_of old) line) ≡ None
  shell_denied e =
      let h = (state_of old).history in
      let block = (state_of old).block in
      ap (λ b. claimed (only_when b (Adds (AddShell told)))) (lost (is_none block.introduced) (is_empty block.cases) (has_room h) (is_none (refusal h told)) (nat_le (length block.parts) 20) (are_short block.parts) e)

  shell_refused : is_none (refusal (state_of old).history told) ≡ false → claimed (shell_claim (state_of old) line) ≡ None
  shell_refused e =
      let h = (state_of old).history in
      let block = (state_of old).block in
      ap (λ b. claimed (only_when b (Adds (AddShell told)))) (barred (is_none block.introduced && is_empty block.cases && has_room h) (is_none (refusal h told)) (nat_le (length block.parts) 20) (are_short block.parts) e)

  shell_kept : may_end ≡ true → is_none (refusal (state_of old).history told) ≡ true → claimed (shell_claim (state_of old) line) ≡ claimed (only_when (has_place (state_of old).history c) (Adds (AddShell told)))
  shell_kept may e =
      let h = (state_of old).history in
      let block = (state_of old).block in
      ap (λ b. claimed (only_when b (Adds (AddShell told))))
      (kept (is_none block.introduced) (is_empty block.cases) (has_room h) (is_none (refusal h told)) (nat_le (length block.parts) 20) (are_short block.parts) (is_in_use c h) may e (accepted_unused (λ n. is_in_use n h) (shells_of h) told e))

  -- the same, of the shell and the history that the context has behind the parts
  pub refused_after : (h : History) (s : ShellOfTexts) → h ≡ (state_of old).history → s ≡ told → is_none (refusal h s) ≡ false → claimed (shell_claim (state_of old) line) ≡ None
  refused_after h s same is e =
      shell_refused (subst (λ (h : History). is_none (refusal h told) ≡ false) same (subst (λ (s : ShellOfTexts). is_none (refusal h s) ≡ false) is e))

  pub claimed_after : (mid : State) (s : ShellOfTexts) (judged : Judged) (new : Context) → mid.history ≡ (state_of old).history → s ≡ told → may_end ≡ true → is_none (refusal mid.history s) ≡ true →
      Leads mid (claimed (only_when (has_place mid.history s.constructor) (Adds (AddShell s)))) judged new → Leads (state_of old) (claimed (shell_claim (state_of old) line)) judged new
  claimed_after mid s judged new same is may e h =
      let accepted = subst (λ (h : History). is_none (refusal h told) ≡ true) same (subst (λ (s : ShellOfTexts). is_none (refusal mid.history s) ≡ true) is e) in
      let of_told = subst (λ (s : ShellOfTexts). Leads mid (claimed (only_when (has_place mid.history s.constructor) (Adds (AddShell s)))) judged new) is h in
      let of_history = subst (λ (h : History). Leads mid (claimed (only_when (has_place h c) (Adds (AddShell told)))) judged new) same of_told in
      subst (λ (next : Option Step). Leads (state_of old) next judged new) (sym (shell_kept may accepted)) (leads_from mid (state_of old) _ judged new same of_history)
