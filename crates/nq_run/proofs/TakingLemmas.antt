-- A form that the program answered, as a step of a run.
use Rattle.std.proofs.Common.{◌≡◌, ◌^◌, ℕ, Bool, true, false, List, [], ◌∷◌, ◌++◌, length, refl, ap, ap₂, sym, subst, ◌∙◌}
use Rattle.std.specs.Prelude.{IfOk, Result, Ok, Err, Option, None, Some, Vec, if◌then◌else◌, map}
use Rattle.std.proofs.lemmas.Bool.{lt-ltb}
use Rattle.std.specs.Option.{option_map}
use Rattle.std.specs.declared.alloc.AllocError.{AllocError}
use Rattle.std.specs.declared.alloc.Global.{Global}
use Rattle.nq_logic.specs.Terms.{Name, Term}
use Rattle.nq_logic.specs.Formulas.{holds}
use Rattle.nq_logic.specs.Derivations.{Derivable}
use Rattle.nq_logic.specs.Histories.{History, RuleClass}
use Rattle.nq_logic.specs.Histories as logic
use Rattle.nq_logic.specs.Names.{is_in_use}
use Rattle.nq_form.specs.Form.{Form}
use Rattle.nq_form.specs.Widths.{IsNarrow}
use Rattle.nq_bank.specs.Content.{Content, Grows}
use Rattle.nq_bank.specs.Marks.{IsMarkOf}
use Rattle.nq_bank.specs.declared.node.Mark.{Mark}
use Rattle.nq_bank.proofs.Growth.{Grows-refl}
use Rattle.nq_history.specs.declared.entry.Entry.{Entry}
use Rattle.nq_history.specs.declared.entry.Class.{Class}
use Rattle.nq_history.specs.Events.{class_of, event_at as entry_event, events_at}
use Rattle.nq_kernel.specs.declared.verdict.Quick.{Quick}
use Rattle.nq_kernel.specs.declared.verdict.Quick.TheVariants.{Taut, Eval, Inst}
use Rattle.nq_kernel.specs.Proving.{IsFirstFragment}
use Rattle.nq_fragments.specs.Fragments.{IsInNoFragment}
use Rattle.nq_log.specs.States.{Adds, Claim, Grounded}
use Rattle.nq_block.specs.Blocks.{IsBlock}
use Rattle.nq_block.specs.Closings.{IsFree}
use Rattle.nq_comment.specs.Reports.{Answer, Accepted, Proved, Refused, Skipped}
use Rattle.nq_comment.specs.ReportViews.{answer_of, words_of}
use Rattle.nq_comment.specs.declared.answer.FormAnswer.{FormAnswer}
use Rattle.nq_comment.specs.declared.answer.FormAnswer.TheVariants as answers
use Rattle.nq_events.specs.Events as model
use Rattle.nq_events.specs.Effects.{history_after}
use Rattle.nq_events.specs.Reading.{event_of, event_refusal, reading, unless_refused}
use Rattle.nq_events.specs.Refusals.{Refusal, NameInUse}
use Rattle.nq_events.specs.TermRefusals.{first}
use Rattle.nq_events.specs.OwnRefusals.{formula_refusal, own_refusal, refused_if, room_refusal, shape_refusal}
use Rattle.nq_events.specs.AllowedEvents.{IsStatable}
use Rattle.nq_events.proofs.AllowedEvents.{events_are_allowed}
use Rattle.nq_event.specs.EventsAt.{EventStands, event_at}
use Rattle.nq_event.specs.Parsed.{IsEventOf, IsFaultOf}
use Rattle.nq_event.specs.declared.event.Event.{Event}
use Rattle.nq_event.specs.declared.fault.EventFault.{EventFault}
use Rattle.nq_event.specs.declared.fault.EventFault.TheVariants as fault
use Rattle.nq_spelling.specs.Spelled.{IsSpelled}
use Rattle.nq_spelling.specs.SpelledEvents.{EventsAreSpelled, IsSpelledEvent, IsSpelledFormula}
use Rattle.nq_answers.specs.Claims.{claims_at, claims_of, event_claims}
use Rattle.nq_answers.specs.Steps.{AnswersUnless, IsOutcome, IsTried, by_tautology, by_evaluation, by_instance, after_event, first_answer, is_taken, refusal_answer, refused, untaken}
use Rattle.nq_answers.proofs.Deriving.{TakesNothing, no_refusal, refused_nothing}
use Rattle.nq_run.specs.Answers.{IsAnswerTo, quick_of}
use Rattle.nq_run.specs.Banks.{IsGivenBack, KeepsBank, Leaves, LeavesBy}
use Rattle.nq_run.specs.HistoryView.{history_of, SessionStands}
use Rattle.nq_run.specs.Outcome.{AreBlocks}
use Rattle.nq_run.specs.declared.proving.Found.{Found}
use Rattle.nq_run.specs.declared.proving.Found.TheVariants as finding
use Rattle.nq_run.specs.declared.proving.Found.TheVariants.{Fragment, Moves}
use Rattle.nq_run.specs.Sessions.{IsAdded, IsFoundBy, found_claims, way_in, IsUntaken, Takes, TakesEvent, TriesLemma, lemma_claims}
use Rattle.nq_run.specs.declared.session.Session.{Session}
use Rattle.nq_run.specs.declared.session.Taken.{Taken}
use Rattle.nq_run.proofs.SessionLemmas.{same_history}

-- ---- what was read of a form

-- an event that was read is the form's own, and nothing is refused
pub record IsRead (bank : Content) (h : History) (form : Form) (event : Event) : Type 0 where
  pub lawful : event_refusal h form ≡ None
  pub stands : EventStands bank event
  pub is : event_at bank event ≡ event_of h form

pub read_is : (bank : Content) (h : History) (form : Form) (event : Event) → IsEventOf bank (reading h form) event → IsRead bank h form event
read_is bank h form event read = go (event_refusal h form) refl read
  where
    go : (o : Option Refusal) → event_refusal h form ≡ o → IsEventOf bank (unless_refused o (event_of h form)) event → IsRead bank h form event
    go None e is = record { lawful = e; stands = is.0; is = is.1 }
    go (Some refusal) e is = absurd is

-- a fault tells the form's own refusal
pub record IsRefusedFor (h : History) (form : Form) (answer : Answer) : Type 0 where
  pub refusal : Refusal
  pub met : event_refusal h form ≡ Some refusal
  pub told : answer ≡ refusal_answer refusal

pub refused_for : (h : History) (form : Form) (code : ℕ) (words : Vec (Vec ℕ Global) Global) → IsFaultOf (reading h form) (fault.Refused code words) → IsRefusedFor h form (Refused code (words_of words.items))
refused_for h form code words told = go (event_refusal h form) refl told
  where
    go : (o : Option Refusal) → event_refusal h form ≡ o → IsFaultOf (unless_refused o (event_of h form)) (fault.Refused code words) → IsRefusedFor h form (Refused code (words_of words.items))
    go None e is = absurd is
    go (Some refusal) e is = record { refusal = refusal; met = e; told = ap₂ (λ (c : ℕ) (w : List (List ℕ)). Refused c w) is.code_is is.words_are }

-- ---- answers that take nothing

pub kept_by : (b : Bool) (h k : History) → b ≡ false → (if b then k else h) ≡ h
kept_by true h k e = cc
kept_by false h k e = refl

pub none_by : (b : Bool) (claims : List Claim) → b ≡ false → (if b then claims else []) ≡ []
none_by true claims e = cc
none_by false claims e = refl

kept_after : (h : History) (event : model.Event) (answer : Answer) → is_taken answer ≡ false → after_event h event answer ≡ h
kept_after h event answer e = kept_by (is_taken answer) h _ e

no_claims : (event : model.Event) (answer : Answer) → is_taken answer ≡ false → claims_of event answer ≡ []
no_claims event answer e = none_by (is_taken answer) _ e

pub no_block : (h : History) (claims : List Claim) (block : List ℕ) → block ≡ [] → claims ≡ [] → AreBlocks h claims block
no_block h claims block empty none = subst (λ (c : List Claim). AreBlocks h c block) (sym none) empty

-- an answer that keeps an event from being taken
taken_not : (o : Option Answer) (answer : Answer) → Some answer ≡ o → TakesNothing o → is_taken answer ≡ false
taken_not None answer e nothing = absurd cc
taken_not (Some a) answer e nothing = let same : answer ≡ a = cc in ap is_taken same ∙ nothing

module _ (limit : ℕ) (old : Session) (mark : Mark) (form : Form) (event : model.Event) (logging : Bool) (answer : Answer) (r : Taken) (is : IsUntaken old mark answer r) where
  -- the session as it was
  pub untaken_as : is_taken answer ≡ false → AnswersUnless limit (untaken (history_of old) event) (history_of old) form event answer → TakesEvent limit old mark form event logging r
  untaken_as nothing answered =
      let h : History = history_of old in
      let told : is_taken (answer_of r.answer) ≡ false = ap is_taken is.answer_is ∙ nothing in
      record {
        answered = subst (AnswersUnless limit (untaken h event) h form event) (sym is.answer_is) answered;
        after_is = is.same ∙ sym (kept_after h event (answer_of r.answer) told);
        stands = is.stands;
        bank = subst (λ (b : Bool). LeavesBy b event mark old r.session) (sym told) is.bank;
        written = λ on. no_block h (claims_of event (answer_of r.answer)) r.block is.block_is (no_claims event (answer_of r.answer) told);
      }

  -- an event that something keeps from being taken
  pub hindered : Some answer ≡ untaken (history_of old) event → TakesEvent limit old mark form event logging r
  hindered why =
      untaken_as (taken_not (untaken (history_of old) event) answer why (refused_nothing (own_refusal (history_of old) event)))
      (subst (λ (o : Option Answer). AnswersUnless limit o (history_of old) form event answer) why refl)

-- ---- a form by its event

module _ (old : Session) (bank : Content) (form : Form) (event : Event) (logging : Bool) (stands : SessionStands old) (grows : Grows old.bank bank) where
  read_here : IsEventOf bank (reading (events_at old.bank old.history) form) event → IsRead bank (history_of old) form event
  read_here read = read_is bank (history_of old) form event read

  pub event_stands : IsEventOf bank (reading (events_at old.bank old.history) form) event → EventStands bank event
  event_stands read = (read_here read).stands

  -- a log can spell the event
  pub spelled_here : EventsAreSpelled → IsEventOf bank (reading (events_at old.bank old.history) form) event → IsSpelled form → IsNarrow (2 ^ 25) form → IsSpelledEvent (events_at bank old.history) (event_at bank event)
  spelled_here law read spelled narrow =
      let is = read_here read in
      let own : IsSpelledEvent (history_of old) (event_of (history_of old) form) = law (history_of old) form stands.few spelled narrow is.lawful in
      subst (λ (h : History). IsSpelledEvent h (event_at bank event)) (sym (same_history old bank stands grows))
      (subst (IsSpelledEvent (history_of old)) (sym is.is) own)

  -- what the event leaves in the bank that has grown is what the form keeps of the one before
  keeps_bank : (mark : Mark) → IsMarkOf old.bank mark → (taken : Bool) (new : Session) → LeavesBy taken (event_of (history_of old) form) mark (record { bank = bank; history = old.history }) new → KeepsBank taken old form new
  keeps_bank mark of true new left = (bank, grows, left)
  keeps_bank mark of false new left = left ∙ of.returns bank grows

  -- what the event is answered is what the form is answered
  pub takes_form : (limit : ℕ) (mark : Mark) (r : Taken) → IsMarkOf old.bank mark → IsEventOf bank (reading (events_at old.bank old.history) form) event
      → TakesEvent limit (record { bank = bank; history = old.history }) mark form (event_at bank event) logging r → Takes limit old form logging r
  takes_form limit mark r of read taken =
      let is = read_here read in
      let h : History = history_of old in
      let grown : Session = record { bank = bank; history = old.history } in
      let same : history_of grown ≡ h = same_history old bank stands grows in
      let own : TakesEvent limit grown mark form (event_of h form) logging r = subst (λ (e : model.Event). TakesEvent limit grown mark form e logging r) is.is taken in
      let answered : AnswersUnless limit (untaken h (event_of h form)) h form (event_of h form) (answer_of r.answer) =
      subst (λ (k : History). AnswersUnless limit (untaken k (event_of h form)) k form (event_of h form) (answer_of r.answer)) same own.answered in
      record {
        answered = subst (λ (o : Option Refusal). AnswersUnless limit (first_answer (refused o) (untaken h (event_of h form))) h form (event_of h form) (answer_of r.answer)) (sym is.lawful) answered;
        after_is = own.after_is ∙ ap (λ (k : History). after_event k (event_of h form) (answer_of r.answer)) same;
        stands = own.stands;
        bank = keeps_bank mark of (is_taken (answer_of r.answer)) r.session own.bank;
        written = λ on. subst (λ (k : History). AreBlocks k (claims_of (event_of h form) (answer_of r.answer)) r.block) same (own.written on);
      }

-- a form of which no event was read
pub refused_form : (limit : ℕ) (old grown : Session) (mark : Mark) (form : Form) (logging : Bool) (why : EventFault) (answer : FormAnswer) (r : Taken) → history_of grown ≡ history_of old
    → IsMarkOf old.bank mark → Grows old.bank grown.bank
    → IsFaultOf (reading (events_at old.bank old.history) form) why → IsAnswerTo why answer → IsUntaken grown mark (answer_of answer) r → Takes limit old form logging r
refused_form limit old grown mark form logging fault.Memory answer r same of grows told is kept = absurd is
refused_form limit old grown mark form logging (fault.Refused code words) answer r same of grows told is kept =
    let h : History = history_of old in
    let own = refused_for h form code words told in
    let says : answer_of r.answer ≡ refusal_answer own.refusal = kept.answer_is ∙ is ∙ own.told in
    let nothing : is_taken (answer_of r.answer) ≡ false = ap is_taken says in
    record {
      answered = subst (λ (o : Option Refusal). AnswersUnless limit (first_answer (refused o) (untaken h (event_of h form))) h form (event_of h form) (answer_of r.answer)) (sym own.met) says;
      after_is = kept.same ∙ same ∙ sym (kept_after h (event_of h form) (answer_of r.answer) nothing);
      stands = kept.stands;
      bank = subst (λ (b : Bool). KeepsBank b old form r.session) (sym nothing) (kept.bank ∙ of.returns grown.bank grows);
      written = λ on. no_block h (claims_at h form (answer_of r.answer)) r.block kept.block_is (no_claims (event_of h form) (answer_of r.answer) nothing);
    }

-- ---- an event that is accepted

-- an event that takes no others away
abbrev pub IsKeeping : model.Event → Type 0
IsKeeping model.BootStrap = ⊥
IsKeeping (model.AddShell shell) = Unit {0}
IsKeeping (model.Dcl name formals) = Unit {0}
IsKeeping (model.Defn name formals body measures) = Unit {0}
IsKeeping (model.AddAxiom name classes t) = Unit {0}
IsKeeping (model.ProveLemma name classes t hints) = Unit {0}
IsKeeping (model.Toggle name old disabled) = Unit {0}
IsKeeping (model.Undo name) = ⊥
IsKeeping model.Skipped = Unit {0}

-- nothing but what was read is left in the bank
leaves_same : (event : model.Event) (read new : Session) → IsKeeping event → new.bank ≡ read.bank → Leaves event read new
leaves_same model.BootStrap read new keeping same = absurd keeping
leaves_same (model.AddShell shell) read new keeping same = same
leaves_same (model.Dcl name formals) read new keeping same = same
leaves_same (model.Defn name formals body measures) read new keeping same = (subst (Grows read.bank) (sym same) (Grows-refl read.bank), ap (λ (b : Content). b.names) same)
leaves_same (model.AddAxiom name classes t) read new keeping same = same
leaves_same (model.ProveLemma name classes t hints) read new keeping same = same
leaves_same (model.Toggle name old disabled) read new keeping same = same
leaves_same (model.Undo name) read new keeping same = absurd keeping
leaves_same model.Skipped read new keeping same = same

pub accepted_as : (limit : ℕ) (old : Session) (mark : Mark) (form : Form) (event : model.Event) (keeping : IsKeeping event) (entry : Entry) (logging : Bool) (r : Taken) → IsAdded old entry r.session → r.answer ≡ answers.Accepted
    → untaken (history_of old) event ≡ None → IsOutcome limit (history_of old) form event Accepted
    → history_after (history_of old) event None ≡ history_of old ++ entry_event old.bank entry ∷ []
    → (logging ≡ true → AreBlocks (history_of old) (event_claims event None) r.block) → TakesEvent limit old mark form event logging r
accepted_as limit old mark form event keeping entry logging r added accepted free outcome later block =
    let h : History = history_of old in
    let said : answer_of r.answer ≡ Accepted = ap answer_of accepted in
    record {
      answered = subst (AnswersUnless limit (untaken h event) h form event) (sym said) (subst (λ (o : Option Answer). AnswersUnless limit o h form event Accepted) (sym free) outcome);
      after_is = added.after ∙ sym later ∙ sym (ap (after_event h event) said);
      stands = added.stands;
      bank = subst (λ (a : Answer). LeavesBy (is_taken a) event mark old r.session) (sym said) (leaves_same event old r.session keeping added.bank);
      written = λ on. subst (λ (a : Answer). AreBlocks h (claims_of event a) r.block) (sym said) (block on);
    }

boot_lawful : (h : History) → own_refusal h model.BootStrap ≡ None
unfolding own_refusal
boot_lawful h = refl

boot_answered : (limit : ℕ) (h : History) (form : Form) → AnswersUnless limit (untaken h model.BootStrap) h form model.BootStrap Accepted
boot_answered limit h form = subst (λ (o : Option Refusal). AnswersUnless limit (refused o) h form model.BootStrap Accepted) (sym (boot_lawful h)) refl

passed_lawful : (h : History) → own_refusal h model.Skipped ≡ None
unfolding own_refusal
passed_lawful h = refl

-- a form that is passed over
pub passed_answered : (limit : ℕ) (h : History) (form : Form) → AnswersUnless limit (untaken h model.Skipped) h form model.Skipped Skipped
passed_answered limit h form = subst (λ (o : Option Refusal). AnswersUnless limit (refused o) h form model.Skipped Skipped) (sym (passed_lawful h)) refl

-- the ground history again
pub grounded : (limit : ℕ) (old new : Session) (mark : Mark) (form : Form) (logging : Bool) (text : List ℕ) → history_of new ≡ [] → SessionStands new → IsGivenBack old new
    → (logging ≡ true → IsBlock (history_of old) Grounded text) → TakesEvent limit old mark form model.BootStrap logging (record { session = new; answer = answers.Accepted; block = text })
grounded limit old new mark form logging text empty stands given block = record { answered = boot_answered limit (history_of old) form; after_is = empty; stands = stands; bank = given; written = block }

-- ---- axioms and lemmas

module _ (h : History) (name : Name) (classes : List RuleClass) (t : Term) where
  pub axiom_is : own_refusal h (model.AddAxiom name classes t) ≡ formula_refusal h name classes t
  unfolding own_refusal
  axiom_is = refl

  pub lemma_is : (hints : model.Hints) → own_refusal h (model.ProveLemma name classes t hints) ≡ formula_refusal h name classes t
  unfolding own_refusal
  lemma_is hints = refl

  -- the refusal of a formula, by what its name and its classes are found to be
  pub formula_by : (used : Bool) (unfit : Option Refusal) → is_in_use name h ≡ used → shape_refusal classes t ≡ unfit
      → refused (formula_refusal h name classes t) ≡ refused (first (refused_if used (NameInUse name)) (first unfit (room_refusal h)))
  formula_by used unfit u s = ap₂ (λ (b : Bool) (o : Option Refusal). refused (first (refused_if b (NameInUse name)) (first o (room_refusal h)))) u s

  -- the name of a formula that isn't refused is free
  pub free_name : refused (formula_refusal h name classes t) ≡ None → IsSpelledFormula h name t → IsFree h name
  free_name none spelled =
      let statable : IsStatable h name classes t = events_are_allowed h (model.AddAxiom name classes t) (axiom_is ∙ no_refusal (formula_refusal h name classes t) none) in
      record { symbol = spelled.symbol; unused = statable.addable.unused; room = lt-ltb (length h) 10000 statable.addable.room }

-- an axiom that was added
pub axiom_taken : (limit : ℕ) (old : Session) (mark : Mark) (form : Form) (entry : Entry) (name : Name) (classes : List RuleClass) (t : Term) (logging : Bool) (r : Taken) → refused (formula_refusal (history_of old) name classes t) ≡ None
    → entry_event old.bank entry ≡ logic.Axiom name classes t → IsAdded old entry r.session → r.answer ≡ answers.Accepted
    → (logging ≡ true → IsBlock (history_of old) (Adds (logic.Axiom name [] t)) r.block) → TakesEvent limit old mark form (model.AddAxiom name classes t) logging r
axiom_taken limit old mark form entry name classes t logging r none is added accepted block =
    let h : History = history_of old in
    accepted_as limit old mark form (model.AddAxiom name classes t) tt entry logging r added accepted (ap refused (axiom_is h name classes t) ∙ none) refl (ap (λ (e : logic.Event). h ++ e ∷ []) (sym is)) block

-- the same of what is answered to it
pub axiom_taken_on : (limit : ℕ) (old : Session) (mark : Mark) (form : Form) (entry : Entry) (name : Name) (classes : List RuleClass) (t : Term) (logging : Bool) (block : List ℕ) (o : Result Taken AllocError)
    → refused (formula_refusal (history_of old) name classes t) ≡ None → entry_event old.bank entry ≡ logic.Axiom name classes t
    → IfOk o (λ r. IsAdded old entry r.session) → IfOk o (λ r. r.answer ≡ answers.Accepted) → IfOk o (λ r. r.block ≡ block)
    → (logging ≡ true → IsBlock (history_of old) (Adds (logic.Axiom name [] t)) block) → IfOk o (TakesEvent limit old mark form (model.AddAxiom name classes t) logging)
axiom_taken_on limit old mark form entry name classes t logging block (Err why) none is added accepted same written = tt
axiom_taken_on limit old mark form entry name classes t logging block (Ok r) none is added accepted same written =
    axiom_taken limit old mark form entry name classes t logging r none is added accepted (λ on. subst (IsBlock (history_of old) (Adds (logic.Axiom name [] t))) (sym same) (written on))

-- a lemma that was tried
pub tried_lemma : (limit : ℕ) (old : Session) (mark : Mark) (form : Form) (name : Name) (classes : List RuleClass) (t : Term) (hints : model.Hints) (logging : Bool) (r : Taken) → refused (formula_refusal (history_of old) name classes t) ≡ None
    → TriesLemma limit old mark form name classes t hints logging r → TakesEvent limit old mark form (model.ProveLemma name classes t hints) logging r
tried_lemma limit old mark form name classes t hints logging r none tries =
    let h : History = history_of old in
    let event : model.Event = model.ProveLemma name classes t hints in
    record {
      answered = subst (λ (o : Option Answer). AnswersUnless limit o h form event (answer_of r.answer)) (sym (ap refused (lemma_is h name classes t hints) ∙ none)) tries.tried;
      after_is = tries.after_is;
      stands = tries.stands;
      bank = tries.bank;
      written = tries.written;
    }

-- a lemma that was proved and added
pub lemma_proved : (limit : ℕ) (old : Session) (mark : Mark) (form : Form) (name : Name) (classes : List RuleClass) (t : Term) (hints : model.Hints) (answer : Answer) (logging : Bool) (r : Taken) → is_taken answer ≡ true
    → IsTried limit (history_of old) form hints t answer → history_of r.session ≡ history_of old ++ logic.Lemma name classes t ∷ [] → SessionStands r.session → r.session.bank ≡ old.bank → answer_of r.answer ≡ answer
    → (logging ≡ true → IsBlock (history_of old) (Adds (logic.Lemma name [] t)) r.block) → TriesLemma limit old mark form name classes t hints logging r
lemma_proved limit old mark form name classes t hints answer logging r takes tried later stands same says block =
    let h : History = history_of old in
    let told : is_taken (answer_of r.answer) ≡ true = ap is_taken says ∙ takes in
    record {
      tried = subst (IsTried limit h form hints t) (sym says) tried;
      after_is = later ∙ sym (ap (λ (b : Bool). if b then h ++ logic.Lemma name classes t ∷ [] else h) told);
      stands = stands;
      bank = subst (λ (b : Bool). LeavesBy b (model.ProveLemma name classes t hints) mark old r.session) (sym told) same;
      written = λ on. subst (λ (b : Bool). AreBlocks h (if b then Adds (logic.Lemma name [] t) ∷ [] else []) r.block) (sym told) (block on);
    }

-- the way in which a fragment proves a lemma
pub fragment_tried : (limit : ℕ) (h : History) (form : Form) (hints : model.Hints) (t : Term) (way : Quick) → IsFirstFragment h t way → Derivable h (holds t) → IsTried limit h form hints t (Proved (quick_of way))
fragment_tried limit h form hints t Taut first shown = by_tautology first refl
fragment_tried limit h form hints t Eval first shown = by_evaluation (record { first = first; shown = shown; answer_is = refl })
fragment_tried limit h form hints t Inst first shown = by_instance first refl

-- a lemma that is not taken
pub lemma_left : (limit : ℕ) (old : Session) (mark : Mark) (form : Form) (name : Name) (classes : List RuleClass) (t : Term) (hints : model.Hints) (answer : Answer) (logging : Bool) (r : Taken) → is_taken answer ≡ false
    → IsTried limit (history_of old) form hints t answer → IsUntaken old mark answer r → TriesLemma limit old mark form name classes t hints logging r
lemma_left limit old mark form name classes t hints answer logging r takes tried kept =
    let nothing : is_taken (answer_of r.answer) ≡ false = ap is_taken kept.answer_is ∙ takes in
    record {
      tried = subst (IsTried limit (history_of old) form hints t) (sym kept.answer_is) tried;
      after_is = kept.same ∙ sym (kept_by (is_taken (answer_of r.answer)) (history_of old) _ nothing);
      stands = kept.stands;
      bank = subst (λ (b : Bool). LeavesBy b (model.ProveLemma name classes t hints) mark old r.session) (sym nothing) kept.bank;
      written = λ on. no_block (history_of old) (lemma_claims name t (answer_of r.answer)) r.block kept.block_is (none_by (is_taken (answer_of r.answer)) _ nothing);
    }

-- what is found by a fragment
pub way_found : (limit : ℕ) (h : History) (t : Term) (result : Found) (way : Quick) → way_in result ≡ Some way → IsFoundBy limit h t result → IsFirstFragment h t way × Derivable h (holds t)
way_found limit h t (Fragment line own) way is found = let same : own ≡ way = cc in subst (λ (w : Quick). IsFirstFragment h t w × Derivable h (holds t)) same found
way_found limit h t (Moves line) way is found = absurd cc
way_found limit h t finding.OutOfSteps way is found = absurd cc
way_found limit h t finding.Unknown way is found = absurd cc

pub way_block : (h : History) (name : Name) (t : Term) (result : Found) (way : Quick) (block : List ℕ) → way_in result ≡ Some way → AreBlocks h (found_claims name t result) block
    → IsBlock h (Adds (logic.Lemma name [] t)) block
way_block h name t (Fragment line own) way block is blocks = blocks
way_block h name t (Moves line) way block is blocks = absurd cc
way_block h name t finding.OutOfSteps way block is blocks = absurd cc
way_block h name t finding.Unknown way block is blocks = absurd cc

-- what is not found by a fragment is in none
pub no_way : (limit : ℕ) (h : History) (t : Term) (result : Found) → way_in result ≡ None → IsFoundBy limit h t result → IsInNoFragment h t
no_way limit h t (Fragment line own) is found = absurd cc
no_way limit h t (Moves line) is found = found.0
no_way limit h t finding.OutOfSteps is found = found.0
no_way limit h t finding.Unknown is found = found

-- what is answered to a lemma that was proved and added
pub proved_on : (limit : ℕ) (o : Result Taken AllocError) (old : Session) (mark : Mark) (form : Form) (name : Name) (classes : List RuleClass) (t : Term) (hints : model.Hints) (told : FormAnswer) (answer : Answer) (logging : Bool) (block : List ℕ)
    → is_taken answer ≡ true → IsTried limit (history_of old) form hints t answer → IfOk o (λ r. history_of r.session ≡ history_of old ++ logic.Lemma name classes t ∷ []) → IfOk o (λ r. SessionStands r.session)
    → IfOk o (λ r. r.session.bank ≡ old.bank) → IfOk o (λ r. r.answer ≡ told) → answer_of told ≡ answer → IfOk o (λ r. r.block ≡ block) → (logging ≡ true → IsBlock (history_of old) (Adds (logic.Lemma name [] t)) block)
    → IfOk o (TriesLemma limit old mark form name classes t hints logging)
proved_on limit (Err why) old mark form name classes t hints told answer logging block takes tried later stands same says is written text = tt
proved_on limit (Ok r) old mark form name classes t hints told answer logging block takes tried later stands same says is written text =
    lemma_proved limit old mark form name classes t hints answer logging r takes tried later stands same (ap answer_of says ∙ is) (λ on. subst (IsBlock (history_of old) (Adds (logic.Lemma name [] t))) (sym written) (text on))

-- what a formula's answer tells, where its classes are these
pub told_none : (h : History) (name : Name) (xs ys : List Class) (t : Term) (o : Option FormAnswer) → xs ≡ ys → option_map answer_of o ≡ refused (formula_refusal h name (map class_of xs) t) → o ≡ None
    → refused (formula_refusal h name (map class_of ys) t) ≡ None
told_none h name xs ys t o same told none =
    ap (λ (cs : List Class). refused (formula_refusal h name (map class_of cs) t)) (sym same) ∙ sym told ∙ ap (option_map answer_of) none

pub told_some : (h : History) (name : Name) (xs ys : List Class) (t : Term) (o : Option FormAnswer) (answer : FormAnswer) → xs ≡ ys → option_map answer_of o ≡ refused (formula_refusal h name (map class_of xs) t) → o ≡ Some answer
    → Some (answer_of answer) ≡ refused (formula_refusal h name (map class_of ys) t)
told_some h name xs ys t o answer same told some =
    sym (ap (option_map answer_of) some) ∙ told ∙ ap (λ (cs : List Class). refused (formula_refusal h name (map class_of cs) t)) same

-- the session of a try, which has the bank that it had before
pub same_session : (old : Session) (bank : Content) → bank ≡ old.bank → ◌≡◌ {A = Session} (record { bank = bank; history = old.history }) old
same_session old bank same = ap (λ (b : Content). record { bank = b; history = old.history }) same
