-- Functions without axioms, and names that are disabled or enabled.
use Rattle.std.proofs.Common.{◌≡◌, ℕ, Bool, true, false, List, [], ◌∷◌, ◌++◌, length, refl, ap, ap₂, sym, subst, ◌∙◌}
use Rattle.std.proofs.lemmas.Bool.{lt-ltb}
use Rattle.std.specs.Prelude.{IfOk, IsTrue, Option, None, Some, Result, Ok, Err, is_some, not}
use Rattle.std.specs.Borrow.{Bor}
use Rattle.std.specs.Option.{option_copied, option_map}
use Rattle.nq_logtext.specs.Symbols.{is_symbol}
use Rattle.nq_logic.specs.Terms.{Name}
use Rattle.nq_logic.specs.Histories.{History}
use Rattle.nq_logic.specs.Names.{is_in_use, looked_up}
use Rattle.nq_logic.specs.ShellPrinciple.{first_repeated}
use Rattle.nq_form.specs.Form.{Form}
use Rattle.nq_bank.specs.declared.node.Mark.{Mark}
use Rattle.nq_history.specs.declared.entry.Entry.{Entry}
use Rattle.nq_history.specs.Events.{event_at}
use Rattle.nq_log.specs.States.{Claim}
use Rattle.nq_block.specs.Blocks.{IsBlock}
use Rattle.nq_block.specs.Closings.{CanToggle, IsFree}
use Rattle.nq_events.specs.Events as model
use Rattle.nq_events.specs.Refusals.{Refusal, NameInUse, NoSuchEvent, RepeatedFormal, FormalIsConstant}
use Rattle.nq_events.specs.TermRefusals.{first}
use Rattle.nq_events.specs.OwnRefusals.{own_refusal, first_constant, refused_for, refused_if, room_refusal}
use Rattle.nq_events.specs.Effects.{history_after}
use Rattle.nq_events.specs.AllowedEvents.{IsAddable, IsDeclarable, IsTogglable}
use Rattle.nq_events.proofs.AllowedEvents.{events_are_allowed}
use Rattle.nq_comment.specs.Reports.{Answer, Accepted}
use Rattle.nq_comment.specs.ReportViews.{answer_of}
use Rattle.nq_comment.specs.declared.answer.FormAnswer.{FormAnswer}
use Rattle.nq_comment.specs.declared.answer.FormAnswer.TheVariants as answers
use Rattle.nq_answers.specs.Claims.{event_claims}
use Rattle.nq_answers.specs.Steps.{IsOutcome, refusal_answer, refused, untaken}
use Rattle.nq_answers.proofs.Deriving.{no_refusal}
use Rattle.nq_run.specs.declared.session.Session.{Session}
use Rattle.nq_run.specs.declared.session.Taken.{Taken}
use Rattle.nq_run.specs.HistoryView.{history_of}
use Rattle.nq_run.specs.Outcome.{AreBlocks}
use Rattle.nq_run.specs.Sessions.{IsAdded, TakesEvent}
use Rattle.nq_run.proofs.TakingLemmas.{accepted_as, IsKeeping}

-- ---- what an answer tells of a session's event

pub some_told : (o : Option FormAnswer) (answer : FormAnswer) (why : Option Answer) → option_map answer_of o ≡ why → o ≡ Some answer → Some (answer_of answer) ≡ why
some_told o answer why told some = sym (ap (option_map answer_of) some) ∙ told

pub none_told : (o : Option FormAnswer) (why : Option Answer) → option_map answer_of o ≡ why → o ≡ None → why ≡ None
none_told o why told none = sym told ∙ ap (option_map answer_of) none

-- ---- events that are accepted

-- nothing keeps the event from being taken, and its entry stands at the end
module _ (limit : ℕ) (old : Session) (mark : Mark) (form : Form) (event : model.Event) (keeping : IsKeeping event) (logging : Bool) (entry : Entry) (claim : Claim) (block : List ℕ) (none : untaken (history_of old) event ≡ None)
    (outcome : IsOutcome limit (history_of old) form event Accepted) (later : history_after (history_of old) event None ≡ history_of old ++ event_at old.bank entry ∷ [])
    (claims : event_claims event None ≡ claim ∷ []) (text : logging ≡ true → IsBlock (history_of old) claim block) where
  blocks : (text_of : List ℕ) → text_of ≡ block → logging ≡ true → AreBlocks (history_of old) (event_claims event None) text_of
  blocks text_of written on =
      subst (λ (cs : List Claim). AreBlocks (history_of old) cs text_of) (sym claims) (subst (IsBlock (history_of old) claim) (sym written) (text on))

  pub accepted : {E : Type 0} (r : Result Taken E) → IfOk r (λ t. IsAdded old entry t.session) → IfOk r (λ t. t.answer ≡ answers.Accepted) → IfOk r (λ t. t.block ≡ block)
      → IfOk r (TakesEvent limit old mark form event logging)
  accepted (Ok t) added told written = accepted_as limit old mark form event keeping entry logging t added told none outcome later (blocks t.block written)
  accepted (Err e) added told written = tt

-- the name of an event that may be added is free
pub free_name : (h : History) (name : Name) → IsTrue (is_symbol name) → IsAddable h name → IsFree h name
free_name h name symbol addable = record { symbol = symbol; unused = addable.unused; room = lt-ltb (length h) 10000 addable.room }

-- ---- declarations

-- the first refusal of a declaration, by what its name and its formals are found to be
abbrev dcl_refusal : History → Name → Bool → Option Name → Option Name → Option Refusal
dcl_refusal h name used constant repeated =
    first (refused_if used (NameInUse name)) (first (refused_for FormalIsConstant constant) (first (refused_for RepeatedFormal repeated) (room_refusal h)))

module _ (h : History) (name : Name) (formals : List Name) where
  dcl_is : own_refusal h (model.Dcl name formals) ≡ dcl_refusal h name (is_in_use name h) (first_constant formals) (first_repeated formals)
  unfolding own_refusal
  dcl_is = refl

  dcl_by : (used : Bool) (constant repeated : Option Name) → used ≡ is_in_use name h → constant ≡ first_constant formals → repeated ≡ first_repeated formals
      → refused (dcl_refusal h name used constant repeated) ≡ refused (own_refusal h (model.Dcl name formals))
  dcl_by used constant repeated u c r =
      ap (λ (b : Bool). refused (dcl_refusal h name b constant repeated)) u
      ∙ ap₂ (λ (x y : Option Name). refused (dcl_refusal h name (is_in_use name h) x y)) c r
      ∙ ap refused (sym dcl_is)

  pub dcl_used : (answer : Answer) → true ≡ is_in_use name h → answer ≡ refusal_answer (NameInUse name) → Some answer ≡ refused (own_refusal h (model.Dcl name formals))
  dcl_used answer used is = ap Some is ∙ dcl_by true (first_constant formals) (first_repeated formals) used refl refl

  pub dcl_constant : (answer : Answer) (x : Name) → false ≡ is_in_use name h → Some x ≡ first_constant formals → answer ≡ refusal_answer (FormalIsConstant x)
      → Some answer ≡ refused (own_refusal h (model.Dcl name formals))
  dcl_constant answer x used constant is = ap Some is ∙ dcl_by false (Some x) (first_repeated formals) used constant refl

  pub dcl_repeated : (answer : Answer) (x : Name) → false ≡ is_in_use name h → None ≡ first_constant formals → Some x ≡ first_repeated formals → answer ≡ refusal_answer (RepeatedFormal x)
      → Some answer ≡ refused (own_refusal h (model.Dcl name formals))
  dcl_repeated answer x used constant repeated is = ap Some is ∙ dcl_by false None (Some x) used constant repeated

  pub dcl_room : false ≡ is_in_use name h → None ≡ first_constant formals → None ≡ first_repeated formals → refused (room_refusal h) ≡ refused (own_refusal h (model.Dcl name formals))
  dcl_room used constant repeated = dcl_by false None None used constant repeated

  pub dcl_free : IsTrue (is_symbol name) → refused (own_refusal h (model.Dcl name formals)) ≡ None → IsFree h name
  dcl_free symbol none =
      let is : IsDeclarable h name formals = events_are_allowed h (model.Dcl name formals) (no_refusal (own_refusal h (model.Dcl name formals)) none) in
      free_name h name symbol is.addable

-- ---- names that are disabled or enabled

abbrev toggle_refusal : History → Name → Name → Bool → Bool → Option Refusal
toggle_refusal h name old used known = first (refused_if used (NameInUse name)) (first (refused_if (not known) (NoSuchEvent old)) (room_refusal h))

module _ (h : History) (name old : Name) (disabled : Bool) where
  toggle_is : own_refusal h (model.Toggle name old disabled) ≡ toggle_refusal h name old (is_in_use name h) (is_some (looked_up old h))
  unfolding own_refusal
  toggle_is = refl

  toggle_by : (used known : Bool) → used ≡ is_in_use name h → known ≡ is_some (looked_up old h) → refused (toggle_refusal h name old used known) ≡ refused (own_refusal h (model.Toggle name old disabled))
  toggle_by used known u k = ap₂ (λ (a b : Bool). refused (toggle_refusal h name old a b)) u k ∙ ap refused (sym toggle_is)

  pub toggle_used : (answer : Answer) → true ≡ is_in_use name h → answer ≡ refusal_answer (NameInUse name) → Some answer ≡ refused (own_refusal h (model.Toggle name old disabled))
  toggle_used answer used is = ap Some is ∙ toggle_by true (is_some (looked_up old h)) used refl

  pub toggle_unknown : (answer : Answer) → false ≡ is_in_use name h → false ≡ is_some (looked_up old h) → answer ≡ refusal_answer (NoSuchEvent old)
      → Some answer ≡ refused (own_refusal h (model.Toggle name old disabled))
  toggle_unknown answer used known is = ap Some is ∙ toggle_by false false used known

  pub toggle_room : false ≡ is_in_use name h → true ≡ is_some (looked_up old h) → refused (room_refusal h) ≡ refused (own_refusal h (model.Toggle name old disabled))
  toggle_room used known = toggle_by false true used known

  pub can_toggle : IsTrue (is_symbol name) → refused (own_refusal h (model.Toggle name old disabled)) ≡ None → CanToggle h name old
  can_toggle symbol none =
      let is : IsTogglable h name old = events_are_allowed h (model.Toggle name old disabled) (no_refusal (own_refusal h (model.Toggle name old disabled)) none) in
      record { free = free_name h name symbol is.addable; event = is.known }

-- whether there is something behind a reference is kept where it is mapped
pub copied_some : {A B : Type 0} (f : A → B) (o : Option (Bor A)) (there : Option B) → option_map f (option_copied o) ≡ there → is_some o ≡ is_some there
copied_some f None there e = ap is_some e
copied_some f (Some x) there e = ap is_some e
