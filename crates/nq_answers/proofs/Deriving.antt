-- What each event of a run claims holds in the history before it, and so does each event that stands at the end.
use Rattle.std.proofs.Common.{◌≡◌, ℕ, Bool, true, false, List, [], ◌∷◌, sym, subst, refl, inl, inr}
use Rattle.std.specs.Prelude.{◌++◌, ◌⊎◌, length, Option, None, Some, ⊤, if◌then◌else◌}
use Rattle.nq_logic.specs.Terms.{Name, Term, IsTerm}
use Rattle.nq_logic.specs.Formulas.{holds}
use Rattle.nq_logic.specs.Derivations.{Derivable}
use Rattle.nq_logic.specs.Histories.{History, RuleClass}
use Rattle.nq_logic.specs.Histories as logic
use Rattle.nq_logic.specs.Ground.{symbols_of}
use Rattle.nq_logic.specs.Names.{event_name, is_in_use}
use Rattle.nq_logic.specs.Admissible.{mentions, IsAdmissible}
use Rattle.nq_form.specs.Form.{Form, Forms, end, dotted, next}
use Rattle.nq_log.specs.States.{Adds, Undoes}
use Rattle.nq_log.specs.Laws.{ClaimsHold, EventHolds, IsSound}
use Rattle.nq_log.proofs.Events.{sound_after}
use Rattle.nq_comment.specs.Reports.{Answer, Accepted, AcceptedBy, Unmeasured, Undone, Skipped, Proved, ProvedFrom, Failed, OutOfSteps, Quick, Taut, Eval, Inst, Report}
use Rattle.nq_comment.specs.declared.step.Cause.TheVariants.{False}
use Rattle.nq_goals.specs.Hints.{first_goal}
use Rattle.nq_language.specs.Printing.{printed}
use Rattle.nq_events.specs.Events.{Event, Hints, Measure, BootStrap, AddShell, Dcl, Defn, AddAxiom, ProveLemma, Toggle, Undo, Skipped as PassedOver}
use Rattle.nq_events.specs.EventTerms.{HasEventTerms}
use Rattle.nq_events.specs.Reading.{event_of, event_refusal}
use Rattle.nq_events.specs.Refusals.{Refusal}
use Rattle.nq_events.specs.OwnRefusals.{own_refusal}
use Rattle.nq_events.specs.AllowedEvents.{IsAllowedEvent}
use Rattle.nq_events.specs.Effects.{defined, history_after}
use Rattle.nq_events.proofs.EventTerms.{events_have_terms}
use Rattle.nq_events.proofs.AllowedEvents.{events_are_allowed, plain_definitions}
use Rattle.nq_answers.specs.Goals.{goal_text}
use Rattle.nq_answers.specs.Steps.{Answers, AnswersUnless, IsDefined, IsOutcome, IsRecursionTried, IsProvedByMoves, IsTried, by_tautology, by_evaluation, by_instance, by_falsity, by_want, by_search, Runs, after, after_event, first_answer, is_taken, measure_by, refusal_of, refused, undone, untaken}
use Rattle.nq_answers.specs.Claims.{claims_of, event_claims}
use Rattle.nq_answers.specs.Derived.{EventsHold}
use Rattle.nq_answers.specs.Laws.{RunsAreDerived}
use Rattle.nq_answers.specs.Spending.{IsUsedUp}
use Rattle.nq_answers.proofs.Instances.{instance_derivable}
use Rattle.nq_answers.proofs.SmallTautologies.{tautology_derivable}

-- ---- refusals take nothing

abbrev pub TakesNothing : Option Answer → Type 0
TakesNothing None = ⊤
TakesNothing (Some answer) = is_taken answer ≡ false

pub refused_nothing : (o : Option Refusal) → TakesNothing (refused o)
refused_nothing None = tt
refused_nothing (Some refusal) = refl

first_nothing : (a b : Option Answer) → TakesNothing a → TakesNothing b → TakesNothing (first_answer a b)
first_nothing None b h k = k
first_nothing (Some a) b h k = h

pub refusal_nothing : (h : History) (form : Form) → TakesNothing (refusal_of h form)
refusal_nothing h form =
    first_nothing (refused (event_refusal h form)) (untaken h (event_of h form)) (refused_nothing (event_refusal h form)) (refused_nothing (own_refusal h (event_of h form)))

-- ---- where nothing is refused

none_refused : (o : Option Refusal) (later : Option Answer) → first_answer (refused o) later ≡ None → o ≡ None
none_refused None later e = refl
none_refused (Some refusal) later e = absurd cc

none_later : (o : Option Refusal) (later : Option Answer) → first_answer (refused o) later ≡ None → later ≡ None
none_later None later e = e
none_later (Some refusal) later e = absurd cc

pub no_refusal : (o : Option Refusal) → refused o ≡ None → o ≡ None
no_refusal None e = refl
no_refusal (Some refusal) e = absurd cc

-- an event without a refusal of its own meets the conditions of its kind
allowed_event : (h : History) (e : Event) → refused (own_refusal h e) ≡ None → IsAllowedEvent h e
allowed_event h e none = events_are_allowed h e (no_refusal (own_refusal h e) none)

-- ---- what an event claims by its answer, in a sound history

-- what the event claims by its answer holds, and the history after it is sound
abbrev HoldsAfter : History → Event → Answer → Type 0
HoldsAfter h e answer = ClaimsHold h (claims_of e answer) × IsSound (after_event h e answer)

-- an event that is not taken claims nothing
not_claimed : (h : History) (e : Event) (answer : Answer) → is_taken answer ≡ false → ClaimsHold h (claims_of e answer)
not_claimed h e answer k = subst (λ (b : Bool). ClaimsHold h (if b then event_claims e (measure_by e answer) else [])) (sym k) tt

not_after : (h : History) (e : Event) (answer : Answer) → is_taken answer ≡ false → IsSound h → IsSound (after_event h e answer)
not_after h e answer k sound = subst (λ (b : Bool). IsSound (if b then history_after h e (measure_by e answer) else h)) (sym k) sound

module _ (limit : ℕ) (h : History) (sound : IsSound h) (form : Form) where
  -- an answer that is known
  answered : (e : Event) (answer own : Answer) → answer ≡ own → HoldsAfter h e own → HoldsAfter h e answer
  answered e answer own same holds = subst (HoldsAfter h e) (sym same) holds

  -- a new event that holds is added
  added_holds : (e : logic.Event) → is_in_use (event_name e) h ≡ false → EventHolds h e → IsSound (h ++ e ∷ [])
  added_holds e unused holds = sound_after h (Adds e) sound (unused, holds)

  -- the event of an answer that takes it, by what it claims and what it adds
  taken_holds : (claimed added : logic.Event) → event_name claimed ≡ event_name added → is_in_use (event_name added) h ≡ false → EventHolds h claimed → EventHolds h added → ClaimsHold h (Adds claimed ∷ []) × IsSound (h ++ added ∷ [])
  taken_holds claimed added same unused claim holds =
      (((subst (λ (n : Name). is_in_use n h ≡ false) (sym same) unused, claim), tt), added_holds added unused holds)

  -- a lemma that is tried, over the functions of the history
  lemma_holds : (name : Name) (classes : List RuleClass) (t : Term) (hints : Hints) (answer : Answer) → IsTerm (symbols_of h) t → is_in_use name h ≡ false → IsTried limit h form hints t answer
      → HoldsAfter h (ProveLemma name classes t hints) answer
  lemma_holds name classes t hints answer over unused tried = by_way tried
    where
      e : Event
      e = ProveLemma name classes t hints

      claimed : Derivable h (holds t) → ClaimsHold h (Adds (logic.Lemma name [] t) ∷ []) × IsSound (h ++ logic.Lemma name classes t ∷ [])
      claimed shown = taken_holds (logic.Lemma name [] t) (logic.Lemma name classes t) refl unused shown shown

      proved : (quick : Quick) → answer ≡ Proved quick → Derivable h (holds t) → HoldsAfter h e answer
      proved quick so shown = answered e answer (Proved quick) so (claimed shown)

      found : IsProvedByMoves h hints t answer ⊎ ((answer ≡ OutOfSteps) × IsUsedUp limit h) → HoldsAfter h e answer
      found (inl moved) = answered e answer (ProvedFrom (goal_text (first_goal h hints t)) moved.steps) moved.answer_is (claimed moved.shown)
      found (inr spent) = answered e answer OutOfSteps spent.0 (tt, sound)

      by_way : IsTried limit h form hints t answer → HoldsAfter h e answer
      by_way (by_tautology small so) = proved Taut so (tautology_derivable h t over small)
      by_way (by_evaluation valued) = proved Eval valued.answer_is valued.shown
      by_way (by_instance first so) = proved Inst so (instance_derivable h t sound over first.instance)
      by_way (by_falsity falsified) = answered e answer (Failed (goal_text (first_goal h hints t)) [] False) falsified.answer_is (tt, sound)
      by_way (by_want given_up) = answered e answer (Failed (goal_text (first_goal h hints t)) given_up.steps given_up.cause) given_up.answer_is (tt, sound)
      by_way (by_search searched) = found searched.found

  -- a definition that is tried
  definition_holds : (name : Name) (formals : List Name) (body : Term) (measures : List Measure) (answer : Answer) → event_refusal h form ≡ None → event_of h form ≡ Defn name formals body measures
      → own_refusal h (Defn name formals body measures) ≡ None → (b : Bool) → mentions name body ≡ b → IsDefined b h name formals body measures answer
      → HoldsAfter h (Defn name formals body measures) answer
  definition_holds name formals body measures answer none is own b recursive so = by_test b recursive so
    where
      e : Event
      e = Defn name formals body measures

      -- what a definition by this measure claims, and adds
      Defines : Option Term → Type 0
      Defines m = ClaimsHold h (Adds (defined name formals body m) ∷ []) × IsSound (h ++ defined name formals body m ∷ [])

      defines : (m : Option Term) → IsAdmissible h (record { function = name; formals = formals; body = body; measure = m }) → Defines m
      defines m admissible = taken_holds (defined name formals body m) (defined name formals body m) refl admissible.unused admissible admissible

      recursion : IsRecursionTried h name formals body measures answer → HoldsAfter h e answer
      recursion (inl accepted) =
          answered e answer (AcceptedBy accepted.place (printed accepted.measure)) accepted.answer_is
          (subst Defines (sym accepted.tried) (defines (Some accepted.measure) accepted.admissible))
      recursion (inr unmeasured) = answered e answer (Unmeasured unmeasured.trials) unmeasured.answer_is (tt, sound)

      by_test : (b : Bool) → mentions name body ≡ b → IsDefined b h name formals body measures answer → HoldsAfter h e answer
      by_test false plain so = answered e answer Accepted so (defines None (plain_definitions h form name formals body measures none is own plain))
      by_test true recursive so = recursion so

  -- an event without a refusal
  outcome_holds : (e : Event) (answer : Answer) → event_refusal h form ≡ None → event_of h form ≡ e → HasEventTerms h e → untaken h e ≡ None → IsOutcome limit h form e answer → HoldsAfter h e answer
  outcome_holds BootStrap answer none is terms taken so = answered BootStrap answer Accepted so ((tt, tt), tt)
  outcome_holds (AddShell shell) answer none is terms taken so =
      let addable = allowed_event h (AddShell shell) taken in
      let e : logic.Event = logic.AddShell shell in
      answered (AddShell shell) answer Accepted so (taken_holds e e refl addable.accepted.unused.0 addable.accepted addable.accepted)
  outcome_holds (Dcl name formals) answer none is terms taken so =
      let declarable = allowed_event h (Dcl name formals) taken in
      let e : logic.Event = logic.Declaration name (length formals) in
      answered (Dcl name formals) answer Accepted so (taken_holds e e refl declarable.addable.unused tt tt)
  outcome_holds (Defn name formals body measures) answer none is terms taken so =
      definition_holds name formals body measures answer none is (no_refusal (own_refusal h (Defn name formals body measures)) taken) (mentions name body) refl so
  outcome_holds (AddAxiom name classes t) answer none is terms taken so =
      let statable = allowed_event h (AddAxiom name classes t) taken in
      answered (AddAxiom name classes t) answer Accepted so
      (taken_holds (logic.Axiom name [] t) (logic.Axiom name classes t) refl statable.addable.unused terms.read.over terms.read.over)
  outcome_holds (ProveLemma name classes t hints) answer none is terms taken so =
      let statable = allowed_event h (ProveLemma name classes t hints) taken in
      lemma_holds name classes t hints answer terms.0.read.over statable.addable.unused so
  outcome_holds (Toggle name old disabled) answer none is terms taken so =
      let togglable = allowed_event h (Toggle name old disabled) taken in
      let e : logic.Event = logic.Toggle name old disabled in
      answered (Toggle name old disabled) answer Accepted so (taken_holds e e refl togglable.addable.unused tt tt)
  outcome_holds (Undo name) answer none is terms taken so =
      answered (Undo name) answer (Undone (undone h name)) so ((tt, tt), sound_after h (Undoes name) sound tt)
  outcome_holds PassedOver answer none is terms taken so = answered PassedOver answer Skipped so (tt, sound)

  answer_holds : (answer : Answer) (o : Option Answer) → refusal_of h form ≡ o → TakesNothing o → AnswersUnless limit o h form (event_of h form) answer → HoldsAfter h (event_of h form) answer
  answer_holds answer None is nothing so =
      let none : event_refusal h form ≡ None = none_refused (event_refusal h form) (untaken h (event_of h form)) is in
      outcome_holds (event_of h form) answer none refl (events_have_terms h form none) (none_later (event_refusal h form) (untaken h (event_of h form)) is) so
  answer_holds answer (Some refusal) is nothing so =
      answered (event_of h form) answer refusal so (not_claimed h (event_of h form) refusal nothing, not_after h (event_of h form) refusal nothing sound)

  step_holds : (answer : Answer) → Answers limit h form answer → HoldsAfter h (event_of h form) answer
  step_holds answer so = answer_holds answer (refusal_of h form) refl (refusal_nothing h form) so

-- ---- the steps of a run

runs_hold : (limit : ℕ) (old : History) (forms : Forms) (reports : List Report) (new : History) → IsSound old → Runs limit old forms reports new → EventsHold old forms reports × IsSound new
runs_hold limit old end [] new sound runs = (tt, subst IsSound (sym runs) sound)
runs_hold limit old end (r ∷ rs) new sound runs = absurd runs
runs_hold limit old (dotted f) [] new sound runs = absurd runs
runs_hold limit old (dotted f) (r ∷ rs) new sound runs = absurd runs
runs_hold limit old (next f fs) [] new sound runs = absurd runs
runs_hold limit old (next f fs) (r ∷ rs) new sound runs =
    let first = step_holds limit old sound f r.answer runs.0.answer in
    let rest = runs_hold limit (after old f r.answer) fs rs new first.1 runs.1 in
    ((first.0, rest.0), rest.1)

pub reported : RunsAreDerived
reported limit forms reports history runs =
    let holds = runs_hold limit [] forms reports history tt runs in
    record { history = history; runs = runs; hold = holds.0; sound = holds.1 }
