-- One step of a run: a form, its report, and the history after it.
use Rattle.std.specs.Prelude.{◌≡◌, ◌⊎◌, ◌-◌, ℕ, length, Bool, true, false, List, [], ◌∷◌, slice_get, Option, Some, None, if◌then◌else◌}
use Rattle.nq_logic.specs.Terms.{Name, Term}
use Rattle.nq_logic.specs.Formulas.{holds}
use Rattle.nq_logic.specs.Histories.{History, Definition}
use Rattle.nq_logic.specs.Admissible.{mentions, IsAdmissible}
use Rattle.nq_logic.specs.Derivations.{Derivable}
use Rattle.nq_logic.specs.Names.{before_event}
use Rattle.nq_language.specs.Printing.{printed}
use Rattle.nq_form.specs.Form.{Form, Forms, end, dotted, next}
use Rattle.nq_arith.specs.Structural.{IsStructural}
use Rattle.nq_events.specs.Events.{Event, Hints, Measure, BootStrap, AddShell, Dcl, Defn, AddAxiom, ProveLemma, Toggle, Undo, Skipped as PassedOver}
use Rattle.nq_events.specs.Refusals.{Refusal, code_of, words_of}
use Rattle.nq_events.specs.Reading.{event_refusal, event_of}
use Rattle.nq_events.specs.OwnRefusals.{own_refusal}
use Rattle.nq_events.specs.AllowedEvents.{plain_definition}
use Rattle.nq_events.specs.Measures.{tried_measures}
use Rattle.nq_events.specs.Effects.{history_after}
use Rattle.nq_fragments.specs.Tautologies.{IsSmallTautology}
use Rattle.nq_fragments.specs.Fragments.{IsFirstByEvaluation, IsFirstByInstance, IsInNoFragment}
use Rattle.nq_goals.specs.Hints.{first_goal}
use Rattle.nq_goals.specs.Spent.{IsFalse}
use Rattle.nq_comment.specs.Reports.{Answer, Accepted, AcceptedBy, Unmeasured, Undone, Skipped, Proved, ProvedFrom, Failed, OutOfSteps, Refused, Taut, Eval, Inst, Report, ShownStep, Trial}
use Rattle.nq_comment.specs.declared.step.Cause.{Cause}
use Rattle.nq_comment.specs.declared.step.Cause.TheVariants.{False}
use Rattle.nq_answers.specs.Headers.{name_of, word_of}
use Rattle.nq_answers.specs.Goals.{goal_text}
use Rattle.nq_answers.specs.Measuring.{AreTrials}
use Rattle.nq_answers.specs.Shown.{ShowsTrace, ShowsTree}
use Rattle.nq_answers.specs.Spending.{IsUsedUp}

-- the first of two answers that there is
abbrev pub first_answer : Option Answer → Option Answer → Option Answer
first_answer (Some answer) later = Some answer
first_answer None later = later

abbrev pub refusal_answer : Refusal → Answer
refusal_answer refusal = Refused (code_of refusal) (words_of refusal)

-- a refusal as an answer
abbrev pub refused : Option Refusal → Option Answer
refused (Some refusal) = Some (refusal_answer refusal)
refused None = None

-- why an event that was read isn't taken or tried: its own refusals
abbrev pub untaken : History → Event → Option Answer
untaken h event = refused (own_refusal h event)

-- the first refusal that applies to a form
abbrev pub refusal_of : History → Form → Option Answer
refusal_of h form = first_answer (refused (event_refusal h form)) (untaken h (event_of h form))

-- the definition of a function with a measure
abbrev pub measured_definition : Name → List Name → Term → Term → Definition
measured_definition name formals body m = record { function = name; formals = formals; body = body; measure = Some m }

-- one of the measures that are tried admits the definition, and is told
pub record IsAcceptedBy (h : History) (name : Name) (formals : List Name) (body : Term) (measures : List Measure) (answer : Answer) : Type 0 where
  pub place : ℕ
  pub measure : Term
  pub tried : slice_get (tried_measures formals measures) place ≡ Some measure
  pub admissible : IsAdmissible h (measured_definition name formals body measure)
  pub answer_is : answer ≡ AcceptedBy place (printed measure)

-- The definition is not structural in the history: one that is so is accepted, whatever the step limit. Of each measure that is
-- tried an obligation is told that is left.
pub record IsUnmeasured (h : History) (name : Name) (formals : List Name) (body : Term) (measures : List Measure) (answer : Answer) : Type 0 where
  pub plain : IsStructural h (plain_definition name formals body) → ⊥
  pub trials : List Trial
  pub told : AreTrials h (plain_definition name formals body) (tried_measures formals measures) trials
  pub answer_is : answer ≡ Unmeasured trials

-- a definition that calls its own function
abbrev pub IsRecursionTried : History → Name → List Name → Term → List Measure → Answer → Type 0
IsRecursionTried h name formals body measures answer =
    IsAcceptedBy h name formals body measures answer ⊎ IsUnmeasured h name formals body measures answer

-- a definition, and whether it calls its own function
abbrev pub IsDefined : Bool → History → Name → List Name → Term → List Measure → Answer → Type 0
IsDefined false h name formals body measures answer = answer ≡ Accepted
IsDefined true h name formals body measures answer = IsRecursionTried h name formals body measures answer

-- It is derivable, and proved by moves from the first goal: the steps that are told are a trace.
pub record IsProvedByMoves (h : History) (hints : Hints) (t : Term) (answer : Answer) : Type 0 where
  pub shown : Derivable h (holds t)
  pub steps : List ShownStep
  pub told : ShowsTrace h hints (first_goal h hints t) steps
  pub answer_is : answer ≡ ProvedFrom (goal_text (first_goal h hints t)) steps

-- The lemma is in no fragment and its first goal is not false. It is proved by moves; or work that began with this limit and no
-- step used has used them all.
pub record IsSearched (limit : ℕ) (h : History) (hints : Hints) (t : Term) (answer : Answer) : Type 0 where
  pub no_fragment : IsInNoFragment h t
  pub not_false : IsFalse h (first_goal h hints t) → ⊥
  pub found : IsProvedByMoves h hints t answer ⊎ ((answer ≡ OutOfSteps) × IsUsedUp limit h)

-- in no fragment, and each literal of its first goal is ground and has the value F
pub record IsFalsified (h : History) (hints : Hints) (t : Term) (answer : Answer) : Type 0 where
  pub no_fragment : IsInNoFragment h t
  pub falsity : IsFalse h (first_goal h hints t)
  pub answer_is : answer ≡ Failed (goal_text (first_goal h hints t)) [] False

-- In no fragment, with a first goal that is not false, and some goal is left over for this cause: the steps that are told are the
-- tree of a failure from the first goal. Without a step it is the first goal itself that is left over.
pub record IsGivenUp (h : History) (hints : Hints) (t : Term) (answer : Answer) : Type 0 where
  pub no_fragment : IsInNoFragment h t
  pub not_false : IsFalse h (first_goal h hints t) → ⊥
  pub steps : List ShownStep
  pub cause : Cause
  pub told : ShowsTree h hints (first_goal h hints t) steps cause
  pub answer_is : answer ≡ Failed (goal_text (first_goal h hints t)) steps cause

-- by its value, which is not F: it is derivable
pub record IsEvaluated (h : History) (t : Term) (answer : Answer) : Type 0 where
  pub first : IsFirstByEvaluation h t
  pub shown : Derivable h (holds t)
  pub answer_is : answer ≡ Proved Eval

-- A lemma is proved by the first fragment that holds it, whatever its hints are. Where none does, it fails if its first goal is
-- false. Else it fails with the tree of a failure, or is searched for: it is proved by moves then, or out of steps.
pub data IsTried (limit : ℕ) (h : History) (form : Form) (hints : Hints) (t : Term) (answer : Answer) : Type 0 where
  by_tautology : IsSmallTautology t → answer ≡ Proved Taut → IsTried limit h form hints t answer
  by_evaluation : IsEvaluated h t answer → IsTried limit h form hints t answer
  by_instance : IsFirstByInstance h t → answer ≡ Proved Inst → IsTried limit h form hints t answer
  by_falsity : IsFalsified h hints t answer → IsTried limit h form hints t answer
  by_want : IsGivenUp h hints t answer → IsTried limit h form hints t answer
  by_search : IsSearched limit h hints t answer → IsTried limit h form hints t answer

-- how many events an undo of this name takes away: that event and all later ones
abbrev pub undone : History → Name → ℕ
undone h name = length h - length (before_event name h)

-- the answers that an event may get where no refusal applies, and its work may take so many steps
abbrev pub IsOutcome : ℕ → History → Form → Event → Answer → Type 0
IsOutcome limit h form BootStrap answer = answer ≡ Accepted
IsOutcome limit h form (AddShell shell) answer = answer ≡ Accepted
IsOutcome limit h form (Dcl name formals) answer = answer ≡ Accepted
IsOutcome limit h form (Defn name formals body measures) answer = IsDefined (mentions name body) h name formals body measures answer
IsOutcome limit h form (AddAxiom name classes t) answer = answer ≡ Accepted
IsOutcome limit h form (ProveLemma name classes t hints) answer = IsTried limit h form hints t answer
IsOutcome limit h form (Toggle name old disabled) answer = answer ≡ Accepted
IsOutcome limit h form (Undo name) answer = answer ≡ Undone (undone h name)
IsOutcome limit h form PassedOver answer = answer ≡ Skipped

abbrev pub AnswersUnless : ℕ → Option Answer → History → Form → Event → Answer → Type 0
AnswersUnless limit (Some refusal) h form event answer = answer ≡ refusal
AnswersUnless limit None h form event answer = IsOutcome limit h form event answer

-- the answers that a form may get: its first refusal exactly where one applies, and else one that its event may get
abbrev pub Answers : ℕ → History → Form → Answer → Type 0
Answers limit h form answer = AnswersUnless limit (refusal_of h form) h form (event_of h form) answer

-- whether an event of this answer was taken: accepted, proved or undone
abbrev pub is_taken : Answer → Bool
is_taken Accepted = true
is_taken (AcceptedBy place measure) = true
is_taken (Unmeasured trials) = false
is_taken (Undone count) = true
is_taken (Proved quick) = true
is_taken (ProvedFrom goal steps) = true
is_taken (Failed goal steps cause) = false
is_taken OutOfSteps = false
is_taken Skipped = false
is_taken (Refused code words) = false

-- the measures that are tried of an event
abbrev pub measures_of : Event → List Term
measures_of BootStrap = []
measures_of (AddShell shell) = []
measures_of (Dcl name formals) = []
measures_of (Defn name formals body measures) = tried_measures formals measures
measures_of (AddAxiom name classes t) = []
measures_of (ProveLemma name classes t hints) = []
measures_of (Toggle name old disabled) = []
measures_of (Undo name) = []
measures_of PassedOver = []

-- the measure of an event by its answer
abbrev pub measure_by : Event → Answer → Option Term
measure_by event Accepted = None
measure_by event (AcceptedBy place measure) = slice_get (measures_of event) place
measure_by event (Unmeasured trials) = None
measure_by event (Undone count) = None
measure_by event (Proved quick) = None
measure_by event (ProvedFrom goal steps) = None
measure_by event (Failed goal steps cause) = None
measure_by event OutOfSteps = None
measure_by event Skipped = None
measure_by event (Refused code words) = None

-- the history after an event and its answer
abbrev pub after_event : History → Event → Answer → History
after_event h event answer = if is_taken answer then history_after h event (measure_by event answer) else h

abbrev pub after : History → Form → Answer → History
after h form answer = after_event h (event_of h form) answer

-- one form, its report, and the history after it, where each event may take so many steps
pub record Step (limit : ℕ) (old : History) (form : Form) (report : Report) (new : History) : Type 0 where
  pub word : report.word ≡ word_of form
  pub name : report.name ≡ name_of form
  pub answer : Answers limit old form report.answer
  pub history : new ≡ after old form report.answer

-- the forms give these reports in turn, and this history
abbrev pub Runs : ℕ → History → Forms → List Report → History → Type 0
Runs limit old end [] new = new ≡ old
Runs limit old (next form forms) (report ∷ reports) new =
    let middle = after old form report.answer in Step limit old form report middle × Runs limit middle forms reports new
Runs limit old end (report ∷ reports) new = ⊥
Runs limit old (next form forms) [] new = ⊥
Runs limit old (dotted form) reports new = ⊥
