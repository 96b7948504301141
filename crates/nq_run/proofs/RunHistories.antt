-- The histories that runs make are ready, and the texts of terms over their functions are read back.
use Rattle.std.proofs.Common.{◌≡◌, ℕ, ◌≤◌, ◌^◌, Bool, true, false, List, [], ◌∷◌, ◌++◌, length, refl, ap, sym, subst, ◌∙◌, inl, inr, arith}
use Rattle.std.specs.Prelude.{◌⊎◌, Option, None, Some, if◌then◌else◌}
use Rattle.nq_logic.specs.Terms.{Name, Term}
use Rattle.nq_logic.specs.Formulas.{holds}
use Rattle.nq_logic.specs.Derivations.{Derivable}
use Rattle.nq_logic.specs.Admissible.{mentions}
use Rattle.nq_logic.specs.Histories.{History, RuleClass}
use Rattle.nq_logic.specs.Histories as logic
use Rattle.nq_logic.specs.Names.{event_names}
use Rattle.nq_form.specs.Form.{Form, Forms, end, dotted, next}
use Rattle.nq_form.specs.Widths.{AllNarrow, IsNarrow}
use Rattle.nq_kernel.specs.Ready.{IsReady, IsReadyEvent}
use Rattle.nq_kernel.proofs.ReadyLemmas.{ready_before, ready_more, ready_sound}
use Rattle.nq_block.specs.Closings.{IsFree}
use Rattle.nq_events.specs.Effects.{defined, history_after}
use Rattle.nq_events.specs.Events.{Event, Hints, Measure, BootStrap, AddShell, Dcl, Defn, AddAxiom, ProveLemma, Toggle, Undo, Skipped as PassedOver}
use Rattle.nq_events.specs.OwnRefusals.{own_refusal}
use Rattle.nq_events.specs.Reading.{event_of, event_refusal}
use Rattle.nq_events.specs.Refusals.{Refusal}
use Rattle.nq_comment.specs.Reports.{Answer, Accepted, AcceptedBy, Unmeasured, Failed, OutOfSteps, Proved, ProvedFrom, Report, Skipped, Undone, Taut, Eval, Inst}
use Rattle.nq_comment.specs.declared.step.Cause.TheVariants.{False}
use Rattle.nq_goals.specs.Hints.{first_goal}
use Rattle.nq_language.specs.Printing.{printed}
use Rattle.nq_spelling.specs.ReadBack.{IsGrown, ground}
use Rattle.nq_spelling.specs.Spelled.{AreSpelled, IsSpelled}
use Rattle.nq_spelling.specs.SpelledEvents.{HasFewNames, IsSpelledDefinition, IsSpelledEvent, IsSpelledFormula}
use Rattle.nq_spelling.proofs.EventSpelling.{events_are_spelled}
use Rattle.nq_spelling.proofs.NameCounts.{few_names_begin, few_names_grow, few_names_stay, shells_bring_few_names}
use Rattle.nq_spelling.proofs.ReadBack.{forms_grow_histories, printed_is_read_back}
use Rattle.nq_answers.specs.Goals.{goal_text}
use Rattle.nq_answers.specs.Spending.{IsUsedUp}
use Rattle.nq_answers.specs.Steps.{Answers, AnswersUnless, IsDefined, IsOutcome, IsRecursionTried, IsProvedByMoves, IsTried, by_tautology, by_evaluation, by_instance, by_falsity, by_want, by_search, Runs, after, after_event, first_answer, is_taken, measure_by, refusal_of, refused, undone, untaken}
use Rattle.nq_answers.proofs.Instances.{instance_derivable}
use Rattle.nq_answers.proofs.SmallTautologies.{tautology_derivable}
use Rattle.nq_answers.proofs.Deriving.{TakesNothing, no_refusal, refusal_nothing}
use Rattle.nq_run.specs.RunHistories.{RunsMakeHistories}
use Rattle.nq_run.proofs.DefinitionLemmas.{can_define, defn_free, definition_ready}
use Rattle.nq_run.proofs.NameLemmas.{can_toggle, dcl_free}
use Rattle.nq_run.proofs.NarrowLemmas.{all_narrow}
use Rattle.nq_run.proofs.ReadyLemmas.{axiom_ready, declared_ready, defined_ready, lemma_ready, toggled_ready}
use Rattle.nq_run.proofs.SessionLemmas.{free_room}
use Rattle.nq_run.proofs.ShellLemmas.{free_constructor, shell_ready}
use Rattle.nq_run.proofs.SpelledLemmas.{items_spelled}
use Rattle.nq_run.proofs.TakingLemmas.{axiom_is, free_name, lemma_is}

-- what is kept from form to form
record IsMade (h : History) : Type 0 where
  ready : IsReady h
  few : HasFewNames h
  grown : IsGrown h

nothing_made : IsMade []
nothing_made = record { ready = tt; few = few_names_begin; grown = ground }

first_none : (o : Option Refusal) (later : Option Answer) → first_answer (refused o) later ≡ None → (o ≡ None) × (later ≡ None)
first_none None later e = (refl, e)
first_none (Some refusal) later e = absurd cc

-- an answer that takes nothing leaves the history
kept : (h : History) (e : Event) (answer : Answer) → is_taken answer ≡ false → IsMade h → IsMade (after_event h e answer)
kept h e answer nothing made = subst (λ (b : Bool). IsMade (if b then history_after h e (measure_by e answer) else h)) (sym nothing) made

module _ (limit : ℕ) (h : History) (form : Form) (made : IsMade h) where
  -- an event more
  gains : (e : logic.Event) (name : Name) → IsFree h name → IsReadyEvent h e → length (event_names e) ≤ 24 → IsGrown (h ++ e ∷ []) → IsMade (h ++ e ∷ [])
  gains e name free ready few grown = record { ready = ready_more h e made.ready ready; few = few_names_grow h e made.few (free_room h name free) few; grown = grown }

  answered : (e : Event) (answer own : Answer) → answer ≡ own → IsMade (after_event h e own) → IsMade (after_event h e answer)
  answered e answer own same is = subst (λ (a : Answer). IsMade (after_event h e a)) (sym same) is

  -- a lemma that is tried
  lemma_made : (name : Name) (classes : List RuleClass) (t : Term) (hints : Hints) (answer : Answer) → IsFree h name → IsSpelledFormula h name t
      → IsGrown (h ++ logic.Lemma name classes t ∷ []) → IsTried limit h form hints t answer → IsMade (after_event h (ProveLemma name classes t hints) answer)
  lemma_made name classes t hints answer free spelled grown tried = by_way tried
    where
      e : Event
      e = ProveLemma name classes t hints

      shown : Derivable h (holds t) → IsMade (h ++ logic.Lemma name classes t ∷ [])
      shown derivable = gains (logic.Lemma name classes t) name free (lemma_ready h name free classes t spelled derivable) (omega arith) grown

      found : IsProvedByMoves h hints t answer ⊎ ((answer ≡ OutOfSteps) × IsUsedUp limit h) → IsMade (after_event h e answer)
      found (inl moved) = answered e answer (ProvedFrom (goal_text (first_goal h hints t)) moved.steps) moved.answer_is (shown moved.shown)
      found (inr spent) = answered e answer OutOfSteps spent.0 made

      by_way : IsTried limit h form hints t answer → IsMade (after_event h e answer)
      by_way (by_tautology small so) = answered e answer (Proved Taut) so (shown (tautology_derivable h t spelled.claimable.over.over small))
      by_way (by_evaluation valued) = answered e answer (Proved Eval) valued.answer_is (shown valued.shown)
      by_way (by_instance first so) = answered e answer (Proved Inst) so (shown (instance_derivable h t (ready_sound h made.ready) spelled.claimable.over.over first.instance))
      by_way (by_falsity falsified) = answered e answer (Failed (goal_text (first_goal h hints t)) [] False) falsified.answer_is made
      by_way (by_want given_up) = answered e answer (Failed (goal_text (first_goal h hints t)) given_up.steps given_up.cause) given_up.answer_is made
      by_way (by_search searched) = found searched.found

  -- a definition that is tried
  definition_made : (name : Name) (formals : List Name) (body : Term) (measures : List Measure) (answer : Answer) → own_refusal h (Defn name formals body measures) ≡ None
      → ((m : Option Term) → IsGrown (h ++ defined name formals body m ∷ [])) → IsSpelledDefinition h name formals body → (b : Bool) → mentions name body ≡ b → IsDefined b h name formals body measures answer
      → IsMade (after_event h (Defn name formals body measures) answer)
  definition_made name formals body measures answer own grow spelled b recursive so = by_test b recursive so
    where
      e : Event
      e = Defn name formals body measures

      none : untaken h e ≡ None
      none = ap refused own

      Defines : Option Term → Type 0
      Defines m = IsMade (h ++ defined name formals body m ∷ [])

      gained : (m : Option Term) → IsReadyEvent h (defined name formals body m) → Defines m
      gained m ready = gains (defined name formals body m) name (defn_free h name formals body measures none spelled) ready (omega arith) (grow m)

      recursion : IsRecursionTried h name formals body measures answer → IsMade (after_event h e answer)
      recursion (inl accepted) =
          answered e answer (AcceptedBy accepted.place (printed accepted.measure)) accepted.answer_is
          (subst Defines (sym accepted.tried) (gained (Some accepted.measure) (definition_ready h name formals body measures (Some accepted.measure) none spelled accepted.admissible)))
      recursion (inr unmeasured) = answered e answer (Unmeasured unmeasured.trials) unmeasured.answer_is made

      by_test : (b : Bool) → mentions name body ≡ b → IsDefined b h name formals body measures answer → IsMade (after_event h e answer)
      by_test false plain so = answered e answer Accepted so (gained None (defined_ready h name formals body (can_define h name formals body measures none plain spelled) spelled))
      by_test true again so = recursion so

  -- an event without a refusal
  outcome_made : (e : Event) (answer : Answer) → (own_refusal h e ≡ None → (m : Option Term) → IsGrown (history_after h e m)) → IsSpelledEvent h e → untaken h e ≡ None → IsOutcome limit h form e answer
      → IsMade (after_event h e answer)
  outcome_made BootStrap answer grow spelled none so = answered BootStrap answer Accepted so nothing_made
  outcome_made (AddShell shell) answer grow spelled none so =
      let own : own_refusal h (AddShell shell) ≡ None = no_refusal (own_refusal h (AddShell shell)) none in
      answered (AddShell shell) answer Accepted so
      (gains (logic.AddShell shell) shell.constructor (free_constructor h shell own spelled) (shell_ready h shell own spelled) (shells_bring_few_names shell spelled) (grow own None))
  outcome_made (Dcl name formals) answer grow spelled none so =
      let own : own_refusal h (Dcl name formals) ≡ None = no_refusal (own_refusal h (Dcl name formals)) none in
      let free : IsFree h name = dcl_free h name formals spelled.symbol none in
      answered (Dcl name formals) answer Accepted so (gains (logic.Declaration name (length formals)) name free (declared_ready h name free (length formals)) (omega arith) (grow own None))
  outcome_made (Defn name formals body measures) answer grow spelled none so =
      let own : own_refusal h (Defn name formals body measures) ≡ None = no_refusal (own_refusal h (Defn name formals body measures)) none in
      definition_made name formals body measures answer own (grow own) spelled.definition (mentions name body) refl so
  outcome_made (AddAxiom name classes t) answer grow spelled none so =
      let own : own_refusal h (AddAxiom name classes t) ≡ None = no_refusal (own_refusal h (AddAxiom name classes t)) none in
      let free : IsFree h name = free_name h name classes t (sym (ap refused (axiom_is h name classes t)) ∙ none) spelled in
      answered (AddAxiom name classes t) answer Accepted so (gains (logic.Axiom name classes t) name free (axiom_ready h name free classes t spelled) (omega arith) (grow own None))
  outcome_made (ProveLemma name classes t hints) answer grow spelled none so =
      let own : own_refusal h (ProveLemma name classes t hints) ≡ None = no_refusal (own_refusal h (ProveLemma name classes t hints)) none in
      let free : IsFree h name = free_name h name classes t (sym (ap refused (lemma_is h name classes t hints)) ∙ none) spelled.0 in
      lemma_made name classes t hints answer free spelled.0 (grow own None) so
  outcome_made (Toggle name old disabled) answer grow spelled none so =
      let own : own_refusal h (Toggle name old disabled) ≡ None = no_refusal (own_refusal h (Toggle name old disabled)) none in
      let free : IsFree h name = (can_toggle h name old disabled spelled none).free in
      answered (Toggle name old disabled) answer Accepted so (gains (logic.Toggle name old disabled) name free (toggled_ready h name free old disabled) (omega arith) (grow own None))
  outcome_made (Undo name) answer grow spelled none so =
      let own : own_refusal h (Undo name) ≡ None = no_refusal (own_refusal h (Undo name)) none in
      answered (Undo name) answer (Undone (undone h name)) so (record { ready = ready_before h name made.ready; few = few_names_stay h name made.few; grown = grow own None })
  outcome_made PassedOver answer grow spelled none so = answered PassedOver answer Skipped so made

  answer_made : (answer : Answer) (o : Option Answer) → IsSpelled form → IsNarrow (2 ^ 25) form → refusal_of h form ≡ o → TakesNothing o → AnswersUnless limit o h form (event_of h form) answer
      → IsMade (after h form answer)
  answer_made answer (Some refusal) spelled narrow is nothing so = answered (event_of h form) answer refusal so (kept h (event_of h form) refusal nothing made)
  answer_made answer None spelled narrow is nothing so =
      let both = first_none (event_refusal h form) (untaken h (event_of h form)) is in
      outcome_made (event_of h form) answer (λ own m. forms_grow_histories h form m made.grown spelled narrow both.0 own) (events_are_spelled h form made.few spelled narrow both.0) both.1 so

  step_made : (answer : Answer) → IsSpelled form → IsNarrow (2 ^ 25) form → Answers limit h form answer → IsMade (after h form answer)
  step_made answer spelled narrow so = answer_made answer (refusal_of h form) spelled narrow refl (refusal_nothing h form) so

runs_made : (limit : ℕ) (old : History) (forms : Forms) (reports : List Report) (new : History) → IsMade old → AreSpelled forms → AllNarrow (2 ^ 25) forms → Runs limit old forms reports new → IsMade new
runs_made limit old end [] new made spelled narrow runs = subst IsMade (sym runs) made
runs_made limit old end (r ∷ rs) new made spelled narrow runs = absurd runs
runs_made limit old (dotted f) [] new made spelled narrow runs = absurd runs
runs_made limit old (dotted f) (r ∷ rs) new made spelled narrow runs = absurd runs
runs_made limit old (next f fs) [] new made spelled narrow runs = absurd runs
runs_made limit old (next f fs) (r ∷ rs) new made spelled narrow runs =
    runs_made limit (after old f r.answer) fs rs new (step_made limit old f made r.answer spelled.0 narrow.0 runs.0.answer) spelled.1 narrow.1 runs.1

pub runs_make_histories : RunsMakeHistories
runs_make_histories limit text forms reports h items few runs =
    let made = runs_made limit [] forms reports h nothing_made (items_spelled 500 text forms items) (all_narrow (2 ^ 25) 500 text forms items few) runs in
    record { ready = made.ready; grown = made.grown; printed = λ t over names small. printed_is_read_back h t made.grown over names small }
