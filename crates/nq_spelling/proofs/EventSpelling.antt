-- A log can spell the event that a spelled form asks for, where the form is not refused.
use Rattle.std.proofs.Common.{◌≡◌, List, [], ◌∷◌, length, map}
use Rattle.std.specs.Prelude.{None, Ok, Err}
use Rattle.nq_logic.specs.Terms.{Each, Name, Symbol}
use Rattle.nq_logic.specs.Ground.{symbols_of}
use Rattle.nq_events.specs.Events.{Measure}
use Rattle.nq_logic.specs.Histories.{History}
use Rattle.nq_form.specs.Form.{Form}
use Rattle.nq_language.specs.Translation.{translated}
use Rattle.nq_events.specs.EventTerms.{HasEventTerms, IsEventTerm}
use Rattle.nq_events.specs.HintRefusals.{hints_refusal, instances_refusal}
use Rattle.nq_events.specs.HintTerms.{instances_given}
use Rattle.nq_events.specs.Outlines.{Outline, Outlined, BootStrap, AddShell, Dcl, Defn, AddAxiom, ProveLemma, Toggle, Switch, Undo, Skipped, outline}
use Rattle.nq_events.specs.Parts.{TypeWord, WrittenMeasure}
use Rattle.nq_events.specs.Reading.{event_after, event_of, event_refusal, measure_given, outline_hints_refusal, outlined_event, refusal_after}
use Rattle.nq_events.specs.TermRefusals.{arity_of, arity_with, hints_forms, measure_forms, outline_refusal, term_refusal, terms_refusal, types_refusal}
use Rattle.nq_events.specs.WrittenHints.{WrittenHint}
use Rattle.nq_events.proofs.EventTerms.{events_have_terms, first_left, first_right}
use Rattle.nq_spelling.specs.SpelledEvents.{EventsAreSpelled, HasFewNames, IsSpelledEvent, IsSpelledMeasure}
use Rattle.nq_spelling.proofs.FormulaSpelling.{AreTerms, formula_spelled, nothing_met, small_term}
use Rattle.nq_spelling.proofs.HintSpelling.{all_hints_spelled}
use Rattle.nq_spelling.proofs.OutlineSpelling.{OutlineIs, OutlinedIs, outline_is}
use Rattle.nq_spelling.proofs.SpelledTerms.{definition_terms_are_spelled}
use Rattle.nq_spelling.proofs.Tests.{within}
use Rattle.nq_spelling.proofs.ToggleSpelling.{made_name_spelled}

measures_spelled : (symbols : List Symbol) (measures : List Measure) → Each (λ m. IsEventTerm symbols m.term) measures → Each (IsSpelledMeasure symbols) measures
measures_spelled symbols [] terms = tt
measures_spelled symbols (m ∷ measures) terms = (record { over = terms.0.read.over; small = small_term m.term terms.0.small }, measures_spelled symbols measures terms.1)

module _ (h : History) where
  -- what is known of an event whose terms are not refused
  abbrev IsSpelledSo : Outline → Type 0
  IsSpelledSo o = OutlineIs o → outline_refusal h o ≡ None → outline_hints_refusal h o ≡ None → HasEventTerms h (outlined_event h o) → IsSpelledEvent h (outlined_event h o)

  definition_spelled : (name : Name) (formals : List Name) (body : Form) (measures : List WrittenMeasure) → IsSpelledSo (Defn name formals body measures)
  definition_spelled name formals body measures is e good terms =
      let arity = arity_with h name formals in
      let none : term_refusal (arity_with h name formals) body ≡ None = first_left (term_refusal arity body) (terms_refusal arity (measure_forms measures)) e in
      record {
        definition = record {
          function = is.0;
          over = record { over = terms.body_term.read.over; variables = definition_terms_are_spelled h name formals body is.1 (nothing_met arity body none) };
          small = small_term (translated arity body) terms.body_term.small;
        };
        hinted = measures_spelled ((name, length formals) ∷ symbols_of h) (map (measure_given arity) measures) terms.measure_terms;
      }

  axiom_spelled : (name : Name) (types : List TypeWord) (term : Form) → IsSpelledSo (AddAxiom name types term)
  axiom_spelled name types term is e good terms = record {
    symbol = is.0;
    claimable = formula_spelled h term is.1 (first_right (types_refusal types) (term_refusal (arity_of h) term) e) terms;
  }

  lemma_spelled : (name : Name) (types : List TypeWord) (term : Form) (hints : List WrittenHint) → IsSpelledSo (ProveLemma name types term hints)
  lemma_spelled name types term hints is e good terms =
      let all : terms_refusal (arity_of h) (term ∷ hints_forms hints) ≡ None = first_right (types_refusal types) (terms_refusal (arity_of h) (term ∷ hints_forms hints)) e in
      let none : term_refusal (arity_of h) term ≡ None = first_left (term_refusal (arity_of h) term) (terms_refusal (arity_of h) (hints_forms hints)) all in
      let more : AreTerms h (hints_forms hints) = first_right (term_refusal (arity_of h) term) (terms_refusal (arity_of h) (hints_forms hints)) all in
      let hints_good : hints_refusal h hints ≡ None = first_left (hints_refusal h hints) (instances_refusal h (instances_given h hints)) good in
      (record { symbol = is.0; claimable = formula_spelled h term is.1.0 none terms.0 }, all_hints_spelled h hints is.1.1 hints_good more)

  outline_spelled : HasFewNames h → (o : Outline) → IsSpelledSo o
  outline_spelled few BootStrap is e good terms = tt
  outline_spelled few (AddShell shell) is e good terms = is
  outline_spelled few (Dcl name formals) is e good terms = is
  outline_spelled few (Defn name formals body measures) is e good terms = definition_spelled name formals body measures is e good terms
  outline_spelled few (AddAxiom name types term) is e good terms = axiom_spelled name types term is e good terms
  outline_spelled few (ProveLemma name types term hints) is e good terms = lemma_spelled name types term hints is e good terms
  outline_spelled few (Toggle name old disabled) is e good terms = is
  outline_spelled few (Switch old disabled) is e good terms = made_name_spelled h disabled old few is.0 (within (length old) 240 is.1)
  outline_spelled few (Undo name) is e good terms = tt
  outline_spelled few Skipped is e good terms = tt

  outlined_spelled : HasFewNames h → (o : Outlined) → OutlinedIs o → refusal_after h o ≡ None → HasEventTerms h (event_after h o) → IsSpelledEvent h (event_after h o)
  outlined_spelled few (Err refusal) is e terms = tt
  outlined_spelled few (Ok o) is e terms =
      outline_spelled few o is (first_left (outline_refusal h o) (outline_hints_refusal h o) e) (first_right (outline_refusal h o) (outline_hints_refusal h o) e) terms

pub events_are_spelled : EventsAreSpelled
unfolding event_refusal event_of
events_are_spelled h form few spelled narrow e = outlined_spelled h few (outline form) (outline_is form spelled narrow) e (events_have_terms h form e)
