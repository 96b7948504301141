-- Terms of hints that suggest an induction.
use Rattle.std.proofs.Common.{◌≡◌, ◌∙◌, Bool, true, Option, Some, None, List, sym, ap}
use Rattle.std.specs.Option.{option_map}
use Rattle.nq_logic.specs.Terms.{Term}
use Rattle.nq_logic.specs.Histories as logic
use Rattle.nq_logic.specs.Numerals.{number_of}
use Rattle.nq_logic.specs.Admissible.{matched}
use Rattle.nq_logic.specs.RuleShapes.{variables_of}
use Rattle.nq_bank.specs.declared.node.TermId.{TermId}
use Rattle.nq_bank.specs.Content.{Content, term_at, terms_at}
use Rattle.nq_bank.specs.Parts.{parts_of}
use Rattle.nq_bank.specs.Shells.{texts_at}
use Rattle.nq_events.specs.Inductions.{are_distinct_names, arguments_of, measured, names_of, opened_by, suggests_by, suggests_induction, suggests_of}
use Rattle.nq_event.specs.declared.definitions.Definition.{Definition}
use Rattle.nq_event.specs.Definitions.{definition_at}
use Rattle.nq_event.proofs.DefinitionLemmas.{arguments_call}

-- what was found of the call is what its suggestion asks for
pub suggested : (bank : Content) (h : logic.History) (t : TermId) (o : Option Definition) (d : Definition) (m : TermId) (args ids : List TermId) (b : Bool) → option_map (definition_at bank) o ≡ opened_by h (term_at bank t) → o ≡ Some d → d.measure ≡ Some m
    → number_of (term_at bank t) ≡ None → terms_at bank args ≡ parts_of (term_at bank t) → terms_at bank ids ≡ measured (variables_of (term_at bank m)) (matched (texts_at bank d.formals.now) (terms_at bank args))
    → b ≡ are_distinct_names (names_of (terms_at bank ids)) → b ≡ true → suggests_induction h (term_at bank t) ≡ true
suggested bank h t o d m args ids b opened found measure call parts are told holds =
    let whole : Term = term_at bank t in
    let here : logic.Definition = definition_at bank d in
    ap (λ (x : Option logic.Definition). suggests_of x (arguments_of whole)) (sym opened ∙ ap (option_map (definition_at bank)) found)
    ∙ ap (λ (x : Option Term). suggests_by here x (arguments_of whole)) (ap (option_map (term_at bank)) measure)
    ∙ ap (λ (ts : List Term). suggests_by here (Some (term_at bank m)) ts) (arguments_call whole call ∙ sym parts)
    ∙ ap (λ (ts : List Term). are_distinct_names (names_of ts)) (sym are)
    ∙ sym told
    ∙ holds
