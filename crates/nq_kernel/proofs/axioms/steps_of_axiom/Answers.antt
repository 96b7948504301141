use Rattle.std.proofs.Common.{◌≡◌, List, ◌++◌, ap, ◌∙◌}
use Rattle.std.specs.Option.{option_map}
use Rattle.nq_logic.specs.Terms.{Name}
use Rattle.nq_logic.specs.Histories.{events_definitions}
use Rattle.nq_logic.specs.Ground.{ground_definitions}
use Rattle.nq_bank.specs.Content.{Content, text_at}
use Rattle.nq_proof.specs.Rows.{definition_found, opening}
use Rattle.nq_axiom.specs.Openings.{opened}
use Rattle.nq_history.specs.declared.entry.Entry.{Entry}
use Rattle.nq_history.specs.Events.{all_events_at, events_at}
use Rattle.nq_kernel.proofs.EntryLemmas.{definitions_are}
use Rattle.nq_kernel.proofs.axioms.steps_of_axiom.Goals as goal

pub returns-clause-axiom : goal.returns-clause-axiom
returns-clause-axiom c =
    let bank : Content = c.args.bank.now in
    let history : List Entry = c.args.history.now in
    let name : Name = text_at bank c.args.name in
    let definition : option_map (opened bank) c.definition_among-definition.result ≡ option_map opening (definition_found name (ground_definitions ++ events_definitions (events_at bank history))) =
    c.definition_among-definition.ensures.definition ∙
    ap (λ es. option_map opening (definition_found name (events_definitions (all_events_at bank es)))) c.entries.ensures ∙
    ap (λ ds. option_map opening (definition_found name ds)) (definitions_are bank history c.requires.history) in
    c.axiom_steps.ensures.axiom (events_at bank history) definition (c.shells.ensures.logic bank c.requires.history)
