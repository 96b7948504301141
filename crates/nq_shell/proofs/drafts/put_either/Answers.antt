use Rattle.std.proofs.Common.{ap, ◌∙◌, ◌∷◌}
use Rattle.std.proofs.lemmas.List.{length-map}
use Rattle.nq_bank.specs.Content.{Content, text_at}
use Rattle.nq_logic.specs.Shells.{recognized, part_variable}
use Rattle.nq_bank.specs.Shells.{texts_at}
use Rattle.nq_steps.specs.Steps.{stack_of}
use Rattle.nq_steps.proofs.StackLemmas.{on_ok}
use Rattle.nq_shell.proofs.DraftLemmas.{length-recognized, either-nest}
use Rattle.nq_shell.proofs.drafts.put_either.Goals as goal

pub returns-clause-makes : goal.returns-clause-makes
returns-clause-makes c =
    let bank : Content = c.args.bank.now in
    let names = texts_at bank c.args.names.now in
    let ts = recognized names (part_variable c.args.place) in
    let rest = stack_of bank c.args.steps.now.items in
    let count = length-recognized names (part_variable c.args.place) ∙ length-map c.args.names.now (text_at bank) in
    on_ok c.put_joined.result (λ e. e ∙ ap (λ t. t ∷ rest) (either-nest ts)) (c.put_joined.ensures.makes ts rest count c.in_ok-put_recognizers.ensures.makes)
