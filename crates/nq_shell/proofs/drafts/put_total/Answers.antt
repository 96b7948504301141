use Rattle.std.proofs.Common.{ap, ◌∙◌, ◌∷◌}
use Rattle.std.proofs.lemmas.List.{length-map}
use Rattle.nq_bank.specs.Content.{Content}
use Rattle.nq_logic.specs.Shells.{part_sizes}
use Rattle.nq_bank.specs.Shells.{parts_at, part_at}
use Rattle.nq_steps.specs.Steps.{stack_of}
use Rattle.nq_steps.proofs.StackLemmas.{on_ok}
use Rattle.nq_shell.proofs.DraftLemmas.{length-part_sizes, sum-nest}
use Rattle.nq_shell.proofs.drafts.put_total.Goals as goal

pub returns-clause-makes : goal.returns-clause-makes
returns-clause-makes c =
    let bank : Content = c.args.bank.now in
    let parts = parts_at bank c.args.parts.now in
    let ts = part_sizes 0 parts in
    let rest = stack_of bank c.args.steps.now.items in
    let count = length-part_sizes 0 parts ∙ length-map c.args.parts.now (part_at bank) in
    on_ok c.put_joined.result (λ e. e ∙ ap (λ t. t ∷ rest) (sum-nest ts)) (c.put_joined.ensures.makes ts rest count c.in_ok-put_sizes.ensures.makes)
