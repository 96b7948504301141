use Rattle.std.proofs.Common.{◌≡◌, ap, ◌∙◌, length, arith}
use Rattle.std.proofs.lemmas.List.{length-map}
use Rattle.nq_bank.specs.Content.{Content, text_at}
use Rattle.nq_logic.specs.Shells.{accessed, whole}
use Rattle.nq_bank.specs.Shells.{parts_at, part_at}
use Rattle.nq_steps.specs.Steps.{called, pushed, stack_of}
use Rattle.nq_steps.proofs.StackLemmas.{called-pushed, on_ok}
use Rattle.nq_shell.proofs.DraftLemmas.{length-accessed}
use Rattle.nq_shell.proofs.drafts.put_remade.Goals as goal

pub returns-clause-makes : goal.returns-clause-makes
returns-clause-makes c =
    let bank : Content = c.args.bank.now in
    let parts = parts_at bank c.args.shell.now.parts.items in
    let count = length-accessed whole parts ∙ length-map c.args.shell.now.parts.items (part_at bank) in
    let f = text_at bank c.args.shell.now.constructor in
    let n = c.len.result in
    let same : length c.as_slice.result.now ≡ length c.args.shell.now.parts.items = ap length c.as_slice.ensures.value in
    let full : length (accessed whole parts) ≡ n = omega (arith, count, same, c.as_slice.ensures.len, c.len.ensures) in
    on_ok c.put_call.result
    (λ e. e ∙ ap (called f n) (c.in_ok-put_parts_of_whole.ensures.makes ∙ ap (λ ps. pushed (accessed whole (parts_at bank ps)) (stack_of bank c.args.steps.now.items)) c.as_slice.ensures.value) ∙ called-pushed f (accessed whole parts) (stack_of bank c.args.steps.now.items) n full)
    c.put_call.ensures.makes
