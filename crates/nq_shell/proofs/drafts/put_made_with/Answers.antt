use Rattle.std.proofs.Common.{◌≡◌, ap, ◌∙◌, length, arith}
use Rattle.std.proofs.Common.{◌∷◌}
use Rattle.std.proofs.lemmas.List.{length-map}
use Rattle.nq_bank.specs.Content.{Content, text_at}
use Rattle.nq_logic.specs.Terms.{Function, call}
use Rattle.nq_bank.specs.Shells.{parts_at, part_at}
use Rattle.nq_steps.specs.Steps.{called, pushed, stack_of}
use Rattle.nq_shell.specs.Drafts.{variables_with}
use Rattle.nq_steps.proofs.StackLemmas.{called-pushed, on_ok}
use Rattle.nq_shell.proofs.DraftLemmas.{length-variables_with, one_replaced}
use Rattle.nq_shell.proofs.drafts.put_made_with.Goals as goal

pub returns-clause-makes : goal.returns-clause-makes
returns-clause-makes c =
    let bank : Content = c.args.bank.now in
    let t = Function (text_at bank c.args.default) in
    let parts = parts_at bank c.args.shell.now.parts.items in
    let rest = stack_of bank c.args.steps.now.items in
    let count = length-variables_with 0 c.args.place t parts ∙ length-map c.args.shell.now.parts.items (part_at bank) in
    let f = text_at bank c.args.shell.now.constructor in
    let n = c.len.result in
    let same : length c.as_slice.result.now ≡ length c.args.shell.now.parts.items = ap length c.as_slice.ensures.value in
    let full : length (variables_with 0 c.args.place t parts) ≡ n = omega (arith, count, same, c.as_slice.ensures.len, c.len.ensures) in
    on_ok c.put_call.result
    (λ e.
    e ∙
    ap (called f n) (c.in_ok-put_arguments.ensures.makes ∙ ap (λ ps. pushed (variables_with 0 c.args.place t (parts_at bank ps)) rest) c.as_slice.ensures.value) ∙
    called-pushed f (variables_with 0 c.args.place t parts) rest n full ∙
    ap (λ ts. call f ts ∷ rest) (one_replaced 0 c.args.place c.args.place t parts (omega arith)))
    c.put_call.ensures.makes
