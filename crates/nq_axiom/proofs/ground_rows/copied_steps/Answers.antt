use Rattle.std.proofs.Common.{[], All, ap, sym, subst, ◌∙◌}
use Rattle.nq_bank.specs.Content.{Content}
use Rattle.nq_steps.specs.Steps.{stack_of, StepStands}
use Rattle.nq_steps.proofs.StackLemmas.{if_ok}
use Rattle.nq_axiom.specs.Steps.{ground_content}
use Rattle.nq_axiom.proofs.StepLemmas.{ground_grows, steps_same, steps_stand}
use Rattle.nq_axiom.proofs.ground_rows.copied_steps.Goals as goal

pub returns-clause-stand : goal.returns-clause-stand
returns-clause-stand c =
    let bank : Content = c.args.bank.now in
    let stand = steps_stand ground_content bank c.args.known.now (ground_grows bank c.is_sound.ensures) c.requires in
    if_ok c.from_slice.result (λ steps e. subst (All (StepStands bank)) (sym e) stand) c.from_slice.ensures.items

pub returns-clause-makes : goal.returns-clause-makes
returns-clause-makes c =
    let bank : Content = c.args.bank.now in
    let same = steps_same ground_content bank c.args.known.now [] (ground_grows bank c.is_sound.ensures) c.requires in
    if_ok c.from_slice.result (λ steps e. ap (stack_of bank) e ∙ same) c.from_slice.ensures.items
