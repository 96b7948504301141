use Rattle.std.proofs.Common.{ap, ◌∙◌, ◌-◌, []}
use Rattle.nq_logic.specs.Terms.{call}
use Rattle.nq_bank.specs.Soundness.{ground_text}
use Rattle.nq_steps.specs.Steps.{called_times}
use Rattle.nq_steps.proofs.StackLemmas.{joined_all, on_ok}
use Rattle.nq_steps.proofs.steps.put_joined.Goals as goal

pub returns-else-count-eq0-clause-makes : goal.returns-else-count-eq0-clause-makes
returns-else-count-eq0-clause-makes c =
    λ ts rest count is.
    on_ok c.put_times.result (λ e. e ∙ ap (called_times (ground_text c.args.known) (c.args.count - 1)) is ∙ joined_all (ground_text c.args.known) (call (ground_text c.args.none) []) ts rest c.args.count c.if-count-eq0.false count) c.put_times.ensures.makes
