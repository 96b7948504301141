use Rattle.std.proofs.Common.{ap, ◌∙◌}
use Rattle.nq_steps.specs.Steps.{stack_of}
use Rattle.nq_steps.proofs.StackLemmas.{stack_of-push}
use Rattle.nq_steps.proofs.steps.put.Goals as goal

pub returns-clause-makes : goal.returns-clause-makes
returns-clause-makes c = ap (stack_of c.args.bank.now) c.in_ok-push.ensures.items ∙ stack_of-push c.args.bank.now c.args.steps.now.items c.args.step
