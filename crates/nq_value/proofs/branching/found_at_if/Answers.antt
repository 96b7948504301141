use Rattle.std.specs.Prelude.{codes}
use Rattle.nq_value.proofs.TableLemmas.{nothing, if_is_no_one, if_is_no_two}
use Rattle.nq_value.proofs.branching.found_at_if.Goals as goal

pub returns-then-arguments-ne3 : goal.returns-then-arguments-ne3
returns-then-arguments-ne3 c =
    nothing c.args.bank.now (codes "IF") c.args.arguments.now (λ e. if_is_no_one) (λ e. if_is_no_two) (λ e. absurd (c.if-arguments-ne3.true e))
