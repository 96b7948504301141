use Rattle.std.proofs.Common.{arith}
use Rattle.nq_value.specs.RowNames.{name_of_one}
use Rattle.nq_value.proofs.TableLemmas.{nothing, one_is_no_two, one_is_no_three}
use Rattle.nq_value.proofs.table.found_at_one.Goals as goal

pub returns-in_default : goal.returns-in_default
returns-in_default c =
    nothing c.args.bank.now (name_of_one c.args.row) c.args.arguments.now
    (λ e. absurd (omega (arith, e, c.in_default.len_at_least))) (λ e. one_is_no_two c.args.row) (λ e. one_is_no_three c.args.row)
