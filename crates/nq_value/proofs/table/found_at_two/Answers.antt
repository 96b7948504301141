use Rattle.std.proofs.Common.{arith}
use Rattle.nq_value.specs.RowNames.{name_of_two}
use Rattle.nq_value.proofs.TableLemmas.{nothing, two_is_no_one, two_is_no_three}
use Rattle.nq_value.proofs.table.found_at_two.Goals as goal

pub returns-in-len1 : goal.returns-in-len1
returns-in-len1 c =
    nothing c.args.bank.now (name_of_two c.args.row) c.args.arguments.now
    (λ e. two_is_no_one c.args.row) (λ e. absurd (omega (arith, e, c.in-len1.len_below))) (λ e. two_is_no_three c.args.row)

pub returns-in_default : goal.returns-in_default
returns-in_default c =
    nothing c.args.bank.now (name_of_two c.args.row) c.args.arguments.now
    (λ e. two_is_no_one c.args.row) (λ e. absurd (omega (arith, e, c.in_default.len_at_least))) (λ e. two_is_no_three c.args.row)
