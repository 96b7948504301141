use Rattle.nq_bank.specs.Content.{term_at}
use Rattle.nq_calls.proofs.LineLemmas.{one_opposite}
use Rattle.nq_calls.proofs.lines.is_denial.Goals as goal

pub returns : goal.returns
returns c = one_opposite (term_at c.args.bank.now c.args.test) (term_at c.args.bank.now c.args.literal) c.contains_opposite.result c.contains_opposite.ensures
