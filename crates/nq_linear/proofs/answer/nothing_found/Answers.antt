use Rattle.std.proofs.Common.{rules}
use Rattle.nq_bank.specs.Content.{terms_at}
use Rattle.nq_linear.proofs.CauseLemmas.{passing, too_wide}
use Rattle.nq_linear.proofs.answer.nothing_found.Goals as goal

pub returns-in-Some-Passes : goal.returns-in-Some-Passes
returns-in-Some-Passes c = passing (terms_at c.args.bank.now c.args.literals.now) _ _ (search rules)

pub returns-in-Some-Wide : goal.returns-in-Some-Wide
returns-in-Some-Wide c = too_wide (terms_at c.args.bank.now c.args.literals.now) c.in-Some-Wide.n (search rules)
