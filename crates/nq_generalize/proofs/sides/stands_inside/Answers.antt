use Rattle.nq_bank.specs.Content.{term_at}
use Rattle.nq_goals.specs.Replacing.{stands_in}
use Rattle.nq_generalize.proofs.SideLemmas.{or_nothing}
use Rattle.nq_generalize.proofs.sides.stands_inside.Goals as goal

pub returns-in-Ok-clause-answer : goal.returns-in-Ok-clause-answer
returns-in-Ok-clause-answer c = or_nothing _ (stands_in (term_at c.args.bank.now c.args.a) (term_at c.args.bank.now c.args.t)) c.in-Ok.ensures
