use Rattle.nqthm.proofs.NumberLemmas.{number_in-number, number_in-other}
use Rattle.nqthm.proofs.words.number_in.Goals as goal

pub returns-in-Ok-clause-value : goal.returns-in-Ok-clause-value
returns-in-Ok-clause-value c =
    number_in-number c.args.least c.args.most c.args.text.now c.in-Ok.n c.in-Ok.ensures.value.0.0 c.in-Ok.ensures.value.0.1 c.if-least-n.true c.if-n-most.true

pub returns-in_default-3-clause-value : goal.returns-in_default-3-clause-value
returns-in_default-3-clause-value c = number_in-other c.args.least c.args.most c.args.text.now (λ is least most. c.in_default.ensures.value.0 is)
