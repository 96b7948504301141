use Rattle.nq_bank.specs.Content.{terms_at}
use Rattle.nq_reduce.proofs.DroppingLemmas.{first_rest}
use Rattle.nq_reduce.proofs.cases.led_to.Goals as goal

pub led_rest-requires-clause-literals : goal.led_rest-requires-clause-literals
led_rest-requires-clause-literals c = c.requires.literals.there

pub led_rest-requires-clause-line : goal.led_rest-requires-clause-line
led_rest-requires-clause-line c = first_rest c.args.history.now c.args.work.now (terms_at c.args.work.now.bank c.args.assumed.now) c.args.kept c.args.literals.now c.args.line c.requires.literals
