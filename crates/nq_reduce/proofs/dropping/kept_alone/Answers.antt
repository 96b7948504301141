use Rattle.nq_bank.specs.Content.{terms_at}
use Rattle.nq_reduce.proofs.DroppingLemmas.{first_rest}
use Rattle.nq_reduce.proofs.dropping.kept_alone.Goals as goal

pub kept_rest-requires-clause-literals : goal.kept_rest-requires-clause-literals
kept_rest-requires-clause-literals c = c.requires.literals.there

pub kept_rest-requires-clause-line : goal.kept_rest-requires-clause-line
kept_rest-requires-clause-line c = first_rest c.args.history.now c.args.work.now (terms_at c.args.work.now.bank c.args.assumed.now) c.args.kept c.args.literals.now c.args.line c.requires.literals
