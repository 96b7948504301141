use Rattle.nq_bank.specs.Content.{terms_at}
use Rattle.nq_simplify.proofs.SimplifiedLemmas.{divided_is}
use Rattle.nq_simplify.proofs.composing.divided.Goals as goal

pub returns-clause-simplified : goal.returns-clause-simplified
returns-clause-simplified c = divided_is c.args.history.now c.args.work.now (terms_at c.args.work.now.bank c.args.goal.now) c.args.split c.args.with_test c.args.without_test _ c.requires.split c.requires.with_test c.requires.without_test c.in_ok-way.ensures.way c.in_ok-nexts.ensures.all
