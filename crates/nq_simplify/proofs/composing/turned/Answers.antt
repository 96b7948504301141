use Rattle.std.proofs.Common.{refl}
use Rattle.nq_bank.specs.Content.{terms_at}
use Rattle.nq_simplify.proofs.SimplifiedLemmas.{turned_is}
use Rattle.nq_simplify.proofs.composing.turned.Goals as goal

pub returns-clause-simplified : goal.returns-clause-simplified
returns-clause-simplified c = turned_is c.args.history.now c.args.work.now (terms_at c.args.work.now.bank c.args.goal.now) c.args.turn c.args.rest _ c.requires.turn c.requires.rest c.in_ok-way.ensures.way refl
