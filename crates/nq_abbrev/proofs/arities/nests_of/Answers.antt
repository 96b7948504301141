use Rattle.nq_abbrev.specs.Known.{arity_over}
use Rattle.nq_abbrev.proofs.AgreeLemmas.{agrees}
use Rattle.nq_abbrev.proofs.arities.nests_of.Goals as goal

pub returns : goal.returns
returns g c = agrees _ (arity_over c.args.bank.now.names (g.A.Arities.at c.args.arities.now)) c.takes_two.ensures c.takes_two-2.ensures c.takes_two-3.ensures c.takes_two-4.ensures
