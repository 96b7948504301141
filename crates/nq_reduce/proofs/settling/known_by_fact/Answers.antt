use Rattle.std.proofs.Common.{refl}
use Rattle.nq_bank.specs.Content.{terms_at}
use Rattle.nq_reduce.proofs.StepLemmas.{known_fact}
use Rattle.nq_reduce.proofs.settling.known_by_fact.Goals as goal

pub returns-then-is_same : goal.returns-then-is_same
returns-then-is_same c = known_fact c.args.work.now (terms_at c.args.work.now.bank c.args.assumed.now) c.args.t c.args.fact (c.if-is_same.ensures refl) c.requires.fact.line
