use Rattle.nq_rules.proofs.PartLemmas.{no_hypothesis}
use Rattle.nq_rules.proofs.parts.+conclusion_of.Goals as goal

pub returns-in-None-clause-is : goal.returns-in-None-clause-is
returns-in-None-clause-is t c = no_hypothesis c.args.bank.now c.args.t c.in-None.ensures
