use Rattle.nq_value.proofs.SameLemmas.{eqb-terms}
use Rattle.nq_value.proofs.relations.is_same.Goals as goal

pub returns : goal.returns
returns c = eqb-terms c.args.bank.now c.args.a c.args.b c.is_sound.ensures c.requires.first c.requires.second
