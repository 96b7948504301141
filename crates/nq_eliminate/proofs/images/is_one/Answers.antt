use Rattle.nq_rule.proofs.LiteralLemmas.{eqb-terms}
use Rattle.nq_eliminate.proofs.images.is_one.Goals as goal

pub returns : goal.returns
returns c = eqb-terms c.args.bank.now c.args.left c.args.right c.is_sound.ensures c.requires.left c.requires.right
