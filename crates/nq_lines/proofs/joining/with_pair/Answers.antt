use Rattle.nq_lines.proofs.BranchLemmas.{pair_added, pair_stands}
use Rattle.nq_lines.proofs.joining.with_pair.Goals as goal

pub returns-in-Ok-clause-pairs : goal.returns-in-Ok-clause-pairs
returns-in-Ok-clause-pairs c = pair_added c.args.history.now c.args.work.now c.symbol.new.work c.args.pairs.items c.push.new.self.items c.in_ok-variable.variable c.args.t c.args.name.now c.requires.stands c.symbol.ensures.grows c.requires.pairs c.in_ok-variable.ensures.name c.requires.term c.in-Ok.ensures.items

pub returns-in-Ok-clause-stand : goal.returns-in-Ok-clause-stand
returns-in-Ok-clause-stand c = pair_stands c.args.history.now c.args.work.now c.symbol.new.work c.args.pairs.items c.push.new.self.items c.in_ok-variable.variable c.args.t c.args.name.now c.requires.stands c.symbol.ensures.grows c.requires.pairs c.in_ok-variable.ensures.name c.requires.term c.in-Ok.ensures.items
