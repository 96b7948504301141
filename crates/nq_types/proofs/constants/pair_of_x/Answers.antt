use Rattle.nq_lines.proofs.PairLemmas.{one_in, one_paired}
use Rattle.nq_types.proofs.constants.pair_of_x.Goals as goal

pub returns-in-Ok-clause-pairs : goal.returns-in-Ok-clause-pairs
returns-in-Ok-clause-pairs c = one_paired c.args.history.now c.args.work.now c.symbol.new.work c.requires.stands c.symbol.ensures.grows c.in-Ok.pairs.items c.in_ok-x.x c.args.t c.in-Ok.ensures.items c.in_ok-x.ensures.name c.requires.term

pub returns-in-Ok-clause-over : goal.returns-in-Ok-clause-over
returns-in-Ok-clause-over c = one_in c.args.history.now c.args.work.now c.symbol.new.work c.requires.stands c.symbol.ensures.grows c.in-Ok.pairs.items c.in_ok-x.x c.args.t c.in-Ok.ensures.items c.in_ok-x.ensures.name c.requires.term
