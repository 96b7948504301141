use Rattle.nq_part_lines.proofs.DefaultedLemmas.{one_in, one_pair}
use Rattle.nq_part_lines.proofs.defaulted.pairs_with.Goals as goal

pub pair_with-pair-requires-clause-variable : goal.pair_with-pair-requires-clause-variable
pair_with-pair-requires-clause-variable c = c.requires.variable.inside.stands

pub pair_with-pair-requires-clause-term : goal.pair_with-pair-requires-clause-term
pair_with-pair-requires-clause-term c = c.requires.term.inside.stands

pub returns-clause-pairs : goal.returns-clause-pairs
returns-clause-pairs c x e = one_pair c.args.work.now.bank c.in_ok-pairs.pairs.items c.pair_with-pair.result c.args.term c.args.variable x c.in_ok-pairs.ensures.items c.pair_with-pair.ensures.variable c.pair_with-pair.ensures.term e

pub returns-clause-over : goal.returns-clause-over
returns-clause-over c = one_in c.args.history.now c.args.work.now c.in_ok-pairs.pairs.items c.pair_with-pair.result c.args.term c.args.variable c.in_ok-pairs.ensures.items c.pair_with-pair.ensures.stands c.pair_with-pair.ensures.variable c.pair_with-pair.ensures.term c.requires.is c.requires.variable c.requires.term
