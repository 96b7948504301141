use Rattle.nq_lines.proofs.FactLemmas.{pairs_found}
use Rattle.nq_lines.proofs.matched.found_pairs.Goals as goal

pub returns-clause-pairs : goal.returns-clause-pairs
returns-clause-pairs c = pairs_found c.args.history.now c.args.work.now c.pairs_of.new.work c.pairs_of.ensures.grows c.args.pattern c.args.t c.args.bindings.now c.in_ok-pairs.pairs c.requires.stands c.requires.pattern c.requires.term c.requires.instance c.in_ok-pairs.ensures.pairs c.in_ok-pairs.ensures.stand
