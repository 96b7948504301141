use Rattle.nq_eval.proofs.ClosingLemmas.{usable_after}
use Rattle.nq_eval.proofs.TruthLemmas.{one_pair, pair_in}
use Rattle.nq_eval.proofs.truths.pair_of.Goals as goal

pub returns-clause-pairs : goal.returns-clause-pairs
returns-clause-pairs c =
    let usable = usable_after c.args.history.now c.args.work.now c.symbol.new.work c.requires.stands c.symbol.ensures.grows c.args.v c.requires.term in
    pair_in c.symbol.new.work.bank c.args.history.now c.in_ok-variable.variable c.args.v c.in_ok-pairs.pairs.items c.in_ok-variable.ensures.name usable c.in_ok-pairs.ensures.items

pub returns-clause-reads : goal.returns-clause-reads
returns-clause-reads c = one_pair c.symbol.new.work.bank c.in_ok-variable.variable c.args.v c.in_ok-pairs.pairs.items c.in_ok-variable.ensures.name c.in_ok-pairs.ensures.items
