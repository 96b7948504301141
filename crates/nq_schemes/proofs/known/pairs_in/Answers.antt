use Rattle.nq_schemes.specs.Known.{IsPairIn}
use Rattle.nq_schemes.proofs.GrownLemmas.{all_with, none_all}
use Rattle.nq_schemes.proofs.known.pairs_in.Goals as goal

pub loop-c-init : goal.loop-c-init
loop-c-init c = none_all (IsPairIn c.args.history.now c.args.work.now) c.new-pairs.result.items c.new-pairs.ensures.items

pub loop-c-preserved : goal.loop-c-preserved
loop-c-preserved c = all_with (IsPairIn c.args.history.now c.args.work.now) c.loop-c.pairs.items c.add_pair.new.pairs.items c.changed_pair-found.result c.in_ok-add_pair.ensures.more c.loop-c.invariant c.changed_pair-found.ensures
