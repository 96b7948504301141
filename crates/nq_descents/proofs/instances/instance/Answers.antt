use Rattle.nq_descents.proofs.PairLemmas.{pairs_stand, pairs_terms, pairs_names}
use Rattle.nq_replay.proofs.UncountedLemmas.{grown_refl}
use Rattle.nq_descents.proofs.instances.instance.Goals as goal

pub returns-in_err-pairs : goal.returns-in_err-pairs
returns-in_err-pairs c = grown_refl c.args.history.now c.args.work.now c.requires

pub returns : goal.returns
returns c = c.add.ensures

pub add-requires-clause-rule : goal.add-requires-clause-rule
add-requires-clause-rule c = pairs_stand c.args.history.now c.args.work.now c.in_ok-pairs.pairs.items c.in_ok-pairs.ensures

pub add-requires-clause-over : goal.add-requires-clause-over
add-requires-clause-over c =
    record {
      terms = pairs_terms c.args.history.now c.args.work.now c.in_ok-pairs.pairs.items c.in_ok-pairs.ensures;
      names = pairs_names c.args.history.now c.args.work.now c.in_ok-pairs.pairs.items c.in_ok-pairs.ensures;
    }
