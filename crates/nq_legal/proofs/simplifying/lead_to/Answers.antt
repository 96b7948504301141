use Rattle.nq_legal.proofs.SimplifyingLemmas.{simplification_legal}
use Rattle.nq_legal.proofs.simplifying.lead_to.Goals as goal

pub returns : goal.returns
returns c =
    simplification_legal c.args.history.now c.args.hints.now c.args.work.now c.args.goal.now c.args.simplified c.ways_simplify.ensures c.requires.ready c.requires.goal c.requires.simplified c.requires.plain
