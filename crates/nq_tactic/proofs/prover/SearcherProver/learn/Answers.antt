use Rattle.nq_tactic.proofs.LearningLemmas.{but_last}
use Rattle.nq_tactic.proofs.prover.SearcherProver.learn.Goals as goal

pub learn-requires-clause-learnt : goal.learn-requires-clause-learnt
learn-requires-clause-learnt c = but_last c.args.self.now.rules c.args.history.now c.requires.learnt
