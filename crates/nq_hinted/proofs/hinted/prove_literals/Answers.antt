use Rattle.nq_eval.proofs.LineLemmas.{grown_refl}
use Rattle.nq_hinted.proofs.HintedLemmas.{empty_goal}
use Rattle.nq_hinted.proofs.hinted.prove_literals.Goals as goal

pub returns-in-empty-clause-answer : goal.returns-in-empty-clause-answer
returns-in-empty-clause-answer c = λ distinct h. empty_goal c.args.history.now c.args.hints.now c.args.work.now c.args.goal c.args.literals.now c.in-empty.len_below c.requires.literals h

pub returns-in-empty-clause-grows : goal.returns-in-empty-clause-grows
returns-in-empty-clause-grows c = grown_refl c.args.history.now c.args.work.now c.requires.can.stands
