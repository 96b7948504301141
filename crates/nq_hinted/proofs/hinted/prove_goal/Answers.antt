use Rattle.nq_eval.proofs.LineLemmas.{grown_refl}
use Rattle.nq_hinted.proofs.HintedLemmas.{too_many}
use Rattle.nq_hinted.proofs.hinted.prove_goal.Goals as goal

pub returns-then-has_many-clause-answer : goal.returns-then-has_many-clause-answer
returns-then-has_many-clause-answer c =
    too_many c.args.history.now c.args.hints.now c.args.work.now c.args.goal c.args.first c.args.rest.now (record { first_stands = c.requires.first; rest_stand = c.requires.rest; literals = c.requires.literals })
    (c.has_many.ensures.0 c.if-has_many.true) c.args.work.now

pub returns-then-has_many-clause-grows : goal.returns-then-has_many-clause-grows
returns-then-has_many-clause-grows c = grown_refl c.args.history.now c.args.work.now c.requires.can.stands

pub prove_few-requires-clause-literals : goal.prove_few-requires-clause-literals
prove_few-requires-clause-literals c = record { first_stands = c.requires.first; rest_stand = c.requires.rest; literals = c.requires.literals }
