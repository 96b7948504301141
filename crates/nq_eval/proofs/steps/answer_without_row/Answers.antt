use Rattle.nq_eval.proofs.LineLemmas.{grown_refl}
use Rattle.nq_eval.proofs.steps.answer_without_row.Goals as goal

pub returns-then-is_value-clause-answer : goal.returns-then-is_value-clause-answer
returns-then-is_value-clause-answer c = c.value_without_opening.ensures c.args.nesting c.args.calls

pub returns-then-is_value-clause-grows : goal.returns-then-is_value-clause-grows
returns-then-is_value-clause-grows c = grown_refl c.args.history.now c.args.work.now c.requires.stands
