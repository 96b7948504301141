use Rattle.nq_eval.proofs.LineLemmas.{grown_trans}
use Rattle.nq_eval.proofs.EvaluationLemmas.{reduced_after}
use Rattle.nq_eval.proofs.resuming.with_body.Goals as goal

pub close_step-requires-clause-reduced : goal.close_step-requires-clause-reduced
close_step-requires-clause-reduced c =
    reduced_after c.args.history.now c.args.work.now c.close_opening.new.work c.requires.stands c.close_opening.ensures.grows c.args.request.term c.args.request.nesting c.args.request.calls c.args.entered.used c.args.entered.deepest c.args.entered.call c.requires.entered.reduced

pub returns-clause-grows : goal.returns-clause-grows
returns-clause-grows c = grown_trans c.args.history.now c.args.work.now c.close_opening.new.work c.close_step.new.work c.close_opening.ensures.grows c.close_step.ensures.grows
