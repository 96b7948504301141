use Rattle.std.proofs.Common.{sym, subst}
use Rattle.nq_kernel.specs.Ready.{HasUsableDefinitions}
use Rattle.nq_eval.proofs.LineLemmas.{grown_trans}
use Rattle.nq_eval.proofs.ClosingLemmas.{events_same}
use Rattle.nq_eval.proofs.EvaluationLemmas.{reduced_after}
use Rattle.nq_eval.proofs.steps.reduce.Goals as goal

pub call_answer-requires-clause-definitions : goal.call_answer-requires-clause-definitions
call_answer-requires-clause-definitions c = subst HasUsableDefinitions (sym (events_same c.args.history.now c.args.work.now c.call_of_values.new.work c.requires.stands c.call_of_values.ensures.grows)) c.requires.definitions

pub returns-in_err-answer-clause-grows : goal.returns-in_err-answer-clause-grows
returns-in_err-answer-clause-grows c = grown_trans c.args.history.now c.args.work.now c.call_of_values.new.work c.call_answer.new.work c.call_of_values.ensures.grows c.call_answer.ensures.grows

pub step_of-requires-clause-reduced : goal.step_of-requires-clause-reduced
step_of-requires-clause-reduced c =
    reduced_after c.args.history.now c.call_of_values.new.work c.call_answer.new.work c.call_of_values.ensures.grows.grows.stands c.call_answer.ensures.grows c.args.request.term c.args.request.nesting c.args.request.calls c.args.gathering.values.calls c.args.gathering.values.nesting c.in_ok-call.call c.in_ok-call.ensures.reduced

pub returns-clause-grows : goal.returns-clause-grows
returns-clause-grows c =
    grown_trans c.args.history.now c.args.work.now c.call_of_values.new.work c.step_of.new.work c.call_of_values.ensures.grows
    (grown_trans c.args.history.now c.call_of_values.new.work c.call_answer.new.work c.step_of.new.work c.call_answer.ensures.grows c.step_of.ensures.grows)
