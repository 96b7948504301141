use Rattle.std.proofs.Common.{sym, subst}
use Rattle.nq_kernel.specs.Ready.{HasUsableDefinitions}
use Rattle.nq_eval.proofs.LineLemmas.{grown_trans}
use Rattle.nq_eval.proofs.ClosingLemmas.{usable_after, events_same}
use Rattle.nq_eval.proofs.EvaluationLemmas.{values_call_after}
use Rattle.nq_eval.proofs.steps.call_answer.Goals as goal

pub row_value-requires-clause-term : goal.row_value-requires-clause-term
row_value-requires-clause-term c = usable_after c.args.history.now c.args.work.now c.row_of.new.work c.requires.stands c.row_of.ensures.grows c.args.call.now.term c.requires.call.term

pub returns-in_err-row_value-in-Value-clause-grows : goal.returns-in_err-row_value-in-Value-clause-grows
returns-in_err-row_value-in-Value-clause-grows c = grown_trans c.args.history.now c.args.work.now c.row_of.new.work c.row_value.new.work c.row_of.ensures.grows c.row_value.ensures.grows

pub value_without_opening-requires-clause-term : goal.value_without_opening-requires-clause-term
value_without_opening-requires-clause-term c = usable_after c.args.history.now c.args.work.now c.row_of.new.work c.requires.stands c.row_of.ensures.grows c.args.call.now.term c.requires.call.term

pub answer_without_row-requires-clause-definitions : goal.answer_without_row-requires-clause-definitions
answer_without_row-requires-clause-definitions c = subst HasUsableDefinitions (sym (events_same c.args.history.now c.args.work.now c.row_of.new.work c.requires.stands c.row_of.ensures.grows)) c.requires.definitions

pub answer_without_row-requires-clause-call : goal.answer_without_row-requires-clause-call
answer_without_row-requires-clause-call c = values_call_after c.args.history.now c.args.work.now c.row_of.new.work c.requires.stands c.row_of.ensures.grows c.args.f c.args.call.now c.requires.call

pub returns-in_ok-row_value-in-Value-clause-answer : goal.returns-in_ok-row_value-in-Value-clause-answer
returns-in_ok-row_value-in-Value-clause-answer c = c.in_ok-row_value-in-Value.ensures.found c.args.nesting c.args.calls

pub returns-in_ok-row_value-in-Value-clause-grows : goal.returns-in_ok-row_value-in-Value-clause-grows
returns-in_ok-row_value-in-Value-clause-grows c = grown_trans c.args.history.now c.args.work.now c.row_of.new.work c.row_value.new.work c.row_of.ensures.grows c.row_value.ensures.grows

pub returns-in-Passes-clause-answer : goal.returns-in-Passes-clause-answer
returns-in-Passes-clause-answer c = c.value_without_opening.ensures c.args.nesting c.args.calls

pub returns-in-NotBuiltIn-clause-grows : goal.returns-in-NotBuiltIn-clause-grows
returns-in-NotBuiltIn-clause-grows c = grown_trans c.args.history.now c.args.work.now c.row_of.new.work c.answer_without_row.new.work c.row_of.ensures.grows c.answer_without_row.ensures.grows
