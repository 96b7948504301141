use Rattle.std.proofs.Common.{subst}
use Rattle.nq_bank.specs.Content.{term_at}
use Rattle.nq_history.specs.Events.{events_at}
use Rattle.nq_kernel.specs.declared.work.Work.{Work}
use Rattle.nq_fragments.specs.Evaluation.{outcome_of}
use Rattle.nq_eval.specs.Answers.{IsEvaluated, IsValueWithLine}
use Rattle.nq_ground_goals.proofs.FalseLemmas.{value_told}
use Rattle.nq_ground_goals.proofs.literal.has_value_false.Goals as goal

pub returns-in-Value-clause-answer : goal.returns-in-Value-clause-answer
returns-in-Value-clause-answer c =
    let h = c.args.history.now in
    let new : Work = c.evaluate.new.work in
    let held : IsValueWithLine h new c.args.t c.in-Value.value c.in-Value.field-1 = subst (λ a. IsEvaluated h new c.args.t a) c.in-Value.is c.in_ok-value.ensures.answer in
    value_told (outcome_of (events_at new.bank h) (term_at new.bank c.args.t)) (term_at new.bank c.in-Value.value) c.is_falsity.result held.value c.is_falsity.ensures
