use Rattle.std.proofs.Common.{◌≡◌, [], sym, subst}
use Rattle.nq_logic.specs.RuleShapes.{variables_of}
use Rattle.nq_bank.specs.Content.{term_at}
use Rattle.nq_history.specs.Events.{events_at}
use Rattle.nq_rule.proofs.Made.{for_ok}
use Rattle.nq_eval.specs.Answers.{IsEvaluated}
use Rattle.nq_eval.specs.Known.{IsBlocked}
use Rattle.nq_fragments.specs.Evaluation.{outcome_of}
use Rattle.nq_eval.proofs.LineLemmas.{grown_trans, usable_grown}
use Rattle.nq_evaluated.specs.Values.{IsProvedByValue}
use Rattle.nq_evaluated.proofs.ValueLemmas.{blocked_without, fuel_without, none_back, proved_back, term_same}
use Rattle.nq_evaluated.proofs.evaluated.prove_ground.Goals as goal

pub prove_from_value-requires : goal.prove_from_value-requires
prove_from_value-requires c =
    let h = c.args.history.now in
    let old = c.args.work.now in
    let new = c.evaluate.new.work in
    let grows = c.evaluate.ensures.grows.grows in
    record {
      stands = grows.stands;
      goal = usable_grown old.bank new.bank h c.args.goal grows.bank c.requires.stands.history c.requires.goal;
      ground = subst (λ u. variables_of u ≡ []) (sym (term_same h old new c.args.goal grows c.requires.stands c.requires.goal.stands)) c.requires.ground;
      value = subst (λ a. IsEvaluated h new c.args.goal a) c.in-Value.is c.in_ok-value.ensures.answer;
    }

pub returns-in-Value-clause-answer : goal.returns-in-Value-clause-answer
returns-in-Value-clause-answer c =
    let h = c.args.history.now in
    let old = c.args.work.now in
    let mid = c.evaluate.new.work in
    let new = c.prove_from_value.new.work in
    for_ok c.prove_from_value.result (IsProvedByValue h mid new c.args.goal) (IsProvedByValue h old new c.args.goal)
    (proved_back h old mid c.args.goal c.evaluate.ensures.grows.grows c.requires.stands c.requires.goal.stands new) c.prove_from_value.ensures.answer

pub returns-in-Value-clause-grows : goal.returns-in-Value-clause-grows
returns-in-Value-clause-grows c =
    grown_trans c.args.history.now c.args.work.now c.evaluate.new.work c.prove_from_value.new.work c.evaluate.ensures.grows c.prove_from_value.ensures.grows

pub returns-in-Blocked-clause-answer : goal.returns-in-Blocked-clause-answer
returns-in-Blocked-clause-answer c =
    let h = c.args.history.now in
    let old = c.args.work.now in
    let new = c.evaluate.new.work in
    let events = events_at new.bank h in
    let t = term_at new.bank c.args.goal in
    let held : IsBlocked new c.in-Blocked.field-0 (outcome_of events t) = subst (λ a. IsEvaluated h new c.args.goal a) c.in-Blocked.is c.in_ok-value.ensures.answer in
    none_back h old new c.args.goal c.evaluate.ensures.grows.grows c.requires.stands c.requires.goal.stands (blocked_without events t (term_at new.bank c.in-Blocked.field-0) held.blocked)

pub returns-in-Fuel-clause-answer : goal.returns-in-Fuel-clause-answer
returns-in-Fuel-clause-answer c =
    let h = c.args.history.now in
    let old = c.args.work.now in
    let new = c.evaluate.new.work in
    let events = events_at new.bank h in
    let t = term_at new.bank c.args.goal in
    none_back h old new c.args.goal c.evaluate.ensures.grows.grows c.requires.stands c.requires.goal.stands
    (fuel_without events t (subst (λ a. IsEvaluated h new c.args.goal a) c.in-Fuel.is c.in_ok-value.ensures.answer))
