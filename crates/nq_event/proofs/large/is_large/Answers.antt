use Rattle.std.proofs.Common.{◌≡◌, ap, ◌∙◌, map, Bool}
use Rattle.std.specs.Prelude.{Some}
use Rattle.std.specs.Option.{option_and_then}
use Rattle.nq_logic.specs.Terms.{substituted}
use Rattle.nq_language.specs.Limits.{is_too_large}
use Rattle.nq_history.specs.Events.{events_at}
use Rattle.nq_events.specs.HintRefusals.{instance_term, is_large_instance}
use Rattle.nq_event.specs.EventsAt.{instance_at, pair_at}
use Rattle.nq_event.specs.Stated.{stated_term}
use Rattle.nq_event.proofs.ToldLemmas.{ok_on}
use Rattle.nq_event.proofs.large.is_large.Goals as goal

pub returns-in-Some-clause-is : goal.returns-in-Some-clause-is
returns-in-Some-clause-is c =
    let bank = c.args.bank.now in
    let instance = c.args.instance.now in
    let by = map (pair_at bank) instance.pairs.items in
    let given = map (pair_at bank) c.as_slice.result.now in
    let t = stated_term bank c.in-Some.stated in
    let same = ap (map (pair_at bank)) c.as_slice.ensures.value in
    ok_on c.is_large_of.result (λ (large : Bool). large ≡ is_too_large (substituted given t)) (λ (large : Bool). large ≡ is_large_instance (instance_term (events_at bank c.args.history.now) (instance_at bank instance)))
    (λ large e. e ∙ ap (λ s. is_too_large (substituted s t)) same ∙ ap (λ o. is_large_instance (option_and_then (λ u. Some (substituted by u)) o)) c.in-Some.ensures.is)
    c.is_large_of.ensures.is
