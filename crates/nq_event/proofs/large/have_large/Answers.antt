use Rattle.std.proofs.Common.{◌≡◌, ◌+◌, Bool, sym, ap, ◌∙◌, subst, map, drop}
use Rattle.std.specs.Prelude.{Option, Some, if◌then◌else◌}
use Rattle.nq_language.specs.Refusals as language
use Rattle.nq_bank.proofs.Growth.{Grows-trans}
use Rattle.nq_history.specs.Events.{events_at}
use Rattle.nq_history.proofs.HistoryLemmas.{events_at-grown, history_grown}
use Rattle.nq_events.specs.Refusals.{Refusal, OfLanguage}
use Rattle.nq_events.specs.HintRefusals.{instance_term, instances_refusal, is_large_instance}
use Rattle.nq_history.specs.Hints.{InstanceStands}
use Rattle.nq_event.specs.EventsAt.{instance_at}
use Rattle.nq_event.proofs.GrownLemmas.{instances_stay, all_keep}
use Rattle.nq_event.proofs.InstanceLemmas.{instance_here}
use Rattle.nq_event.proofs.large.have_large.Goals as goal

pub loop-instance-preserved : goal.loop-instance-preserved
loop-instance-preserved c =
    let start = c.args.bank.now in
    let bank = c.loop-instance.bank in
    let h = events_at start c.args.history.now in
    let instances = c.args.instances.now in
    let i = c.loop-instance.instance-index in
    let item = c.instance-item.result in
    let stands = c.requires.instances i item c.loop-instance-test.true in
    let past = events_at-grown start bank c.loop-instance.invariant.grows c.args.history.now c.requires.history.entries in
    let same = instances_stay.same start bank item c.loop-instance.invariant.grows (subst (InstanceStands start) (sym c.instance-item.is) stands) in
    let large : c.in_ok-large.large ≡ is_large_instance (instance_term h (instance_at start item)) = c.in_ok-large.ensures.is ∙ ap (λ z. is_large_instance (instance_term z (instance_at bank item))) past ∙ ap (λ z. is_large_instance (instance_term h z)) same in
    let here = instance_here h start instances i item c.loop-instance-test.true c.instance-item.is c.in_ok-large.large large in
    let new = c.is_large.new.bank in
    let rest = instances_refusal h (map (instance_at start) (drop (i + 1) instances)) in
    let chosen : Bool → Option Refusal = λ b. if b then Some (OfLanguage language.TooLarge) else rest in
    record {
      grows = Grows-trans start bank new c.loop-instance.invariant.grows c.is_large.ensures.grows;
      history = history_grown bank new c.is_large.ensures.grows c.args.history.now c.loop-instance.invariant.history;
      stand = all_keep InstanceStands instance_at instances_stay bank new c.is_large.ensures.grows instances c.loop-instance.invariant.stand;
      none = c.loop-instance.invariant.none ∙ here ∙ ap chosen c.if-large.false;
    }

pub returns-then-large-clause-is : goal.returns-then-large-clause-is
returns-then-large-clause-is c =
    let start = c.args.bank.now in
    let bank = c.loop-instance.bank in
    let h = events_at start c.args.history.now in
    let instances = c.args.instances.now in
    let i = c.loop-instance.instance-index in
    let item = c.instance-item.result in
    let stands = c.requires.instances i item c.loop-instance-test.true in
    let past = events_at-grown start bank c.loop-instance.invariant.grows c.args.history.now c.requires.history.entries in
    let same = instances_stay.same start bank item c.loop-instance.invariant.grows (subst (InstanceStands start) (sym c.instance-item.is) stands) in
    let large : c.in_ok-large.large ≡ is_large_instance (instance_term h (instance_at start item)) = c.in_ok-large.ensures.is ∙ ap (λ z. is_large_instance (instance_term z (instance_at bank item))) past ∙ ap (λ z. is_large_instance (instance_term h z)) same in
    let here = instance_here h start instances i item c.loop-instance-test.true c.instance-item.is c.in_ok-large.large large in
    let rest = instances_refusal h (map (instance_at start) (drop (i + 1) instances)) in
    let chosen : Bool → Option Refusal = λ b. if b then Some (OfLanguage language.TooLarge) else rest in
    c.loop-instance.invariant.none ∙ here ∙ ap chosen c.if-large.true
