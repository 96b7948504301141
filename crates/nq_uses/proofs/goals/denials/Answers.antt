use Rattle.std.proofs.Common.{◌∙◌, ap, sym, subst}
use Rattle.std.specs.Option.{option_map}
use Rattle.nq_logic.specs.Words.{not_term}
use Rattle.nq_bank.proofs.Growth.{Grows-trans}
use Rattle.nq_history.specs.Events.{events_at}
use Rattle.nq_history.specs.Hints.{InstanceStands}
use Rattle.nq_history.proofs.HistoryLemmas.{events_at-grown, history_grown}
use Rattle.nq_events.specs.HintRefusals.{instance_term}
use Rattle.nq_event.specs.EventsAt.{instance_at}
use Rattle.nq_event.proofs.GrownLemmas.{all_keep, instances_stay}
use Rattle.nq_uses.proofs.Denials.{denial_step, denials_all, found_stand, found_terms_at}
use Rattle.nq_uses.proofs.goals.denials.Goals as goal

pub loop-instance-preserved : goal.loop-instance-preserved
loop-instance-preserved c =
    let start = c.args.bank.now in
    let bank = c.loop-instance.bank in
    let new = c.denied_instance.new.bank in
    let history = c.args.history.now in
    let h = events_at start history in
    let instances = c.args.instances.now in
    let i = c.loop-instance.instance-index in
    let item = c.instance-item.result in
    let grows = c.denied_instance.ensures.grows in
    let found = c.in_ok-found.found in
    let stands = c.requires.instances i item c.loop-instance-test.true in
    let past = events_at-grown start bank c.loop-instance.invariant.grows history c.requires.history.entries in
    let same = instances_stay.same start bank item c.loop-instance.invariant.grows (subst (InstanceStands start) (sym c.instance-item.is) stands) in
    let told = c.in_ok-found.ensures.is ∙ ap (λ z. option_map not_term (instance_term z (instance_at bank item))) past ∙ ap (λ z. option_map not_term (instance_term h z)) same in
    let put = c.in_ok-keep_found.ensures in
    record {
      grows = Grows-trans start bank new c.loop-instance.invariant.grows grows;
      names = c.denied_instance.ensures.names ∙ c.loop-instance.invariant.names;
      history = history_grown bank new grows history c.loop-instance.invariant.history;
      instances = all_keep InstanceStands instance_at instances_stay bank new grows instances c.loop-instance.invariant.instances;
      stand = found_stand bank new grows c.loop-instance.ids.items c.keep_found.new.ids.items found c.loop-instance.invariant.stand c.in_ok-found.ensures.stands put;
      are = denial_step h start new instances i item _ _ _ found c.loop-instance-test.true c.instance-item.is c.loop-instance.invariant.are told
          (found_terms_at bank new grows c.loop-instance.ids.items c.keep_found.new.ids.items found c.loop-instance.invariant.stand put);
    }

pub returns-clause-are : goal.returns-clause-are
returns-clause-are c =
    denials_all (events_at c.args.bank.now c.args.history.now) c.args.bank.now c.args.instances.now c.loop-instance.instance-index _ _ c.loop-instance-test.false c.loop-instance.invariant.are
