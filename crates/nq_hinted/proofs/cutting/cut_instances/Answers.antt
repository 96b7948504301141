use Rattle.std.proofs.Common.{◌≡◌, ◌∙◌, ◌+◌, ap, sym, subst, map, drop, get_or}
use Rattle.nq_logic.specs.Histories.{History}
use Rattle.nq_history.specs.Events.{events_at}
use Rattle.nq_history.specs.Hints.{InstanceStands}
use Rattle.nq_history.proofs.HistoryLemmas.{events_at-grown}
use Rattle.nq_events.specs.HintRefusals.{instance_term}
use Rattle.nq_event.specs.EventsAt.{instance_at}
use Rattle.nq_event.proofs.GrownLemmas.{all_keep, instances_stay}
use Rattle.nq_goals.specs.Hints.{denied_instances}
use Rattle.nq_kernel.specs.Growing.{WorkGrows}
use Rattle.nq_kernel.specs.Ready.{IsReady}
use Rattle.nq_kernel.proofs.GrowingLemmas.{WorkGrows-refl, WorkGrows-trans}
use Rattle.nq_lines.specs.Lines.{LineHasOnly}
use Rattle.nq_lines.proofs.InstanceLemmas.{pairs_in_grown}
use Rattle.nq_hinted.specs.Cited.{CutsAway}
use Rattle.nq_hinted.proofs.CutLemmas.{denied_next, denied_all}
use Rattle.nq_hinted.proofs.cutting.cut_instances.Goals as goal

pub loop-instance-init : goal.loop-instance-init
loop-instance-init c = record {
  grows = WorkGrows-refl c.args.history.now c.args.work.now c.requires.stands;
  ready = c.requires.ready;
  instances = c.requires.instances;
  pairs = c.requires.pairs;
  standing = c.requires.line;
  told = λ these h. h;
}

pub returns-in_err-line-clause-grows : goal.returns-in_err-line-clause-grows
returns-in_err-line-clause-grows c = WorkGrows-trans c.args.history.now c.args.work.now c.loop-instance.work c.cut_instance.new.work c.loop-instance.invariant.grows c.cut_instance.ensures.grows

pub loop-instance-preserved : goal.loop-instance-preserved
loop-instance-preserved c =
    let history = c.args.history.now in
    let w0 = c.args.work.now in
    let w1 = c.loop-instance.work in
    let w2 = c.cut_instance.new.work in
    let h : History = events_at w0.bank history in
    let instances = c.args.instances.now in
    let i = c.loop-instance.instance-index in
    let item = c.instance-item.result in
    let up : WorkGrows history w1 w2 = c.cut_instance.ensures.grows in
    let before : WorkGrows history w0 w1 = c.loop-instance.invariant.grows in
    let past : events_at w2.bank history ≡ events_at w1.bank history = events_at-grown w1.bank w2.bank up.bank history before.stands.history.entries in
    let stood : InstanceStands w0.bank item = subst (InstanceStands w0.bank) (sym c.instance-item.is) (c.requires.instances i item c.loop-instance-test.true) in
    let same : instance_term (events_at w1.bank history) (instance_at w1.bank item) ≡ instance_term h (instance_at w0.bank item) =
    ap (λ (k : History). instance_term k (instance_at w1.bank item)) (events_at-grown w0.bank w1.bank before.bank history c.requires.stands.history.entries)
    ∙ ap (instance_term h) (instances_stay.same w0.bank w1.bank item before.bank stood) in
    let cuts : CutsAway w1 w2 (instance_term h (instance_at w0.bank item)) c.loop-instance.line c.in_ok-line.line = subst (λ o. CutsAway w1 w2 o c.loop-instance.line c.in_ok-line.line) same c.in_ok-line.ensures.line in
    record {
      grows = WorkGrows-trans history w0 w1 w2 before up;
      ready = subst IsReady (sym past) c.loop-instance.invariant.ready;
      instances = all_keep InstanceStands instance_at instances_stay w1.bank w2.bank up.bank instances c.loop-instance.invariant.instances;
      pairs = λ j d below. pairs_in_grown history w1 w2 (get_or instances j d).pairs.items before.stands up (c.loop-instance.invariant.pairs j d below);
      standing = c.in_ok-line.ensures.stands;
      told = λ these k.
          cuts (denied_instances h (map (instance_at w0.bank) (drop (i + 1) instances)) these)
          (subst (LineHasOnly w1 c.loop-instance.line) (denied_next h w0.bank instances i item these c.loop-instance-test.true c.instance-item.is) (c.loop-instance.invariant.told these k));
    }

pub returns-clause-line : goal.returns-clause-line
returns-clause-line c =
    λ these k.
    subst (LineHasOnly c.loop-instance.work c.loop-instance.line)
    (denied_all (events_at c.args.work.now.bank c.args.history.now) c.args.work.now.bank c.args.instances.now c.loop-instance.instance-index these c.loop-instance-test.false) (c.loop-instance.invariant.told these k)
