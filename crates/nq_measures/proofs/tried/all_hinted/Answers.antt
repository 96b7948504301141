use Rattle.std.proofs.Common.{◌∙◌, take, get_or, sym, subst}
use Rattle.nq_logic.specs.Terms.{Term}
use Rattle.nq_bank.specs.Content.{IsIdOf}
use Rattle.nq_bank.proofs.Growth.{Grows-trans}
use Rattle.nq_event.specs.declared.event.Measure.{Measure}
use Rattle.nq_event.specs.EventsAt.{measure_at}
use Rattle.nq_events.specs.Events as model
use Rattle.nq_events.specs.Measures.{ordinal_of}
use Rattle.nq_measures.proofs.TriedLemmas.{made_next, stand_next, map_twice}
use Rattle.nq_measures.proofs.HintLemmas.{measure_same}
use Rattle.nq_measures.proofs.tried.all_hinted.Goals as goal

pub loop-measure-preserved : goal.loop-measure-preserved
loop-measure-preserved c =
    let old = c.args.bank.now in
    let mid = c.loop-measure.bank in
    let new = c.hinted.new.bank in
    let d : Measure = record { relation = record { 0 = 0 }; term = record { 0 = 0 } } in
    let m : Measure = get_or c.args.measures.now c.loop-measure.measure-index d in
    let made : Measure → Term = λ n. ordinal_of (measure_at old n) in
    let is : IsIdOf new c.in_ok-t.t (made m) = subst (λ (n : model.Measure). IsIdOf new c.in_ok-t.t (ordinal_of n)) (measure_same old mid m c.loop-measure.invariant.grows (c.requires.stand c.loop-measure.measure-index d c.loop-measure-test.true)) c.in_ok-t.ensures.measure in
    record {
      grows = Grows-trans old mid new c.loop-measure.invariant.grows c.hinted.ensures.grows;
      names = c.hinted.ensures.names ∙ c.loop-measure.invariant.names;
      terms = made_next made c.args.measures.now c.loop-measure.measure-index d mid new c.loop-measure.tried.items c.push.new.self.items c.in_ok-t.t c.hinted.ensures.grows c.loop-measure-test.true c.loop-measure.invariant.stand c.in_ok-push.ensures.items is (c.loop-measure.invariant.terms ∙ map_twice ordinal_of (measure_at old) (take c.loop-measure.measure-index c.args.measures.now)) ∙ sym (map_twice ordinal_of (measure_at old) _);
      stand = stand_next made c.args.measures.now c.loop-measure.measure-index d mid new c.loop-measure.tried.items c.push.new.self.items c.in_ok-t.t c.hinted.ensures.grows c.loop-measure-test.true c.loop-measure.invariant.stand c.in_ok-push.ensures.items is;
    }
