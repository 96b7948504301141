use Rattle.nq_bank.specs.Shells.{texts_at}
use Rattle.nq_event.specs.declared.event.Measure.{Measure}
use Rattle.nq_admit.proofs.AdmissionLemmas.{good_here}
use Rattle.nq_admit.proofs.admission.are_good_measures.Goals as goal

pub loop-measure-preserved : goal.loop-measure-preserved
loop-measure-preserved c =
    let d : Measure = record { relation = record { 0 = 0 }; term = record { 0 = 0 } } in
    λ names is.
    good_here (texts_at c.args.bank.now names) c.args.bank.now c.args.measures.now c.loop-measure.measure-index d c.is_good_measure.result c.loop-measure-test.true (c.is_good_measure.ensures names is) c.if-not-is_good_measure.false
    (c.loop-measure.invariant names is)
