-- The measures so far are good.
use Rattle.std.proofs.Common.{◌≡◌, List, drop, map}
use Rattle.nq_bank.specs.declared.node.Sym.{Sym}
use Rattle.nq_bank.specs.Shells.{texts_at}
use Rattle.nq_event.specs.EventsAt.{measure_at}
use Rattle.nq_events.specs.OwnRefusals.{are_good_measures}
use Rattle.nq_admit.specs.Formals.{IsSetOf}
use Rattle.nq_admit.proofs.admission.are_good_measures.Given as goal

abbrev pub invariant-loop-measure : goal.invariant-loop-measure
invariant-loop-measure l =
    (names : List Sym) → IsSetOf l.bank names l.formals
    → are_good_measures (texts_at l.bank names) (map (measure_at l.bank) (drop l.measure-index l.measures)) ≡ are_good_measures (texts_at l.bank names) (map (measure_at l.bank) l.measures)
