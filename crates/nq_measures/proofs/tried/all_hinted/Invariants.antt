-- The measures so far are made.
use Rattle.std.proofs.Common.{◌≡◌, map, take}
use Rattle.std.specs.Prelude.{All}
use Rattle.nq_bank.specs.Content.{Grows, Stands, terms_at}
use Rattle.nq_event.specs.EventsAt.{measure_at}
use Rattle.nq_events.specs.Measures.{ordinal_of}
use Rattle.nq_measures.proofs.tried.all_hinted.Given as goal

abbrev pub invariant-loop-measure : goal.invariant-loop-measure
invariant-loop-measure l =
    record {
      grows : Grows l.fn.bank l.bank;
      names : l.bank.names ≡ l.fn.bank.names;
      terms : terms_at l.bank l.tried.items ≡ map ordinal_of (map (measure_at l.fn.bank) (take l.measure-index l.measures));
      stand : All (Stands l.bank) l.tried.items;
    }
