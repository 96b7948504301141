use Rattle.std.proofs.Common.{◌≡◌, length, take, ap, arith}
use Rattle.std.proofs.lemmas.List.{length-map, length-take}
use Rattle.nq_history.specs.Events.{all_events_at, event_at, ground_length}
use Rattle.nqthm_main.proofs.tests.counting_prover.CountingProver.new.Goals as goal

pub returns : goal.returns
returns c =
    λ bank entries stands.
    let events = all_events_at bank entries in
    let ground : length (take ground_length events) ≡ ground_length = ap length stands.ground in
    omega (arith, ground, length-take ground_length events, length-map entries (event_at bank), length-take ground_length entries)
