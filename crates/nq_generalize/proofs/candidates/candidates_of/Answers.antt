use Rattle.nq_bank.specs.Content.{terms_at}
use Rattle.nq_history.specs.Events.{events_at}
use Rattle.nq_generalize.proofs.CandidateLemmas.{all_ok}
use Rattle.nq_generalize.proofs.candidates.candidates_of.Goals as goal

pub returns-clause-all : goal.returns-clause-all
returns-clause-all c =
    let bank = c.args.bank.now in
    all_ok bank (events_at bank c.args.history.now) (terms_at bank c.args.goal.now) c.in_ok-calls.calls.items c.as_slice.result.now c.chosen_from.result c.in_ok-calls.ensures.holds c.as_slice.ensures.value c.chosen_from.ensures.chosen
