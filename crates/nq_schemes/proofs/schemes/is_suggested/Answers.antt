use Rattle.nq_bank.specs.Content.{terms_at}
use Rattle.nq_history.specs.Events.{events_at}
use Rattle.nq_goals.specs.Inducting.{suggesting_in}
use Rattle.nq_schemes.proofs.SingleLemmas.{none_told}
use Rattle.nq_schemes.proofs.schemes.is_suggested.Goals as goal

pub returns-in-Ok-clause-some : goal.returns-in-Ok-clause-some
returns-in-Ok-clause-some c =
    let bank = c.args.work.now.bank in
    λ isnt. none_told (suggesting_in (events_at bank c.args.history.now) (terms_at bank c.args.goal.now)) c.in-Ok.answer c.in-Ok.ensures isnt
