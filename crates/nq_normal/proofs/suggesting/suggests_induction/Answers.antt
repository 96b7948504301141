use Rattle.nq_bank.specs.Content.{terms_at}
use Rattle.nq_history.specs.Events.{events_at}
use Rattle.nq_normal.proofs.SuggestingLemmas.{suggesting_told}
use Rattle.nq_normal.proofs.suggesting.suggests_induction.Goals as goal

pub returns : goal.returns
returns c =
    suggesting_told (events_at c.args.bank.now c.args.history.now) c.in_ok-answer.answer (terms_at c.args.bank.now c.args.goal.now) c.in_ok-answer.ensures
