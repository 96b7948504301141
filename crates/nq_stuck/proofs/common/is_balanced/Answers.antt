use Rattle.nq_bank.specs.Content.{term_at}
use Rattle.nq_history.specs.Events.{events_at}
use Rattle.nq_stuck.specs.Pairs.{sides_at}
use Rattle.nq_stuck.proofs.GeneralLemmas.{unbalanced}
use Rattle.nq_stuck.proofs.common.is_balanced.Goals as goal

pub returns-in_ok-shared-in-Some : goal.returns-in_ok-shared-in-Some
returns-in_ok-shared-in-Some c =
    let bank = c.args.bank.now in
    let h = events_at bank c.args.history.now in
    λ e. unbalanced h (term_at bank c.args.literal) (sides_at bank c.in-Some.sides) c.in-Some.ensures.is (c.in_ok-shared-in-Some.ensures e)
