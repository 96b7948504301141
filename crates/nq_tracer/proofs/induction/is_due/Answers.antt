use Rattle.std.proofs.Common.{◌≡◌, true}
use Rattle.std.proofs.lemmas.Result.{IfOk-weaker}
use Rattle.nq_bank.specs.Content.{terms_at}
use Rattle.nq_history.specs.Events.{events_at}
use Rattle.nq_event.specs.EventsAt.{hints_at}
use Rattle.nq_stuck.specs.Left.{IsLeftToInduction}
use Rattle.nq_tracer.specs.Leads.{IsDue}
use Rattle.nq_tracer.proofs.induction.is_due.Goals as goal

pub returns : goal.returns
returns c =
    let bank = c.args.bank.now in
    let h = events_at bank c.args.history.now in
    let hints = hints_at bank c.args.hints.now in
    let first = terms_at bank c.args.goal.now in
    IfOk-weaker c.is_left_to_induction.result (λ b. b ≡ true → IsLeftToInduction h hints first) (λ b. b ≡ true → IsDue h hints first)
    (λ b told holds. record { hints_free = c.is_free.ensures bank c.if-not-is_free.false; normal = (told holds).normal; none = (told holds).none }) c.is_left_to_induction.ensures
