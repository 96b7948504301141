use Rattle.std.proofs.Common.{◌≡◌, false}
use Rattle.std.proofs.lemmas.Result.{IfOk-weaker}
use Rattle.nq_bank.specs.Content.{terms_at}
use Rattle.nq_history.specs.Events.{events_at}
use Rattle.nq_event.specs.EventsAt.{hints_at}
use Rattle.nq_goals.specs.Moves.{HasNoCandidate}
use Rattle.nq_stuck.specs.Left.{HasNoChange}
use Rattle.nq_stuck.proofs.CandidateLemmas.{none_at_all}
use Rattle.nq_stuck.proofs.goal.may_have_candidate.Goals as goal

pub returns : goal.returns
returns c =
    let bank = c.args.bank.now in
    let h = events_at bank c.args.history.now in
    let hints = hints_at bank c.args.hints.now in
    let goal = terms_at bank c.args.goal.now in
    IfOk-weaker c.may_change.result (λ b. b ≡ false → HasNoChange h hints goal) (λ b. b ≡ false → HasNoCandidate h hints goal)
    (λ b told e. none_at_all h hints goal (c.may_drop.ensures bank h c.if-may_drop.false) (told e)) c.may_change.ensures
