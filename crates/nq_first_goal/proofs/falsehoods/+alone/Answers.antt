use Rattle.std.proofs.Common.{◌≡◌, Bool, true, ◌∷◌}
use Rattle.std.proofs.lemmas.Result.{IfOk-weaker}
use Rattle.nq_logic.specs.Terms.{Each}
use Rattle.nq_bank.specs.Content.{term_at, terms_at}
use Rattle.nq_history.specs.Events.{events_at}
use Rattle.nq_event.specs.EventsAt.{hints_at}
use Rattle.nq_first_goal.specs.Falsehoods.{IsLoneStuck}
use Rattle.nq_first_goal.proofs.falsehoods.+alone.Goals as goal

pub are_stuck_from-returns-then-branch : goal.are_stuck_from-returns-then-branch
are_stuck_from-returns-then-branch t c =
    let bank = c.args.bank.now in
    let h = events_at bank c.args.history.now in
    let hints = hints_at bank c.args.hints.now in
    IfOk-weaker c.are_stuck.result (λ (b : Bool). b ≡ true → Each (IsLoneStuck h hints) (terms_at bank c.args.rest.now)) (λ (b : Bool). b ≡ true → Each (IsLoneStuck h hints) (term_at bank c.args.first ∷ terms_at bank c.args.rest.now))
    (λ b rest yes. (c.in_ok-is_lone_stuck.ensures c.if-branch.true, rest yes)) c.are_stuck.ensures
