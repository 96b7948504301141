use Rattle.std.proofs.Common.{[], ◌∷◌}
use Rattle.std.specs.Prelude.{IfSome}
use Rattle.std.proofs.lemmas.Result.{IfOk-weaker}
use Rattle.nq_bank.specs.Content.{term_at, terms_at}
use Rattle.nq_history.specs.Events.{events_at}
use Rattle.nq_event.specs.EventsAt.{hints_at}
use Rattle.nq_goals.specs.Moves.{IsMove}
use Rattle.nq_goals.specs.declared.kinds.MoveKind.TheVariants.{Ind}
use Rattle.nq_tracer.specs.Leads.{IsInduction}
use Rattle.nq_tracer.proofs.MoveSteps.{moves_found}
use Rattle.nq_tracer.proofs.induction.induction_from.Goals as goal

pub returns-then-branch-clause-moves : goal.returns-then-branch-clause-moves
returns-then-branch-clause-moves c =
    let old = c.args.bank.now in
    let new = c.induct_on.new.bank in
    let h = events_at old c.args.history.now in
    let hints = hints_at old c.args.hints.now in
    let first = terms_at old c.args.goal.now in
    IfOk-weaker c.induct_on.result (λ found. IfSome found (λ n. IsInduction h first (term_at new n.base) (term_at new n.step)))
    (λ found. IfSome found (λ n. IsMove h hints [] Ind first ((term_at new n.base ∷ []) ∷ (term_at new n.step ∷ []) ∷ [])))
    (λ found leads. moves_found h hints first new found (c.in_ok-is_due.ensures c.if-branch.true) leads) c.induct_on.ensures.leads
