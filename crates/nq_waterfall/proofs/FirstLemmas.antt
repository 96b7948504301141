-- First goals.
use Rattle.std.proofs.Common.{List, [], sym, subst}
use Rattle.nq_logic.specs.Terms.{Term}
use Rattle.nq_bank.specs.declared.node.TermId.{TermId}
use Rattle.nq_bank.specs.Content.{terms_at}
use Rattle.nq_history.specs.declared.entry.Entry.{Entry}
use Rattle.nq_history.specs.declared.hints.Hints.{Hints}
use Rattle.nq_history.specs.Events.{events_at}
use Rattle.nq_kernel.specs.declared.work.Work.{Work}
use Rattle.nq_kernel.specs.declared.verdict.Cause.{Cause}
use Rattle.nq_goals.specs.Trees.{IsGoalAt, at_first, IsFailureTree}
use Rattle.nq_goals.proofs.SolverLaws.{solver_laws}
use Rattle.nq_waterfall.specs.Kinds.{goal_cause}
use Rattle.nq_waterfall.specs.declared.trail.Trail.{Trail}
use Rattle.nq_event.specs.EventsAt.{hints_at}
use Rattle.nq_waterfall.specs.Trails.{above_at, steps_at}
use Rattle.nq_traces.specs.Traces.{IsTrace}
use Rattle.nq_waterfall.specs.Solved.{LeavesAt, TrailGoesOn}
use Rattle.nq_waterfall.specs.Outcomes.{IsEmpty}
use Rattle.nq_traces.proofs.TraceLemmas.{trace_laws_hold}

module _ (history : List Entry) (hints : Hints) (work : Work) (before after : Trail) (goal : List TermId) (empty : IsEmpty before) where
  pub first_trace : TrailGoesOn history hints work before after goal 0 → IsTrace (events_at work.bank history) (hints_at work.bank hints) (terms_at work.bank goal) (steps_at work.bank after.trace.items)
  first_trace t =
      let first : List Term = terms_at work.bank goal in
      t.trace.legal first
      (subst (λ s. IsTrace (events_at work.bank history) (hints_at work.bank hints) first (steps_at work.bank s)) (sym empty.trace) (trace_laws_hold.begun (events_at work.bank history) (hints_at work.bank hints) first))
      (subst (λ p. IsGoalAt first (steps_at work.bank before.trace.items) 0 (above_at work.bank p) first) (sym empty.path) at_first)

  pub first_failure : (cause : Cause) → LeavesAt work.bank history hints before.path.items goal 0 (steps_at work.bank before.steps.items) (steps_at work.bank after.steps.items) cause → IsFailureTree (events_at work.bank history) (hints_at work.bank hints) (terms_at work.bank goal) (steps_at work.bank after.steps.items) (goal_cause cause)
  first_failure cause l =
      solver_laws.failed (events_at work.bank history) (hints_at work.bank hints) (terms_at work.bank goal) (steps_at work.bank after.steps.items) (goal_cause cause)
      (subst (λ s. LeavesAt work.bank history hints [] goal 0 (steps_at work.bank s) (steps_at work.bank after.steps.items) cause) empty.steps
      (subst (λ p. LeavesAt work.bank history hints p goal 0 (steps_at work.bank before.steps.items) (steps_at work.bank after.steps.items) cause) empty.path l))
