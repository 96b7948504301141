-- The steps of a mover that is followed depth first.
use Rattle.std.proofs.Common.{◌≡◌, ◌∙◌, ℕ, suc, List, [], ◌∷◌, ◌++◌, length, subst, sym}
use Rattle.nq_logic.specs.Terms.{Term}
use Rattle.nq_bank.specs.declared.node.TermId.{TermId}
use Rattle.nq_bank.specs.Content.{terms_at}
use Rattle.nq_history.specs.declared.entry.Entry.{Entry}
use Rattle.nq_history.specs.declared.hints.Hints.{Hints}
use Rattle.nq_history.specs.Events.{events_at}
use Rattle.nq_kernel.specs.declared.work.Work.{Work}
use Rattle.nq_kernel.specs.declared.verdict.MoveKind.{MoveKind}
use Rattle.nq_kernel.specs.declared.verdict.PathStep.{PathStep}
use Rattle.nq_goals.specs.Trees.{Step, IsGoalAt, at_first}
use Rattle.nq_goals.specs.Forests.{step}
use Rattle.nq_traces.specs.Traces.{IsTrace, TraceGoesOn}
use Rattle.nq_traces.proofs.TraceLemmas.{trace_laws_hold}
use Rattle.nq_event.specs.EventsAt.{hints_at}
use Rattle.nq_waterfall.specs.Kinds.{goal_kind}
use Rattle.nq_waterfall.specs.declared.trail.Ancestor.{Ancestor}
use Rattle.nq_waterfall.specs.declared.trail.Trail.{Trail}
use Rattle.nq_waterfall.specs.Trails.{above_at, steps_at, IsWithStep}
use Rattle.nq_waterfall.specs.Solved.{NextGoesOn, TrailGoesOn}
use Rattle.nq_waterfall.specs.Outcomes.{IsEmpty}
use Rattle.nq_waterfall.proofs.SolvingLemmas.{pushed_length, pushed_steps}

-- the trace goes on below the step to a next
pub next_goes : (history : List Entry) (hints : Hints) (work : Work) (old pushed after : Trail) (place n : ℕ) (kind : MoveKind) (next : List TermId) → IsWithStep old.trace.items pushed.trace.items place kind next → pushed.path.items ≡ old.path.items → n ≡ length pushed.trace.items
    → TrailGoesOn history hints work pushed after next n → NextGoesOn history hints work old after place kind next
next_goes history hints work old pushed after place n kind next with_trace path is t =
    let G : List Ancestor → ℕ → List Step → List PathStep → Type 0 = λ p m b a. TraceGoesOn (events_at work.bank history) (hints_at work.bank hints) (above_at work.bank p) (terms_at work.bank next) m b (steps_at work.bank a) in
    record {
      path = t.path ∙ path;
      stands = t.stands;
      trace =
          subst (λ p. G p (suc (length old.trace.items)) (steps_at work.bank old.trace.items ++ (step place (goal_kind kind) (terms_at work.bank next) ∷ [])) after.trace.items) path (
          subst (λ m. G pushed.path.items m (steps_at work.bank old.trace.items ++ (step place (goal_kind kind) (terms_at work.bank next) ∷ [])) after.trace.items) (is ∙ pushed_length work.bank old.trace.items pushed.trace.items place kind next with_trace) (
          subst (λ b. G pushed.path.items n b after.trace.items) (pushed_steps work.bank old.trace.items pushed.trace.items place kind next with_trace) t.trace));
    }

-- from a first goal it is a trace
pub first_trace : (history : List Entry) (hints : Hints) (work : Work) (before after : Trail) (goal : List TermId) → IsEmpty before → TrailGoesOn history hints work before after goal 0
    → IsTrace (events_at work.bank history) (hints_at work.bank hints) (terms_at work.bank goal) (steps_at work.bank after.trace.items)
first_trace history hints work before after goal empty t =
    let first : List Term = terms_at work.bank goal in
    t.trace.legal first
    (subst (λ s. IsTrace (events_at work.bank history) (hints_at work.bank hints) first (steps_at work.bank s)) (sym empty.trace) (trace_laws_hold.begun (events_at work.bank history) (hints_at work.bank hints) first))
    (subst (λ p. IsGoalAt first (steps_at work.bank before.trace.items) 0 (above_at work.bank p) first) (sym empty.path) at_first)
