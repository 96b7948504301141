-- Traces from the first goal over a bank that grew.
use Rattle.std.proofs.Common.{◌≡◌, List, sym, subst}
use Rattle.std.specs.Prelude.{Vec}
use Rattle.std.specs.declared.alloc.Global.{Global}
use Rattle.nq_logic.specs.Terms.{Term}
use Rattle.nq_logic.specs.Histories.{History}
use Rattle.nq_bank.specs.declared.node.TermId.{TermId}
use Rattle.nq_bank.specs.Content.{Content, Grows, term_at, terms_at}
use Rattle.nq_history.specs.declared.entry.Entry.{Entry}
use Rattle.nq_history.specs.declared.hints.Hints.{Hints}
use Rattle.nq_history.specs.Events.{events_at, HistoryStands}
use Rattle.nq_history.specs.Hints.{HintsStand}
use Rattle.nq_history.proofs.HistoryLemmas.{events_at-grown}
use Rattle.nq_comment.specs.declared.step.ShownStep.{ShownStep}
use Rattle.nq_comment.specs.ReportViews.{steps_of}
use Rattle.nq_events.specs.Events as model
use Rattle.nq_event.specs.EventsAt.{hints_at}
use Rattle.nq_event.proofs.HintSumLemmas.{hints_same}
use Rattle.nq_goals.specs.Hints.{first_goal}
use Rattle.nq_answers.specs.Shown.{ShowsTrace}

-- what is a trace from the goal that was made is one from the first goal
pub traced_before : (bank later : Content) (history : List Entry) (hints : Hints) (goal : TermId) (ids : List TermId) (steps given : Vec ShownStep Global) → HistoryStands bank history → Grows bank later → HintsStand bank hints
    → terms_at later ids ≡ first_goal (events_at bank history) (hints_at bank hints) (term_at bank goal) → ShowsTrace (events_at later history) (hints_at later hints) (terms_at later ids) (steps_of steps.items) → given ≡ steps
    → ShowsTrace (events_at bank history) (hints_at bank hints) (first_goal (events_at bank history) (hints_at bank hints) (term_at bank goal)) (steps_of given.items)
traced_before bank later history hints goal ids steps given stands grows hints_stand are traced same =
    let h : History = events_at bank history in
    let here = subst (λ (k : History). ShowsTrace k (hints_at later hints) (terms_at later ids) (steps_of steps.items)) (events_at-grown bank later grows history stands.entries) traced in
    let there = subst (λ (k : model.Hints). ShowsTrace h k (terms_at later ids) (steps_of steps.items)) (hints_same bank later grows hints hints_stand) here in
    let first = subst (λ (ts : List Term). ShowsTrace h (hints_at bank hints) ts (steps_of steps.items)) are there in
    subst (λ (v : Vec ShownStep Global). ShowsTrace h (hints_at bank hints) (first_goal h (hints_at bank hints) (term_at bank goal)) (steps_of v.items)) (sym same) first
