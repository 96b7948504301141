-- Instances of events that hints name, and what is said of a lemma that has them.
use Rattle.std.specs.Prelude.{◌≡◌, List, [], ◌∷◌, map, All, Option, Some, ⊤}
use Rattle.nq_logic.specs.Terms.{Term}
use Rattle.nq_logic.specs.Words.{not_term}
use Rattle.nq_bank.specs.declared.node.TermId.{TermId}
use Rattle.nq_bank.specs.Content.{Content, Stands, term_at}
use Rattle.nq_proof.specs.Clauses.{Clause}
use Rattle.nq_history.specs.declared.entry.Entry.{Entry}
use Rattle.nq_history.specs.declared.hints.Hints.{Hints}
use Rattle.nq_history.specs.Events.{events_at}
use Rattle.nq_events.specs.HintRefusals.{instance_term}
use Rattle.nq_kernel.specs.declared.work.Work.{Work}
use Rattle.nq_lines.specs.Lines.{LineHasOnly, IsTermIn}
use Rattle.nq_goals.specs.Hints.{first_goal}
use Rattle.nq_goals.specs.Trees.{IsFailureTree}
use Rattle.nq_waterfall.specs.Kinds.{goal_cause}
use Rattle.nq_waterfall.specs.declared.uses.Used.{Used}
use Rattle.nq_kernel.specs.declared.verdict.PathStep.{PathStep}
use Rattle.nq_waterfall.specs.declared.first.Outcome.{Outcome}
use Rattle.nq_waterfall.specs.declared.first.Outcome.TheVariants.{Proved, Failed, OutOfSteps, Unknown}
use Rattle.nq_event.specs.EventsAt.{hints_at}
use Rattle.nq_waterfall.specs.Trails.{steps_at, StepStands}
use Rattle.nq_traces.specs.Traces.{IsTrace}

pub record UseStands (bank : Content) (u : Used) : Type 0 where
  pub term : Stands bank u.term
  pub denied : Stands bank u.denied

-- the term and the NOT of it are in, and the line has only the term
pub record IsUsed (history : List Entry) (work : Work) (u : Used) : Type 0 where
  pub term_in : IsTermIn history work u.term
  pub denied_in : IsTermIn history work u.denied
  pub denies : term_at work.bank u.denied ≡ not_term (term_at work.bank u.term)
  pub line : LineHasOnly work u.line (term_at work.bank u.term ∷ [])

-- the negations, and then these literals
abbrev pub denials_at : Content → List Used → Clause → Clause
denials_at bank [] literals = literals
denials_at bank (u ∷ uses) literals = term_at bank u.denied ∷ denials_at bank uses literals

abbrev pub used_term : Content → Used → Option Term
used_term bank u = Some (term_at bank u.term)

-- the terms are those of the instances that the hints name, in their order
abbrev pub AreInstances : List Entry → Hints → Work → List Used → Type 0
AreInstances history hints work uses = map (instance_term (events_at work.bank history)) (hints_at work.bank hints).instances ≡ map (used_term work.bank) uses

-- the steps are a trace from the first goal of the lemma
abbrev pub IsTraceOf : List Entry → Hints → Work → TermId → List PathStep → Type 0
IsTraceOf history hints work goal steps =
    IsTrace (events_at work.bank history) (hints_at work.bank hints) (first_goal (events_at work.bank history) (hints_at work.bank hints) (term_at work.bank goal)) (steps_at work.bank steps)

-- A proof of a lemma has a line with only the lemma, and its steps are a trace from the first goal. A failure has a tree from the
-- first goal. Where steps ran out, the counter is at its limit. Else nothing is told.
abbrev pub IsAnswer : List Entry → Hints → Work → TermId → Outcome → Type 0
IsAnswer history hints work goal (Proved line trace) =
    LineHasOnly work line (term_at work.bank goal ∷ []) × All (StepStands work.bank) trace.items × IsTraceOf history hints work goal trace.items
IsAnswer history hints work goal (Failed steps cause) =
    All (StepStands work.bank) steps.items
    × IsFailureTree (events_at work.bank history) (hints_at work.bank hints) (first_goal (events_at work.bank history) (hints_at work.bank hints) (term_at work.bank goal)) (steps_at work.bank steps.items) (goal_cause cause)
IsAnswer history hints work goal OutOfSteps = work.counter.used ≡ work.counter.limit
IsAnswer history hints work goal Unknown = ⊤
