-- What is told of a lemma that no search proved.
use Rattle.std.specs.Prelude.{◌≡◌, ℕ, List}
use Rattle.nq_logic.specs.Terms.{Term}
use Rattle.nq_logic.specs.Histories.{History}
use Rattle.nq_bank.specs.declared.node.TermId.{TermId}
use Rattle.nq_bank.specs.Content.{terms_at}
use Rattle.nq_history.specs.declared.entry.Entry.{Entry}
use Rattle.nq_history.specs.declared.hints.Hints.{Hints as GivenHints}
use Rattle.nq_history.specs.Events.{events_at}
use Rattle.nq_kernel.specs.declared.work.Work.{Work}
use Rattle.nq_kernel.specs.Growing.{WorkGrows}
use Rattle.nq_events.specs.Events.{Hints}
use Rattle.nq_event.specs.EventsAt.{hints_at}
use Rattle.nq_comment.specs.ReportViews.{steps_of}
use Rattle.nq_answers.specs.Shown.{ShowsTree}
use Rattle.nq_answers.specs.Spending.{IsUsedUp}
use Rattle.nq_giving_up.specs.declared.giving_up.Failing.{Failing}
use Rattle.nq_giving_up.specs.declared.giving_up.GivenUp.{GivenUp}
use Rattle.nq_giving_up.specs.declared.giving_up.Failing.TheVariants.{Failed, OutOfSteps}

-- the tree of a failure from the first goal, for this cause; or the steps are used up
abbrev pub IsFailing : ℕ → History → Hints → List Term → Failing → Type 0
IsFailing limit h hints first (Failed steps cause) = ShowsTree h hints first (steps_of steps.items) cause
IsFailing limit h hints first OutOfSteps = IsUsedUp limit h

-- the same of work at hand: its steps are used up
abbrev pub TellsOf : List Entry → GivenHints → Work → List TermId → Failing → Type 0
TellsOf history hints work goal (Failed steps cause) = ShowsTree (events_at work.bank history) (hints_at work.bank hints) (terms_at work.bank goal) (steps_of steps.items) cause
TellsOf history hints work goal OutOfSteps = work.counter.used ≡ work.counter.limit

-- the work grew, and this is told of it then
pub record IsGivenUp (history : List Entry) (hints : GivenHints) (work : Work) (goal : List TermId) (given : GivenUp) : Type 0 where
  pub later : Work
  pub grows : WorkGrows history work later
  pub bank_is : given.bank ≡ later.bank
  pub tells : TellsOf history hints later goal given.failing
