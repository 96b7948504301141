-- What is told of a lemma that was proved.
use Rattle.std.specs.Prelude.{◌≡◌, List, IfSome}
use Rattle.nq_bank.specs.declared.node.TermId.{TermId}
use Rattle.nq_bank.specs.Content.{terms_at}
use Rattle.nq_history.specs.declared.entry.Entry.{Entry}
use Rattle.nq_history.specs.declared.hints.Hints.{Hints}
use Rattle.nq_history.specs.Events.{events_at}
use Rattle.nq_kernel.specs.declared.work.Work.{Work}
use Rattle.nq_kernel.specs.Growing.{WorkGrows}
use Rattle.nq_event.specs.EventsAt.{hints_at}
use Rattle.nq_comment.specs.ReportViews.{steps_of}
use Rattle.nq_answers.specs.Shown.{ShowsTrace}
use Rattle.nq_giving_up.specs.declared.tracing.Followed.{Followed}

-- the work grew, and the steps are then a trace, if they are told
pub record IsFollowed (history : List Entry) (hints : Hints) (work : Work) (goal : List TermId) (followed : Followed) : Type 0 where
  pub later : Work
  pub grows : WorkGrows history work later
  pub bank_is : followed.bank ≡ later.bank
  pub told : IfSome followed.steps (λ steps. ShowsTrace (events_at later.bank history) (hints_at later.bank hints) (terms_at later.bank goal) (steps_of steps.items))
