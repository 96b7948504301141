-- Calls of a goal by which an induction may go.
use Rattle.std.specs.Prelude.{◌≡◌, true, List}
use Rattle.nq_logic.specs.Terms.{IsAmong}
use Rattle.nq_bank.specs.declared.node.TermId.{TermId}
use Rattle.nq_bank.specs.Content.{term_at, terms_at}
use Rattle.nq_history.specs.declared.entry.Entry.{Entry}
use Rattle.nq_history.specs.Events.{events_at}
use Rattle.nq_events.specs.Inductions.{suggests_induction}
use Rattle.nq_goals.specs.Inducting.{suggesting_in}
use Rattle.nq_kernel.specs.declared.work.Work.{Work}
use Rattle.nq_lines.specs.Lines.{IsTermIn}
use Rattle.nq_tracer.specs.Leads.{IsPartAt}

-- the call stands in the term, perhaps as itself, and suggests an induction
pub record IsSuggestingPart (history : List Entry) (work : Work) (whole call : TermId) : Type 0 where
  pub here : IsTermIn history work call
  pub part : IsPartAt work.bank whole call
  pub suggests : suggests_induction (events_at work.bank history) (term_at work.bank call) ≡ true

-- it is one of the calls of the goal that suggest an induction
pub record IsSuggestingCall (history : List Entry) (work : Work) (goal : List TermId) (call : TermId) : Type 0 where
  pub here : IsTermIn history work call
  pub among : IsAmong (term_at work.bank call) (suggesting_in (events_at work.bank history) (terms_at work.bank goal))
