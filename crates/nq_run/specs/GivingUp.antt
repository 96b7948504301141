-- How a lemma is answered that no search proved.
use Rattle.std.specs.Prelude.{◌≡◌, ℕ, false, List}
use Rattle.nq_logic.specs.Terms.{Term}
use Rattle.nq_form.specs.Form.{Form}
use Rattle.nq_bank.specs.declared.node.Mark.{Mark}
use Rattle.nq_events.specs.Events.{Hints}
use Rattle.nq_comment.specs.Reports.{Answer, Failed as FailedBy, OutOfSteps as NoSteps}
use Rattle.nq_comment.specs.ReportViews.{steps_of}
use Rattle.nq_answers.specs.Steps.{IsTried, is_taken}
use Rattle.nq_giving_up.specs.declared.giving_up.Failing.{Failing}
use Rattle.nq_giving_up.specs.declared.giving_up.Failing.TheVariants.{Failed, OutOfSteps}
use Rattle.nq_run.specs.declared.session.Session.{Session}
use Rattle.nq_run.specs.declared.session.Taken.{Taken}
use Rattle.nq_run.specs.HistoryView.{history_of}
use Rattle.nq_run.specs.Sessions.{IsUntaken}

-- the answer by what is told, where the first goal has this text
abbrev pub answer_by : List ℕ → Failing → Answer
answer_by text (Failed steps cause) = FailedBy text (steps_of steps.items) cause
answer_by text OutOfSteps = NoSteps

-- the lemma is not taken, with an answer that it may get
pub record IsLeft (limit : ℕ) (old : Session) (mark : Mark) (form : Form) (hints : Hints) (t : Term) (r : Taken) : Type 0 where
  pub answer : Answer
  pub tried : IsTried limit (history_of old) form hints t answer
  pub not_taken : is_taken answer ≡ false
  pub untaken : IsUntaken old mark answer r
