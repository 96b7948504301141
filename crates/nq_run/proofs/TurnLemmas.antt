-- A form that the program answered, as a step of a run.
use Rattle.std.proofs.Common.{◌≡◌, Bool, true, ℕ, List, refl, ap₂, subst}
use Rattle.std.specs.Prelude.{Option}
use Rattle.nq_logic.specs.Histories.{History}
use Rattle.nq_form.specs.Form.{Form}
use Rattle.nq_comment.specs.Reports.{Answer, Report}
use Rattle.nq_comment.specs.ReportViews.{answer_of}
use Rattle.nq_answers.specs.Headers.{name_of, word_of}
use Rattle.nq_answers.specs.Steps.{after}
use Rattle.nq_run.specs.HistoryView.{history_of}
use Rattle.nq_run.specs.Outcome.{Answered}
use Rattle.nq_run.specs.Sessions.{Takes}
use Rattle.nq_run.specs.declared.session.Session.{Session}
use Rattle.nq_run.specs.declared.session.Taken.{Taken}

-- the report of a form that was answered so
abbrev pub reported_as : Form → Answer → Report
reported_as f answer = record { word = word_of f; name = name_of f; answer = answer }

-- with the same word and name the reports are the same
pub reports_alike : (answer : Answer) (word other_word name other_name : Option (List ℕ)) → word ≡ other_word → name ≡ other_name
    → ◌≡◌ {A = Report} (record { word = word; name = name; answer = answer }) (record { word = other_word; name = other_name; answer = answer })
reports_alike answer word other_word name other_name words names =
    ap₂ (λ (w n : Option (List ℕ)). record { word = w; name = n; answer = answer }) words names

-- a form that the program answered so
pub answered_as : (limit : ℕ) (old : Session) (f : Form) (logging : Bool) (r : Taken) → Takes limit old f logging r → Answered limit f (history_of old) (history_of r.session) (reported_as f (answer_of r.answer)) logging r.block
answered_as limit old f logging r taken = record {
  step = record { word = refl; name = refl; answer = taken.answered; history = taken.after_is };
  written = taken.written;
}

-- the same, where the history is not told
pub answered_here : (limit : ℕ) (old : Session) (f : Form) (logging : Bool) (r : Taken) → Takes limit old f logging r → Answered limit f (history_of old) (after (history_of old) f (answer_of r.answer)) (reported_as f (answer_of r.answer)) logging r.block
answered_here limit old f logging r taken =
    subst (λ (h : History). Answered limit f (history_of old) h (reported_as f (answer_of r.answer)) logging r.block) taken.after_is (answered_as limit old f logging r taken)

pub answered_logging : (limit : ℕ) (old new : History) (f : Form) (report : Report) (logging : Bool) (block : List ℕ) → logging ≡ true → Answered limit f old new report logging block
    → Answered limit f old new report true block
answered_logging limit old new f report logging block w answered = subst (λ (b : Bool). Answered limit f old new report b block) w answered
