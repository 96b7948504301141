-- What a run says of its events: what it claims holds, of each event in the history just before it.
use Rattle.std.specs.Prelude.{ℕ, List, [], ◌∷◌, ⊤}
use Rattle.nq_logic.specs.Histories.{History}
use Rattle.nq_form.specs.Form.{Forms, end, dotted, next}
use Rattle.nq_log.specs.Laws.{ClaimsHold, IsSound}
use Rattle.nq_comment.specs.Reports.{Report}
use Rattle.nq_answers.specs.Claims.{claims_at}
use Rattle.nq_answers.specs.Steps.{Runs, after}

-- What each event claims that was accepted, proved or undone holds in the history just before it, also where the event is undone
-- later: a lemma is derivable there, a definition meets the Definition Principle, a shell the Shell Principle, and the name is new.
abbrev pub EventsHold : History → Forms → List Report → Type 0
EventsHold old (next form forms) (report ∷ reports) =
    ClaimsHold old (claims_at old form report.answer) × EventsHold (after old form report.answer) forms reports
EventsHold old (next form forms) [] = ⊤
EventsHold old end reports = ⊤
EventsHold old (dotted form) reports = ⊤

-- These forms give these reports from the ground history, where each event may take so many steps. Each event that was accepted or proved holds in the history before it,
-- and so does each event that stands at the end, in the history of the events before it that stand.
pub record Reported (limit : ℕ) (forms : Forms) (reports : List Report) : Type 0 where
  pub history : History
  pub runs : Runs limit [] forms reports history
  pub hold : EventsHold [] forms reports
  pub sound : IsSound history
