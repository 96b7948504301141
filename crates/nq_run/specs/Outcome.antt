-- What the two sinks of a run have gained when it ends: the commentary, and the log where it is written. Each event of the run may
-- take so many steps as its limit.
use Rattle.std.specs.Prelude.{◌≡◌, ◌⊎◌, ◌+◌, ◌^◌, ◌≤◌, ◌<◌, ◌==◌, ℕ, Bool, true, false, List, [], ◌∷◌, ◌++◌, length, Option, None, Some, IfSome, IsTrue, if◌then◌else◌}
use Rattle.std.specs.Io.KnownBytes.{Appends, Keeps}
use Rattle.nq_logic.specs.Histories.{History}
use Rattle.nq_logic.specs.Classes.{without_classes}
use Rattle.nq_form.specs.Form.{Form, Forms, push}
use Rattle.nq_form.specs.Bytes.{is_closed, begins_apart}
use Rattle.nq_form.specs.Grammar.{Items, Reads, Ending, done, fault, too_long}
use Rattle.nq_sexp.specs.Whole.{IsEnding}
use Rattle.nq_sexp.specs.declared.fault.ReadFault.{ReadFault}
use Rattle.nq_log.specs.States.{Claim}
use Rattle.nq_block.specs.Blocks.{IsBlock}
use Rattle.nq_block.specs.OpenLogs.{IsOpenLog, IsRightLog, end_text}
use Rattle.nq_comment.specs.Reports.{Report}
use Rattle.nq_comment.specs.Text.{lines_of_report, rendering, report_lines}
use Rattle.nq_comment.specs.ReportViews.{ending_of}
use Rattle.nq_comment.specs.Totals.{Totals, totals_of, unsuccessful, with_report}
use Rattle.nq_comment.specs.declared.report.SyntaxFault.{SyntaxFault}
use Rattle.nq_answers.specs.Claims.{claims_at, claims_from}
use Rattle.nq_answers.specs.Derived.{Reported}
use Rattle.nq_answers.specs.Steps.{Runs, Step, after, is_taken}
use Rattle.nq_run.specs.Banks.{KeepsBank}
use Rattle.nq_run.specs.HistoryView.{history_of}
use Rattle.nq_run.specs.declared.session.Session.{Session}

-- what is held grew by the text, or by a front part of it
pub record GrowsWithin (old new : Option (List ℕ)) (text : List ℕ) : Type 0 where
  pub front : List ℕ
  pub rest : List ℕ
  pub whole : text ≡ front ++ rest
  pub appends : Appends old new front

-- what the sinks of the commentary and of the log hold
pub record Held : Type 0 where
  pub comment : Option (List ℕ)
  pub log : Option (List ℕ)

abbrev pub held_in : Option (List ℕ) → Option (List ℕ) → Held
held_in comment log = record { comment = comment; log = log }

-- the log grew by the text; where no log is written it is as it was
abbrev pub Logs : Bool → Option (List ℕ) → Option (List ℕ) → List ℕ → Type 0
Logs true held now text = Appends held now text
Logs false held now text = now ≡ held

-- the same, but perhaps by a front part alone
abbrev pub LogsWithin : Bool → Option (List ℕ) → Option (List ℕ) → List ℕ → Type 0
LogsWithin true held now text = GrowsWithin held now text
LogsWithin false held now text = now ≡ held

-- Lines of the commentary and then a text of the log were to be written, and a write failed. Either the lines were not written to
-- their end, and so nothing of the text; or they were, and a front part of the text behind them.
abbrev pub WriteFails : Bool → List ℕ → List ℕ → Held → Held → Type 0
WriteFails logging lines text held now =
    (GrowsWithin held.comment now.comment lines × (now.log ≡ held.log))
    ⊎ ((logging ≡ true) × Appends held.comment now.comment lines × GrowsWithin held.log now.log text)

-- the text begins with these forms, and no symbol or numeral goes on behind them
pub record Begun (text : List ℕ) (forms : Forms) : Type 0 where
  pub front : List ℕ
  pub rest : List ℕ
  pub whole : text ≡ front ++ rest
  pub spelled : Items 500 front forms
  pub seam : IsTrue (is_closed front) ⊎ IsTrue (begins_apart rest)

-- the forms so far are those of the text, which ends here or has this fault here
abbrev pub IsStop : List ℕ → Forms → Option (List ℕ) → Option ReadFault → Type 0
IsStop text forms left None = Reads 500 (2 ^ 25) text forms done
IsStop text forms left (Some why) = IsEnding text forms left why

-- the text is a block for each of these claims, of which there is one at most
abbrev pub AreBlocks : History → List Claim → List ℕ → Type 0
AreBlocks h [] text = text ≡ []
AreBlocks h (c ∷ []) text = IsBlock h c text
AreBlocks h (c ∷ (d ∷ claims)) text = ⊥

-- What a form is answered in a history: the step, and the text that it adds to the log, which is the block of what it claims.
pub record Answered (limit : ℕ) (form : Form) (old new : History) (report : Report) (logging : Bool) (block : List ℕ) : Type 0 where
  pub step : Step limit old form report new
  pub written : logging ≡ true → AreBlocks old (claims_at old form report.answer) block

-- One form was run, and the sinks gained the lines of its report and its block. Where its event is not taken, the bank is as it
-- was before the form.
pub record Turned (limit : ℕ) (logging : Bool) (form : Form) (old new : Session) (before later : Totals) (count next : ℕ) (held now : Held) : Type 0 where
  pub report : Report
  pub block : List ℕ
  pub answered : Answered limit form (history_of old) (history_of new) report logging block
  pub bank : KeepsBank (is_taken report.answer) old form new
  pub totals : later ≡ with_report report before
  pub text : Appends held.comment now.comment (lines_of_report (before.forms + 1) report)
  pub log : Logs logging held.log now.log block
  pub log_count : logging ≡ true → next ≡ count + length block

-- the form's turn stopped in the writing of its report, or of its block behind it
pub record WroteWithin (limit : ℕ) (logging : Bool) (number : ℕ) (form : Form) (old : History) (held now : Held) : Type 0 where
  pub report : Report
  pub block : List ℕ
  pub answered : Answered limit form old (after old form report.answer) report logging block
  pub fails : WriteFails logging (lines_of_report number report) block held now

-- the same, or before anything was written
abbrev pub TurnStopped : ℕ → Bool → ℕ → Form → History → Held → Held → Type 0
TurnStopped limit logging number form old held now = (Keeps held.comment now.comment × (now.log ≡ held.log)) ⊎ WroteWithin limit logging number form old held now

-- The form's block, which is no longer than a block may be, would bring the log to its limit, where it holds so many bytes of
-- this run. The report was written.
pub record FilledLog (limit count number : ℕ) (form : Form) (old : History) (held now : Held) : Type 0 where
  pub report : Report
  pub block : List ℕ
  pub answered : Answered limit form old (after old form report.answer) report true block
  pub small : length block ≤ 2 ^ 40
  pub full : 2 ^ 62 ≤ count + length block
  pub text : Appends held.comment now.comment (lines_of_report number report)
  pub log : now.log ≡ held.log

-- the log of these forms and reports, but for its last line
abbrev pub IsLogOf : Forms → List Report → History → List ℕ → Type 0
IsLogOf forms reports history text = IsOpenLog text (claims_from [] forms reports) (without_classes history)

-- These forms were run from the ground history, and the sinks gained the lines of their reports, and the log with its first
-- line, of so many bytes.
pub record Ran (limit : ℕ) (logging : Bool) (forms : Forms) (history : History) (totals : Totals) (count : ℕ) (held now : Held) : Type 0 where
  pub reports : List Report
  pub runs : Runs limit [] forms reports history
  pub counted : totals ≡ totals_of reports
  pub text : Appends held.comment now.comment (report_lines reports)
  pub log : List ℕ
  pub logs : Logs logging held.log now.log log
  pub log_is : logging ≡ true → IsLogOf forms reports history log
  pub log_count : logging ≡ true → count ≡ length log

-- these forms were run from the ground history, with such a history at the end
abbrev pub WasRun : ℕ → Bool → Forms → Totals → ℕ → Held → Held → Type 0
WasRun limit logging forms totals count held now = (history : History) × Ran limit logging forms history totals count held now

-- the last line of the log, where the whole text was run
abbrev pub last_text : Ending → List ℕ
last_text done = end_text
last_text (fault code offset) = []
last_text too_long = []

-- the log of a run that came to the end of its text: a right log with the claims of its forms, or, where the spelling of
-- the text is wrong, one without its last line
abbrev pub IsFinishedLog : Ending → Forms → List Report → List ℕ → Type 0
IsFinishedLog done forms reports log = IsRightLog (claims_from [] forms reports) log
IsFinishedLog (fault code offset) forms reports log = (history : History) × IsOpenLog log (claims_from [] forms reports) history
IsFinishedLog too_long forms reports log = ⊥

-- the log gained such a text, of less than 2^62 bytes; where no log is written it is as it was
pub record FinishedLog (logging : Bool) (ending : Ending) (forms : Forms) (reports : List Report) (held now : Option (List ℕ)) : Type 0 where
  pub log : List ℕ
  pub logs : Logs logging held now log
  pub small : logging ≡ true → length log < 2 ^ 62
  pub log_is : logging ≡ true → IsFinishedLog ending forms reports log

-- the log gained a log with these claims, which has no last line
pub record UnendedLog (logging : Bool) (forms : Forms) (reports : List Report) (held now : Option (List ℕ)) : Type 0 where
  pub log : List ℕ
  pub history : History
  pub logs : Logs logging held now log
  pub log_is : logging ≡ true → IsOpenLog log (claims_from [] forms reports) history

-- the log gained a front part of such a log
pub record PartialLog (logging : Bool) (forms : Forms) (reports : List Report) (held now : Option (List ℕ)) : Type 0 where
  pub log : List ℕ
  pub history : History
  pub logs : LogsWithin logging held now log
  pub log_is : logging ≡ true → IsOpenLog log (claims_from [] forms reports) history

-- the whole text was read, and the sinks gained the whole commentary and the whole log
pub record Finished (limit : ℕ) (logging : Bool) (left : Option (List ℕ)) (ending : Ending) (reports : List Report) (held now : Held) : Type 0 where
  pub forms : Forms
  pub reads : IfSome left (λ text. Reads 500 (2 ^ 25) text forms ending)
  pub reported : Reported limit forms reports
  pub text : Appends held.comment now.comment (rendering reports ending)
  pub log : FinishedLog logging ending forms reports held.log now.log

-- reading stopped by this fault, with so many bytes left in the source, and the sinks gained the lines of the reports so far
-- and the log so far
pub record Halted (limit : ℕ) (logging : Bool) (start left : Option (List ℕ)) (why : ReadFault) (held now : Held) : Type 0 where
  pub forms : Forms
  pub reads : IfSome start (λ text. IsEnding text forms left why)
  pub reports : List Report
  pub reported : Reported limit forms reports
  pub text : Appends held.comment now.comment (report_lines reports)
  pub log : UnendedLog logging forms reports held.log now.log

-- The log is that of all forms but the last, and what would follow it is one block, which claims what the event of the last
-- form does.
pub record BlockIsNext (limit : ℕ) (forms : Forms) (reports : List Report) (log next : List ℕ) : Type 0 where
  pub earlier : Forms
  pub form : Form
  pub forms_are : forms ≡ push earlier form
  pub before : List Report
  pub report : Report
  pub reports_are : reports ≡ before ++ report ∷ []
  pub history : History
  pub runs : Runs limit [] earlier before history
  pub log_is : IsLogOf earlier before history log
  pub claim : Claim
  pub claims : claims_at history form report.answer ≡ claim ∷ []
  pub block : IsBlock history claim next

-- The log is that of all forms, which are the whole text, and what would follow it is its last line.
pub record EndIsNext (limit : ℕ) (left : Option (List ℕ)) (forms : Forms) (reports : List Report) (log next : List ℕ) : Type 0 where
  pub reads : IfSome left (λ text. Reads 500 (2 ^ 25) text forms done)
  pub history : History
  pub runs : Runs limit [] forms reports history
  pub log_is : IsLogOf forms reports history log
  pub last : next ≡ end_text

-- The log is full: it ends between two blocks, or before its last line, and with what would follow it would have 2^62 bytes or
-- more. Since no block has more than 2^40 bytes, it is short of 2^62 bytes by no more than that. Nothing of what would follow
-- was written, but the lines of all reports so far were.
pub record Full (limit : ℕ) (left : Option (List ℕ)) (held now : Held) : Type 0 where
  pub forms : Forms
  pub begins : IfSome left (λ text. Begun text forms)
  pub reports : List Report
  pub reported : Reported limit forms reports
  pub text : Appends held.comment now.comment (report_lines reports)
  pub log : List ℕ
  pub next : List ℕ
  pub logs : Appends held.log now.log log
  pub follows : BlockIsNext limit forms reports log next ⊎ EndIsNext limit left forms reports log next
  pub small : length next ≤ 2 ^ 40
  pub full : 2 ^ 62 ≤ length log + length next

-- the lines of the last report were not written to their end, and so the log is that of all forms but the last
pub record BreaksReport (logging : Bool) (forms : Forms) (reports : List Report) (held now : Held) : Type 0 where
  pub earlier : Forms
  pub form : Form
  pub forms_are : forms ≡ push earlier form
  pub before : List Report
  pub report : Report
  pub reports_are : reports ≡ before ++ report ∷ []
  pub text : GrowsWithin held.comment now.comment (report_lines reports)
  pub log : UnendedLog logging earlier before held.log now.log

-- Some forms were run. The sinks gained a front part of their lines, and the log of all of them but the last; or all of their
-- lines, and a front part of their log.
pub record Interrupted (limit : ℕ) (logging : Bool) (left : Option (List ℕ)) (held now : Held) : Type 0 where
  pub forms : Forms
  pub begins : IfSome left (λ text. Begun text forms)
  pub reports : List Report
  pub reported : Reported limit forms reports
  pub cut : BreaksReport logging forms reports held now ⊎ (Appends held.comment now.comment (report_lines reports) × PartialLog logging forms reports held.log now.log)

-- the closing lines were not written to their end, or the last line was not begun: the log has nothing of it
pub record LacksLast (logging : Bool) (ending : Ending) (reports : List Report) (log : List ℕ) (held now : Held) : Type 0 where
  pub text : GrowsWithin held.comment now.comment (rendering reports ending)
  pub logs : Logs logging held.log now.log log

-- the closing lines were written, and then the last line of the log failed: the log has a front part of it
pub record BreaksLast (ending : Ending) (reports : List Report) (log : List ℕ) (held now : Held) : Type 0 where
  pub text : Appends held.comment now.comment (rendering reports ending)
  pub front : List ℕ
  pub rest : List ℕ
  pub last : last_text ending ≡ front ++ rest
  pub logs : Appends held.log now.log (log ++ front)

-- All forms were run, to the end of the text or to a fault of its spelling. The sinks gained a front part of the whole
-- commentary, and the log without its last line; or the whole commentary, and the log with a front part of its last line.
pub record CutOff (limit : ℕ) (logging : Bool) (left : Option (List ℕ)) (held now : Held) : Type 0 where
  pub forms : Forms
  pub spelling : Option SyntaxFault
  pub reads : IfSome left (λ text. Reads 500 (2 ^ 25) text forms (ending_of spelling))
  pub reports : List Report
  pub reported : Reported limit forms reports
  pub log : List ℕ
  pub history : History
  pub log_is : logging ≡ true → IsOpenLog log (claims_from [] forms reports) history
  pub cut : LacksLast logging (ending_of spelling) reports log held now ⊎ ((logging ≡ true) × BreaksLast (ending_of spelling) reports log held now)

abbrev pub Stopped : ℕ → Bool → Option (List ℕ) → Held → Held → Type 0
Stopped limit logging left held now = Interrupted limit logging left held now ⊎ CutOff limit logging left held now

-- the status of a run that came to the end of its text, or to a fault of its spelling
abbrev pub status_of : Option SyntaxFault → Totals → ℕ
status_of None totals = if unsuccessful totals == 0 then 0 else 1
status_of (Some f) totals = 3
