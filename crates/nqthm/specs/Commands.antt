-- What each command leaves behind, by the status that it ends with.
use Rattle.std.specs.Prelude.{◌≡◌, ◌⊎◌, ◌<◌, ◌^◌, ℕ, List, Bool, true, Option, IfSome, Result, Ok, Err}
use Rattle.nq_form.specs.Form.{Forms}
use Rattle.nq_form.specs.Grammar.{Ending, Reads, done, fault}
use Rattle.nq_log.specs.Logs.{reading_by, step}
use Rattle.nq_comment.specs.Reports.{Report}
use Rattle.nq_comment.specs.Totals.{totals_of, unsuccessful}
use Rattle.nq_check.specs.declared.verdict.Checked.{Checked}
use Rattle.nq_check.specs.declared.verdict.Checked.TheVariants.{Accepted, Refused}
use Rattle.nq_check.specs.declared.verdict.CheckFault.{CheckFault}
use Rattle.nq_check.specs.declared.verdict.CheckFault.TheVariants as check
use Rattle.nq_check.specs.Outcomes.{Checks}
use Rattle.nq_run.specs.Outcome.{Finished, Full, Halted, Held, Stopped}
use Rattle.nq_sexp.specs.declared.fault.ReadFault.TheVariants.{FileTooLong, Read}
use Rattle.nqthm.specs.Statuses.{IsStatusOf, IsVerdictOf}

-- `run` and `log` with so many steps for each event, over a text of which so much is left: what the sinks of the commentary and of
-- the log gained
pub record HasRun (steps : ℕ) (logging : Bool) (start left : Option (List ℕ)) (held now : Held) (status : ℕ) : Type 0 where
  -- the whole file was run, and the whole commentary was written, and the whole log
  pub success : status ≡ 0 → (reports : List Report) × Finished steps logging start done reports held now × (unsuccessful (totals_of reports) ≡ 0)
  pub refused : status ≡ 1 → (reports : List Report) × Finished steps logging start done reports held now × (0 < unsuccessful (totals_of reports))
  -- the spelling of the file is wrong
  pub spelling : status ≡ 3 → (reports : List Report) × (code : ℕ) × (offset : ℕ) × Finished steps logging start (fault code offset) reports held now
  -- the lines of all forms that stand whole in what was read were written
  pub read : status ≡ 4 → Halted steps logging start left Read held now
  pub too_long : status ≡ 7 → Halted steps logging start left FileTooLong held now ⊎ ((logging ≡ true) × Full steps start held now)
  -- a front part of such lines, or of a whole commentary, was written, and of their log: its last line is the last write of all
  pub stopped : status ≡ 5 → Stopped steps logging start held now
  pub memory : status ≡ 6 → Stopped steps logging start held now
  -- the ending of the text leaves no other status but those of failures, of memory, and of a full log
  pub ending : IfSome start (λ text. (forms : Forms) (e : Ending) → Reads 500 (2 ^ 25) text forms e → IsStatusOf logging e status)

-- the status after checking a log
abbrev pub check_status : Result Checked CheckFault → ℕ
check_status (Ok (Accepted claims)) = 0
check_status (Ok (Refused line why)) = 1
check_status (Err check.Read) = 4
check_status (Err check.Write) = 5
check_status (Err check.Memory) = 6
check_status (Err check.TooLong) = 7

-- `check`, over a text of which so much is left
pub record HasChecked (start held now : Option (List ℕ)) (status : ℕ) : Type 0 where
  pub outcome : Result Checked CheckFault
  pub status_is : status ≡ check_status outcome
  pub checks : Checks step start held now outcome
  -- the status is 0 only where the text is a right log, and 1 only where it is none; else it says nothing of the text
  pub verdict : IfSome start (λ text. IsVerdictOf (reading_by step text).ending status)
