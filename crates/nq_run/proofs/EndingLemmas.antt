-- How a run ends.
use Rattle.std.proofs.Common.{◌≡◌, ◌+◌, ◌^◌, ◌≤◌, ◌<◌, ℕ, Bool, true, List, [], ◌++◌, length, Option, subst, refl, inl, inr, arith, append-nil, length-append}
use Rattle.std.specs.Prelude.{◌⊎◌, Some, None, IfSome, ⊤}
use Rattle.std.specs.Io.KnownBytes.{Appends, Keeps}
use Rattle.std.proofs.KnownBytes.{Appends-kept, Appends-trans}
use Rattle.nq_logic.specs.Histories.{History}
use Rattle.nq_form.specs.Form.{Forms}
use Rattle.nq_form.specs.Grammar.{Ending, Reads, done, fault, too_long}
use Rattle.nq_sexp.specs.Whole.{IsEnding}
use Rattle.nq_sexp.specs.declared.fault.ReadFault.{ReadFault}
use Rattle.nq_comment.specs.Reports.{Report}
use Rattle.nq_comment.specs.Text.{closing_lines, report_lines}
use Rattle.nq_comment.specs.Totals.{Totals, totals_of}
use Rattle.nq_comment.specs.ReportViews.{ending_of}
use Rattle.nq_comment.specs.declared.report.SyntaxFault.{SyntaxFault}
use Rattle.nq_logic.specs.Classes.{without_classes}
use Rattle.nq_answers.specs.Claims.{claims_from}
use Rattle.nq_block.specs.OpenLogs.{end_text}
use Rattle.nq_run.proofs.RightLogs.{right_log}
use Rattle.nq_run.proofs.RunLemmas.{partial_log, unended}
use Rattle.nq_run.proofs.LogLemmas.{logs_after, logs_same, logs_within, within_after}
use Rattle.nq_run.specs.Outcome as outcome
use Rattle.nq_run.specs.Outcome.{Answered, Begun, BreaksLast, BreaksReport, CutOff, FilledLog, Finished, FinishedLog, Full, GrowsWithin, Halted, held_in, Interrupted, IsFinishedLog, IsLogOf, LacksLast, last_text, Logs, LogsWithin, PartialLog, Ran, Stopped, Turned, TurnStopped, UnendedLog, WriteFails, WroteWithin}
use Rattle.nq_answers.specs.Steps.{Runs}
use Rattle.nq_answers.proofs.Deriving.{reported}

-- the ending of a text that was read to its end, or to a fault of its spelling
abbrev IsEnded : Ending → Type 0
IsEnded done = ⊤
IsEnded (fault code offset) = ⊤
IsEnded too_long = ⊥

own_ending : (spelling : Option SyntaxFault) → IsEnded (ending_of spelling)
own_ending None = tt
own_ending (Some f) = tt

finished_log : (limit : ℕ) (logging : Bool) (ending : Ending) (forms : Forms) (reports : List Report) (history : History) (a c : Option (List ℕ)) (log : List ℕ)
    → Logs logging a c (log ++ last_text ending) → (logging ≡ true → length (log ++ last_text ending) < 2 ^ 62) → (logging ≡ true → IsLogOf forms reports history log) → Runs limit [] forms reports history
    → IsEnded ending → FinishedLog logging ending forms reports a c
finished_log limit logging done forms reports history a c log logs small is runs ended =
    record { log = log ++ end_text; logs = logs; small = small; log_is = λ w. right_log (claims_from [] forms reports) (without_classes history) log (is w) }
finished_log limit logging (fault code offset) forms reports history a c log logs small is runs ended =
    record {
      log = log;
      logs = subst (Logs logging a c) (append-nil log) logs;
      small = λ w. subst (λ (t : List ℕ). length t < 2 ^ 62) (append-nil log) (small w);
      log_is = λ w. (without_classes history, is w);
    }
finished_log limit logging too_long forms reports history a c log logs small is runs ended = absurd ended

-- the bytes of the log and of its last line
ended_small : (logging : Bool) (log last : List ℕ) (count : ℕ) → (logging ≡ true → count ≡ length log) → (logging ≡ true → count + length last < 2 ^ 62) → logging ≡ true → length (log ++ last) < 2 ^ 62
ended_small logging log last count counted small w =
    let same = counted w in
    let below = small w in
    let whole : length (log ++ last) ≡ length log + length last = length-append log last in
    omega (arith, same, below, whole)

pub Ran-finished : (limit : ℕ) (logging : Bool) (left : Option (List ℕ)) (spelling : Option SyntaxFault) (forms : Forms) (history : History) (t : Totals) (count : ℕ) (a b c : outcome.Held)
    (ran : Ran limit logging forms history t count a b)
    → IfSome left (λ text. Reads 500 (2 ^ 25) text forms (ending_of spelling))
    → Appends b.comment c.comment (closing_lines (ending_of spelling) t) → Logs logging b.log c.log (last_text (ending_of spelling))
    → (logging ≡ true → count + length (last_text (ending_of spelling)) < 2 ^ 62) → Finished limit logging left (ending_of spelling) ran.reports a c
Ran-finished limit logging left spelling forms history t count a b c ran reads closes last small = record {
  forms = forms;
  reads = reads;
  reported = reported limit forms ran.reports history ran.runs;
  text = Appends-trans a.comment b.comment c.comment _ _ ran.text (subst (λ (u : Totals). Appends b.comment c.comment (closing_lines (ending_of spelling) u)) ran.counted closes);
  log = finished_log limit logging (ending_of spelling) forms ran.reports history a.log c.log ran.log
      (logs_after logging a.log b.log c.log ran.log (last_text (ending_of spelling)) ran.logs last)
      (ended_small logging ran.log (last_text (ending_of spelling)) count ran.log_count small) ran.log_is ran.runs (own_ending spelling);
}

-- the last two writes failed, behind what was written before
module _ (logging : Bool) (ending : Ending) (reports : List Report) (a b c : outcome.Held) (log : List ℕ) where
  cut_last : Appends a.comment b.comment (report_lines reports) → Logs logging a.log b.log log → WriteFails logging (closing_lines ending (totals_of reports)) (last_text ending) b c
      → LacksLast logging ending reports log a c ⊎ ((logging ≡ true) × BreaksLast ending reports log a c)
  cut_last text logs (inl fails) =
      inl (record { text = within_after a.comment b.comment c.comment _ _ text fails.0; logs = logs_same logging a.log b.log c.log log logs fails.1 })
  cut_last text logs (inr fails) = inr (
    fails.0,
    record {
      text = Appends-trans a.comment b.comment c.comment _ _ text fails.1;
      front = (fails.2).front;
      rest = (fails.2).rest;
      last = (fails.2).whole;
      logs = Appends-trans a.log b.log c.log log (fails.2).front (subst (λ (z : Bool). Logs z a.log b.log log) fails.0 logs) (fails.2).appends;
    },
  )

pub Ran-cut : (limit : ℕ) (logging : Bool) (left : Option (List ℕ)) (spelling : Option SyntaxFault) (forms : Forms) (history : History) (t : Totals) (count : ℕ) (a b c : outcome.Held)
    → Ran limit logging forms history t count a b
    → IfSome left (λ text. Reads 500 (2 ^ 25) text forms (ending_of spelling)) → WriteFails logging (closing_lines (ending_of spelling) t) (last_text (ending_of spelling)) b c → CutOff limit logging left a c
Ran-cut limit logging left spelling forms history t count a b c ran reads fails = record {
  forms = forms;
  spelling = spelling;
  reads = reads;
  reports = ran.reports;
  reported = reported limit forms ran.reports history ran.runs;
  log = ran.log;
  history = without_classes history;
  log_is = ran.log_is;
  cut = cut_last logging (ending_of spelling) ran.reports a b c ran.log ran.text ran.logs (subst (λ (u : Totals). WriteFails logging (closing_lines (ending_of spelling) u) (last_text (ending_of spelling)) b c) ran.counted fails);
}

pub Ran-halted : (limit : ℕ) (logging : Bool) (start left : Option (List ℕ)) (why : ReadFault) (forms : Forms) (history : History) (t : Totals) (count : ℕ) (a b : outcome.Held)
    → Ran limit logging forms history t count a b → IfSome start (λ text. IsEnding text forms left why) → Halted limit logging start left why a b
Ran-halted limit logging start left why forms history t count a b ran reads = record {
  forms = forms;
  reads = reads;
  reports = ran.reports;
  reported = reported limit forms ran.reports history ran.runs;
  text = ran.text;
  log = unended limit logging forms history t count a b b.log ran refl;
}

pub Ran-interrupted : (limit : ℕ) (logging : Bool) (left : Option (List ℕ)) (forms : Forms) (history : History) (t : Totals) (count : ℕ) (a b : outcome.Held)
    → Ran limit logging forms history t count a b → IfSome left (λ text. Begun text forms) → Stopped limit logging left a b
Ran-interrupted limit logging left forms history t count a b ran begins = inl (record {
  forms = forms;
  begins = begins;
  reports = ran.reports;
  reported = reported limit forms ran.reports history ran.runs;
  cut = inr (ran.text, partial_log logging forms ran.reports history a.log b.log ran.log (logs_within logging a.log b.log ran.log ran.logs) ran.log_is);
})

-- the last line would fill the log
pub Ran-filled : (limit : ℕ) (left : Option (List ℕ)) (spelling : Option SyntaxFault) (forms : Forms) (history : History) (t : Totals) (count : ℕ) (a b c : outcome.Held)
    → Ran limit true forms history t count a b → IfSome left (λ text. Reads 500 (2 ^ 25) text forms (ending_of spelling)) → IfSome left (λ text. Begun text forms)
    → count < 2 ^ 62 → 2 ^ 62 ≤ count + length (last_text (ending_of spelling)) → Keeps b.comment c.comment → c.log ≡ b.log → Full limit left a c
Ran-filled limit left (Some f) forms history t count a b c ran reads begun small full kept same = absurd (omega (arith, small, full))
Ran-filled limit left None forms history t count a b c ran reads begun small full kept same =
    let counted = ran.log_count refl in
    record {
      forms = forms;
      begins = begun;
      reports = ran.reports;
      reported = reported limit forms ran.reports history ran.runs;
      text = Appends-kept a.comment b.comment c.comment _ ran.text kept;
      log = ran.log;
      next = end_text;
      logs = logs_same true a.log b.log c.log ran.log ran.logs same;
      follows = inr (record { reads = reads; history = history; runs = ran.runs; log_is = ran.log_is refl; last = refl });
      small = omega arith;
      full = omega (arith, counted, full);
    }
