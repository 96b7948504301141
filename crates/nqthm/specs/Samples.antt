-- What `sample` leaves behind.
use Rattle.std.specs.Prelude.{◌≡◌, ◌^◌, ℕ, List, Option}
use Rattle.std.specs.Io.KnownBytes.{Appends}
use Rattle.nq_form.specs.Form.{Forms}
use Rattle.nq_form.specs.Grammar.{Reads, done}
use Rattle.nq_comment.specs.Reports.{Report}
use Rattle.nq_comment.specs.ReportViews.{ending_of}
use Rattle.nq_comment.specs.Text.{summary}
use Rattle.nq_comment.specs.Totals.{totals_in, totals_of}
use Rattle.nq_answers.specs.Derived.{Reported}
use Rattle.nq_run.specs.declared.runs.Ended.{Ended}
use Rattle.nq_sample.specs.Sample.{sample_of}

-- the steps that each event of a sample may take
abbrev pub sample_steps : ℕ
sample_steps = 2000000

-- a text was run to its end, or to a fault of its spelling
pub record RanInMemory (text : List ℕ) (ended : Ended) : Type 0 where
  pub forms : Forms
  pub reads : Reads 500 (2 ^ 25) text forms (ending_of ended.fault)
  pub reports : List Report
  pub reported : Reported sample_steps forms reports
  pub counted : totals_in ended.counts ≡ totals_of reports

-- The text that the seed and the size give was written, whole. Its forms were run, all of them, and the summary line of their
-- reports was written.
pub record IsSampled (seed size : ℕ) (out out_now side side_now : Option (List ℕ)) : Type 0 where
  pub text : Appends out out_now (sample_of seed size)
  pub forms : Forms
  pub reads : Reads 500 (2 ^ 25) (sample_of seed size) forms done
  pub reports : List Report
  pub reported : Reported sample_steps forms reports
  pub line : Appends side side_now (summary (totals_of reports))
