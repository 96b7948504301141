-- The numbers of the summary line.
use Rattle.std.specs.Prelude.{◌+◌, ℕ, List, [], ◌∷◌}
use Rattle.nq_comment.specs.Reports.{Report, kind_of}
use Rattle.nq_comment.specs.declared.counts.Counts.{Counts}
use Rattle.nq_comment.specs.declared.kind.Kind.{Kind}
use Rattle.nq_comment.specs.declared.kind.Kind.TheVariants as kind

pub record Totals : Type 0 where
  pub forms : ℕ
  pub accepted : ℕ
  pub refused : ℕ
  pub failed : ℕ
  pub skipped : ℕ

abbrev pub totals_in : Counts → Totals
totals_in c = record { forms = c.forms; accepted = c.accepted; refused = c.refused; failed = c.failed; skipped = c.skipped }

abbrev pub no_forms : Totals
no_forms = record { forms = 0; accepted = 0; refused = 0; failed = 0; skipped = 0 }

-- the totals with one form more
abbrev pub with_kind : Kind → Totals → Totals
with_kind kind.Accepted t = record t { forms = t.forms + 1; accepted = t.accepted + 1 }
with_kind kind.Refused t = record t { forms = t.forms + 1; refused = t.refused + 1 }
with_kind kind.Failed t = record t { forms = t.forms + 1; failed = t.failed + 1 }
with_kind kind.Skipped t = record t { forms = t.forms + 1; skipped = t.skipped + 1 }

abbrev pub with_report : Report → Totals → Totals
with_report report t = with_kind (kind_of report.answer) t

abbrev pub totals_of : List Report → Totals
totals_of [] = no_forms
totals_of (report ∷ reports) = with_report report (totals_of reports)

-- how many forms were refused or failed
abbrev pub unsuccessful : Totals → ℕ
unsuccessful t = t.refused + t.failed
