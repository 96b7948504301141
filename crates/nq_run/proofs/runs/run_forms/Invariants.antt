use Rattle.std.proofs.Common.{◌≡◌, ◌-◌, ◌^◌, ◌≤◌, ◌<◌, false}
use Rattle.std.specs.Prelude.{IsTrue}
use Rattle.nq_form.specs.Form.{Forms}
use Rattle.nq_sexp.specs.Whole.{SoFar}
use Rattle.nq_comment.specs.Totals.{totals_in}
use Rattle.nq_run.specs.HistoryView.{history_of, SessionStands}
use Rattle.nq_run.specs.Outcome.{held_in, Ran}
use Rattle.nq_run.proofs.runs.run_forms.Given as goal

-- the forms so far were run, the reader reads on, each form took a byte, no count of faults has fallen, and the prover has
-- learnt the history
abbrev pub invariant-loop-form : goal.invariant-loop-form
invariant-loop-form g l = ((forms : Forms) × SoFar (g.S.Source.left l.fn.src) l.reader.held (g.S.Source.left l.src) forms
    × Ran l.fn.limit l.fn.logging forms (history_of l.session) (totals_in l.progress.counts) l.progress.log.count
    (held_in (g.O.Sink.written l.fn.comment) (g.L.Sink.written l.fn.log)) (held_in (g.O.Sink.written l.comment) (g.L.Sink.written l.log)))
    × IsTrue l.reader.live × (l.progress.counts.forms ≤ l.reader.held.at)
    × (g.S.Source.faults l.fn.src ≤ g.S.Source.faults l.src) × (g.O.Sink.faults l.fn.comment ≤ g.O.Sink.faults l.comment)
    × (g.L.Sink.faults l.fn.log ≤ g.L.Sink.faults l.log)
    × SessionStands l.session × (l.progress.log.logging ≡ l.fn.logging) × (l.progress.log.count < 2 ^ 62)
    × (l.fn.logging ≡ false → l.log ≡ l.fn.log) × g.P.Prover.has_learnt l.prover l.session.history

abbrev pub decreases-loop-form : goal.decreases-loop-form
decreases-loop-form g l = 2 ^ 25 - l.reader.held.at
