use Rattle.std.proofs.Common.{inl, ◌+◌, ◌≤◌, ◌^◌, ℕ, List, ap, inr, length, refl, subst, ◌∙◌}
use Rattle.nq_sexp.specs.Tree.{tree}
use Rattle.nq_comment.specs.Reports.{Report}
use Rattle.nq_comment.specs.ReportViews.{answer_of, text_of}
use Rattle.nq_comment.specs.Text.{lines_of_report}
use Rattle.nq_comment.specs.Totals.{totals_in, with_kind}
use Rattle.nq_comment.specs.declared.kind.Kind.{Kind}
use Rattle.nq_answers.specs.Headers.{name_of, word_of}
use Rattle.nq_run.proofs.LogLemmas.{kept_same, within_whole}
use Rattle.nq_run.proofs.RunLemmas.{appends_as, log_within_as, writes_fail, logs_as, on_err, within_as}
use Rattle.nq_run.proofs.TurnLemmas.{answered_as, answered_here, answered_logging, reported_as, reports_alike}
use Rattle.nq_run.proofs.runs.turn.Goals as goal

pub returns-in_err-taken-clause-stopped : goal.returns-in_err-taken-clause-stopped
returns-in_err-taken-clause-stopped g c = on_err c.from_residual.result _ (inl (kept_same _, refl))

pub returns-in_err-write_text-clause-stopped : goal.returns-in_err-write_text-clause-stopped
returns-in_err-write_text-clause-stopped g c =
    let taken = c.in_ok-taken.taken in
    let form = tree c.args.form.now in
    let same = reports_alike (answer_of taken.answer) (text_of c.word_of.result) (word_of form) (text_of c.name_of.result) (name_of form) c.word_of.ensures c.name_of.ensures in
    on_err c.from_residual-in_err-write_text.result _ (inr (record {
      report = reported_as form (answer_of taken.answer);
      block = taken.block;
      answered = answered_here c.args.limit c.args.session form c.args.progress.log.logging taken c.in_ok-taken.ensures.takes;
      fails = inl (
        within_as _ _ _ _ (c.in-Ok.ensures ∙ ap (λ (r : Report). lines_of_report (c.args.progress.counts.forms + 1) r) same) c.as_slice.ensures.value c.in_err-write_text.ensures.err,
        refl,
      );
    }))

pub returns-then-is_full_with-clause-full : goal.returns-then-is_full_with-clause-full
returns-then-is_full_with-clause-full g c e =
    let taken = c.in_ok-taken.taken in
    let form = tree c.args.form.now in
    let same = reports_alike (answer_of taken.answer) (text_of c.word_of.result) (word_of form) (text_of c.name_of.result) (name_of form) c.word_of.ensures c.name_of.ensures in
    let full = c.is_full_with.ensures.0 c.if-is_full_with.true in (
      full.0,
      record {
        report = reported_as form (answer_of taken.answer);
        block = taken.block;
        answered = answered_logging c.args.limit _ _ _ _ c.args.progress.log.logging _ full.0 (answered_here c.args.limit c.args.session form c.args.progress.log.logging taken c.in_ok-taken.ensures.takes);
        small = subst (λ (t : List ℕ). length t ≤ 2 ^ 40) refl c.in_ok-taken.ensures.small;
        full = subst (λ (t : List ℕ). 2 ^ 62 ≤ c.args.progress.log.count + length t) c.as_slice-2.ensures full.1;
        text = appends_as _ _ _ _ (c.in-Ok.ensures ∙ ap (λ (r : Report). lines_of_report (c.args.progress.counts.forms + 1) r) same) c.as_slice.ensures.value c.in_ok-write_text.ensures.ok;
        log = refl;
      },
    )

pub returns-then-is_full_with-clause-stopped : goal.returns-then-is_full_with-clause-stopped
returns-then-is_full_with-clause-stopped g c =
    let taken = c.in_ok-taken.taken in
    let form = tree c.args.form.now in
    let same = reports_alike (answer_of taken.answer) (text_of c.word_of.result) (word_of form) (text_of c.name_of.result) (name_of form) c.word_of.ensures c.name_of.ensures in
    inr (record {
      report = reported_as form (answer_of taken.answer);
      block = taken.block;
      answered = answered_here c.args.limit c.args.session form c.args.progress.log.logging taken c.in_ok-taken.ensures.takes;
      fails = inl (
        within_whole _ _ _ (appends_as _ _ _ _ (c.in-Ok.ensures ∙ ap (λ (r : Report). lines_of_report (c.args.progress.counts.forms + 1) r) same)
            c.as_slice.ensures.value c.in_ok-write_text.ensures.ok),
        refl,
      );
    })

pub returns-in_err-log-clause-stopped : goal.returns-in_err-log-clause-stopped
returns-in_err-log-clause-stopped g c =
    let taken = c.in_ok-taken.taken in
    let form = tree c.args.form.now in
    let same = reports_alike (answer_of taken.answer) (text_of c.word_of.result) (word_of form) (text_of c.name_of.result) (name_of form) c.word_of.ensures c.name_of.ensures in
    on_err c.from_residual-in_err-log.result _ (inr (record {
      report = reported_as form (answer_of taken.answer);
      block = taken.block;
      answered = answered_here c.args.limit c.args.session form c.args.progress.log.logging taken c.in_ok-taken.ensures.takes;
      fails = writes_fail _ _ _ _ _
          (appends_as _ _ _ _ (c.in-Ok.ensures ∙ ap (λ (r : Report). lines_of_report (c.args.progress.counts.forms + 1) r) same) c.as_slice.ensures.value c.in_ok-write_text.ensures.ok)
          (log_within_as _ _ _ _ _ c.as_slice-3.ensures c.in_err-log.ensures.err);
    }))

pub returns-clause-turned : goal.returns-clause-turned
returns-clause-turned g c =
    let taken = c.in_ok-taken.taken in
    let form = tree c.args.form.now in
    let same = reports_alike (answer_of taken.answer) (text_of c.word_of.result) (word_of form) (text_of c.name_of.result) (name_of form) c.word_of.ensures c.name_of.ensures in
    record {
      report = reported_as form (answer_of taken.answer);
      block = taken.block;
      answered = answered_as c.args.limit c.args.session form c.args.progress.log.logging taken c.in_ok-taken.ensures.takes;
      bank = c.in_ok-taken.ensures.takes.bank;
      totals = c.with.ensures ∙ ap (λ (k : Kind). with_kind k (totals_in c.args.progress.counts)) c.kind-kind.ensures;
      text = appends_as _ _ _ _ (c.in-Ok.ensures ∙ ap (λ (r : Report). lines_of_report (c.args.progress.counts.forms + 1) r) same) c.as_slice.ensures.value c.in_ok-write_text.ensures.ok;
      log = logs_as _ _ _ _ _ c.as_slice-3.ensures c.in_ok-log.ensures.ok;
      log_count = λ w. c.in_ok-log.ensures.count w ∙ ap (λ n. c.args.progress.log.count + n) (ap length c.as_slice-3.ensures);
    }
