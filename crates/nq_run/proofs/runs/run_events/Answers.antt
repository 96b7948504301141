use Rattle.std.proofs.Common.{◌≡◌, ◌^◌, Bool, true, Option, ap, sym, subst, ◌∙◌, inl, inr}
use Rattle.std.specs.Prelude.{IfSome, Some, Err}
use Rattle.nq_form.specs.Grammar.{Reads}
use Rattle.nq_sexp.specs.declared.fault.ReadFault.{ReadFault}
use Rattle.nq_sexp.specs.declared.fault.ReadFault.TheVariants as read_fault
use Rattle.nq_comment.specs.ReportViews.{ending_of}
use Rattle.nq_comment.specs.Text.{closing_lines}
use Rattle.nq_comment.specs.Totals.{totals_in}
use Rattle.nq_comment.specs.declared.counts.Counts.{Counts}
use Rattle.nq_comment.specs.declared.report.SyntaxFault.{SyntaxFault}
use Rattle.nq_run.specs.Outcome.{Finished, held_in, IsStop, WriteFails, last_text}
use Rattle.nq_run.specs.declared.runs.RunFault.{RunFault}
use Rattle.nq_run.specs.declared.runs.RunFault.TheVariants as run_fault
use Rattle.nq_run.proofs.EndingLemmas.{Ran-cut, Ran-filled, Ran-finished, Ran-halted, Ran-interrupted}
use Rattle.nq_run.proofs.RunLemmas.{if_ok_on, if_some_weaker, logs_told, on_err_weaker, ran_as}
use Rattle.nq_run.proofs.runs.run_events.Goals as goal

pub returns-in-Ok-clause-finished : goal.returns-in-Ok-clause-finished
returns-in-Ok-clause-finished g c =
    let left = g.S.Source.left c.args.src.now in
    let told = c.in_ok-walked.ensures in
    let walked = told.walked in
    let forms = walked.0 in
    let ran = walked.1.1 in
    let logging = c.args.logging in
    let progress = c.in_ok-walked.walked.progress in
    let held = held_in (g.O.Sink.written c.args.comment.now) (g.L.Sink.written c.args.log.now) in
    let before = held_in (g.O.Sink.written c.run_forms.new.comment) (g.L.Sink.written c.run_forms.new.log) in
    let now = held_in (g.O.Sink.written c.finish.new.comment) (g.L.Sink.written c.finish.new.log) in
    let ending = ending_of c.in-Ok.fault in
    let reads : IfSome left (λ text. Reads 500 (2 ^ 25) text forms ending) =
    if_some_weaker left _ _ (λ text stop. c.in-Ok.ensures.reads text forms (g.S.Source.left c.run_forms.new.src) stop) walked.3 in
    if_ok_on c.finish.result _ _ _ _ _ (λ ended is appends logs small. (
      ran.reports,
      subst (λ (z : Option SyntaxFault). Finished c.args.limit logging left (ending_of z) ran.reports held now) (sym is.1)
          (Ran-finished c.args.limit logging left c.in-Ok.fault forms walked.1.0 (totals_in progress.counts) progress.log.count held before now ran reads appends
          (logs_told progress.log.logging logging _ _ _ told.logging logs) (λ w. small (told.logging ∙ w))),
      ap (λ (z : Counts). totals_in z) is.0 ∙ ran.counted,
    )) c.finish.ensures.ended c.finish.ensures.ok c.finish.ensures.log_ok c.finish.ensures.small

pub returns-in-Ok-clause-too_long : goal.returns-in-Ok-clause-too_long
returns-in-Ok-clause-too_long g c e =
    let told = c.in_ok-walked.ensures in
    let walked = told.walked in
    let progress = c.in_ok-walked.walked.progress in
    let left = g.S.Source.left c.args.src.now in
    let ending = ending_of c.in-Ok.fault in
    let reads : IfSome left (λ text. Reads 500 (2 ^ 25) text walked.0 ending) =
    if_some_weaker left _ _ (λ text stop. c.in-Ok.ensures.reads text walked.0 (g.S.Source.left c.run_forms.new.src) stop) walked.3 in
    let full = c.finish.ensures.full e in
    let logging = sym told.logging ∙ full.0 in
    inr (
      logging,
      Ran-filled c.args.limit left c.in-Ok.fault walked.0 walked.1.0 (totals_in progress.counts) progress.log.count _ _ _
          (ran_as c.args.limit c.args.logging true _ _ _ _ _ _ logging walked.1.1) reads walked.2 told.bound full.1 full.2 full.3,
    )

pub returns-in-Ok-clause-stopped : goal.returns-in-Ok-clause-stopped
returns-in-Ok-clause-stopped g c =
    let left = g.S.Source.left c.args.src.now in
    let told = c.in_ok-walked.ensures in
    let walked = told.walked in
    let forms = walked.0 in
    let logging = c.args.logging in
    let progress = c.in_ok-walked.walked.progress in
    let before = held_in (g.O.Sink.written c.run_forms.new.comment) (g.L.Sink.written c.run_forms.new.log) in
    let now = held_in (g.O.Sink.written c.finish.new.comment) (g.L.Sink.written c.finish.new.log) in
    let ending = ending_of c.in-Ok.fault in
    let reads : IfSome left (λ text. Reads 500 (2 ^ 25) text forms ending) =
    if_some_weaker left _ _ (λ text stop. c.in-Ok.ensures.reads text forms (g.S.Source.left c.run_forms.new.src) stop) walked.3 in
    on_err_weaker c.finish.result _ _
    (λ fails. inr (Ran-cut c.args.limit logging left c.in-Ok.fault forms walked.1.0 (totals_in progress.counts) progress.log.count _ _ _ walked.1.1 reads
    (subst (λ (z : Bool). WriteFails z (closing_lines ending (totals_in progress.counts)) (last_text ending) before now) told.logging fails))) c.finish.ensures.fails

pub returns-in-Err-clause-read : goal.returns-in-Err-clause-read
returns-in-Err-clause-read g c e =
    let left = g.S.Source.left c.args.src.now in
    let still = g.S.Source.left c.run_forms.new.src in
    let walked = c.in_ok-walked.ensures.walked in
    let progress = c.in_ok-walked.walked.progress in
    let same : c.in-Err.fault ≡ run_fault.Read = cc in
    let stop_is : c.in_ok-walked.walked.stop ≡ Some read_fault.Read = c.in-Err.ensures.read (ap (λ (z : RunFault). Err z) same) in
    Ran-halted c.args.limit c.args.logging left still read_fault.Read walked.0 walked.1.0 (totals_in progress.counts) progress.log.count _ _ walked.1.1
    (subst (λ (z : Option ReadFault). IfSome left (λ text. IsStop text walked.0 still z)) stop_is walked.3)

pub returns-in-Err-clause-too_long : goal.returns-in-Err-clause-too_long
returns-in-Err-clause-too_long g c e =
    let left = g.S.Source.left c.args.src.now in
    let still = g.S.Source.left c.run_forms.new.src in
    let walked = c.in_ok-walked.ensures.walked in
    let progress = c.in_ok-walked.walked.progress in
    let same : c.in-Err.fault ≡ run_fault.TooLong = cc in
    let stop_is : c.in_ok-walked.walked.stop ≡ Some read_fault.FileTooLong = c.in-Err.ensures.too_long (ap (λ (z : RunFault). Err z) same) in
    inl (Ran-halted c.args.limit c.args.logging left still read_fault.FileTooLong walked.0 walked.1.0 (totals_in progress.counts) progress.log.count _ _ walked.1.1
    (subst (λ (z : Option ReadFault). IfSome left (λ text. IsStop text walked.0 still z)) stop_is walked.3))

pub returns-in-Err-clause-stopped : goal.returns-in-Err-clause-stopped
returns-in-Err-clause-stopped g c =
    let walked = c.in_ok-walked.ensures.walked in
    let progress = c.in_ok-walked.walked.progress in
    Ran-interrupted c.args.limit c.args.logging (g.S.Source.left c.args.src.now) walked.0 walked.1.0 (totals_in progress.counts) progress.log.count _ _ walked.1.1 walked.2
