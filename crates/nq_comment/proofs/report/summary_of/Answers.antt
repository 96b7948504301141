use Rattle.std.proofs.Common.{◌≡◌, ◌∙◌, refl}
use Rattle.std.specs.List.{flat_map}
use Rattle.std.proofs.lemmas.Result.{IfOk-weaker}
use Rattle.nq_comment.specs.Text.{summary_by}
use Rattle.nq_comment.proofs.report.summary_of.Goals as goal

pub returns : goal.returns
returns c =
    let text_is : flat_map (λ piece. piece.now) c.as_slice-7.result.now
    ≡ summary_by c.args.forms.now c.args.accepted.now c.args.refused.now c.args.failed.now c.args.skipped.now =
    rw (c.as_slice-7.ensures, c.as_slice.ensures, c.as_slice-2.ensures, c.as_slice-3.ensures, c.as_slice-4.ensures, c.as_slice-5.ensures, c.as_slice-6.ensures) refl in
    IfOk-weaker c.joined.result _ _ (λ text is. is ∙ text_is) c.joined.ensures
