use Rattle.std.proofs.Common.{sym, ap, ◌∙◌}
use Rattle.std.specs.Prelude.{is_some}
use Rattle.nq_language.specs.Quotations.{negative_object}
use Rattle.nq_print.specs.Pieces.{object_text}
use Rattle.nq_print.proofs.TextLemmas.{then_piece, text-negative}
use Rattle.nq_print.proofs.quoting.write_negative.Goals as goal

pub returns-in_ok-push-in-Some : goal.returns-in_ok-push-in-Some
returns-in_ok-push-in-Some c =
    let text = ap (λ m. object_text (negative_object m)) c.in-Some.is ∙ text-negative c.in-Some.n (sym (ap (λ m. is_some (negative_object m)) c.in-Some.is) ∙ c.requires) in
    then_piece _ _ _ _ _ _ _ c.in_ok-push-in-Some.ensures.items text c.write_number.ensures
