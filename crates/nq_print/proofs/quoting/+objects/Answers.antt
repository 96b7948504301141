use Rattle.std.proofs.Common.{ap, ◌∙◌}
use Rattle.nq_print.specs.Pieces.{object_text, tail_text}
use Rattle.nq_print.proofs.TextLemmas.{same_piece, third_piece, written_pair, text-number, text-pair, tail-pair}
use Rattle.nq_print.proofs.quoting.+objects.Goals as goal

pub write_object-returns-in-Number : goal.write_object-returns-in-Number
write_object-returns-in-Number t c = same_piece _ _ _ _ _ (ap object_text c.in-Number.ensures ∙ text-number c.in-Number.n) c.write_number.ensures

pub write_object-returns-in_ok-push-in-Pair-2 : goal.write_object-returns-in_ok-push-in-Pair-2
write_object-returns-in_ok-push-in-Pair-2 t c =
    let parts = c.in-Pair.ensures in
    written_pair _ _ _ _ _ _ _ _ c.in_ok-push-in-Pair.ensures.items c.in_ok-write_object-in-Pair.ensures c.in_ok-write_tail-in-Pair.ensures c.in_ok-push-in-Pair-2.ensures.items
    (ap object_text parts.4 ∙ text-pair _ _ parts.2 parts.3)

pub write_tail-returns-in_ok-write_object-in-Pair : goal.write_tail-returns-in_ok-write_object-in-Pair
write_tail-returns-in_ok-write_object-in-Pair t c =
    let parts = c.in-Pair.ensures in
    third_piece _ _ _ _ _ _ _ _ c.in_ok-push-in-Pair.ensures.items c.in_ok-write_object-in-Pair.ensures (ap tail_text parts.4 ∙ tail-pair _ _ parts.2 parts.3) c.write_tail.ensures
