use Rattle.std.proofs.Common.{sym, ◌∙◌}
use Rattle.nq_print.proofs.TextLemmas.{then_piece, shown-quoted}
use Rattle.nq_print.proofs.quoting.write_shown.Goals as goal

pub returns-in_ok-push : goal.returns-in_ok-push
returns-in_ok-push c = then_piece _ _ _ _ _ _ _ c.in_ok-push.ensures.items (shown-quoted _ (sym c.in_ok-is_quoted.ensures ∙ c.if-branch.true)) c.write_object.ensures
