use Rattle.std.proofs.Common.{◌≡◌, subst, sym}
use Rattle.nq_bank.specs.Content.{terms_at}
use Rattle.nq_linear.specs.Rows.{AreRows, rows_at}
use Rattle.nq_linear.specs.Literals.{all_taken}
use Rattle.nq_linear.proofs.AnswerLemmas.{rows_draw}
use Rattle.nq_linear.proofs.answer.eliminates.Goals as goal

pub has_elimination-requires-clause-rows : goal.has_elimination-requires-clause-rows
has_elimination-requires-clause-rows c = subst (AreRows c.args.bank.now) (sym c.as_slice.ensures.value) c.in_ok-rows.ensures.are_rows

pub has_elimination-requires-clause-draws : goal.has_elimination-requires-clause-draws
has_elimination-requires-clause-draws c =
    rows_draw c.args.bank.now c.args.literals.now c.as_slice.result.now (subst (AreRows c.args.bank.now) (sym c.as_slice.ensures.value) c.in_ok-rows.ensures.are_rows) (subst (λ rows. rows_at c.args.bank.now rows ≡ all_taken (terms_at c.args.bank.now c.args.literals.now)) (sym c.as_slice.ensures.value) c.in_ok-rows.ensures.rows)
