use Rattle.nq_print.proofs.TextLemmas.{then_piece, tail-number}
use Rattle.nq_print.proofs.quoting.write_dotted_number.Goals as goal

pub returns : goal.returns
returns c = then_piece _ _ _ _ _ _ _ c.in_ok-write_text.ensures (tail-number c.args.n) c.write_number.ensures
