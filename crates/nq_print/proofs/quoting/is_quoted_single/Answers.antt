use Rattle.std.proofs.Common.{sym, ◌∙◌}
use Rattle.nq_bank.specs.Content.{text_at, term_at}
use Rattle.nq_print.proofs.TextLemmas.{quoted-single}
use Rattle.nq_print.proofs.quoting.is_quoted_single.Goals as goal

pub returns-in-Ok : goal.returns-in-Ok
returns-in-Ok c = quoted-single (text_at c.args.bank.now c.args.f) (term_at c.args.bank.now c.args.argument) c.in-Ok.nil c.requires.other (sym c.is_ground.ensures ∙ c.if-is_ground.false) c.requires.single c.in-Ok.ensures
