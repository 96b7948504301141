use Rattle.std.proofs.Common.{sym, ◌∙◌}
use Rattle.nq_bank.specs.Content.{text_at, term_at}
use Rattle.nq_print.proofs.ObjectLemmas.{single-other}
use Rattle.nq_print.proofs.objects.is_single_object.Goals as goal

pub returns-else-is_ground-2 : goal.returns-else-is_ground-2
returns-else-is_ground-2 c =
    sym (single-other (text_at c.args.bank.now c.args.f) (term_at c.args.bank.now c.args.argument) c.requires.other (sym c.is_ground.ensures ∙ c.if-is_ground.false) (sym c.is_ground-else-is_ground.ensures ∙ c.if-is_ground-2.false))
