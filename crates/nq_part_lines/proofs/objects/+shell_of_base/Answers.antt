use Rattle.std.proofs.Common.{◌∙◌, sym}
use Rattle.nq_bank.specs.Content.{text_at}
use Rattle.nq_part_lines.proofs.BaseLemmas.{found_here}
use Rattle.nq_part_lines.proofs.objects.+shell_of_base.Goals as goal

pub returns-then-is_same_name : goal.returns-then-is_same_name
returns-then-is_same_name t c =
    found_here c.args.bank.now c.args.shells.now (text_at c.args.bank.now c.args.d) c.first-item.result c.in-Some.b c.in-len1-up.len_at_least c.first-item.is c.requires.shells c.in-Some.is (sym c.is_same_name.ensures ∙ c.if-is_same_name.true)
