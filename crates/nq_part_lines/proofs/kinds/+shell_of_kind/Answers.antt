use Rattle.std.proofs.Common.{◌∙◌, sym}
use Rattle.nq_bank.specs.Content.{text_at}
use Rattle.nq_part_lines.proofs.KindLemmas.{kind_here}
use Rattle.nq_part_lines.proofs.kinds.+shell_of_kind.Goals as goal

pub returns-then-is_same_name : goal.returns-then-is_same_name
returns-then-is_same_name t c =
    kind_here c.args.bank.now c.args.shells.now (text_at c.args.bank.now c.args.r) c.first-item.result c.in-len1-up.len_at_least c.first-item.is c.requires.shells (sym c.is_same_name.ensures ∙ c.if-is_same_name.true)
