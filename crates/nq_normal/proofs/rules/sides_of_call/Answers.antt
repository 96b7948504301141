use Rattle.std.proofs.Common.{sym, ◌∙◌}
use Rattle.nq_bank.specs.Content.{text_at}
use Rattle.nq_normal.proofs.PartLemmas.{parts_one, parts_two, parts_many}
use Rattle.nq_normal.proofs.rules.sides_of_call.Goals as goal

pub returns-in-len1 : goal.returns-in-len1
returns-in-len1 c = parts_one c.args.bank.now (text_at c.args.bank.now c.args.f) c.args.arguments.now c.in-len1.len_at_least c.in-len1.len_below

pub returns-else-is_ground : goal.returns-else-is_ground
returns-else-is_ground c =
    parts_two c.args.bank.now (text_at c.args.bank.now c.args.f) c.args.arguments.now c.in-len2.len_at_least c.in-len2.len_below (sym c.is_ground.ensures ∙ c.if-is_ground.false)

pub returns-in-len3-up : goal.returns-in-len3-up
returns-in-len3-up c = parts_many c.args.bank.now (text_at c.args.bank.now c.args.f) c.args.arguments.now c.in-len3-up.len_at_least
