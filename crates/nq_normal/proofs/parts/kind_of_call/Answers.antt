use Rattle.std.proofs.Common.{sym, ◌∙◌}
use Rattle.nq_bank.specs.Content.{text_at}
use Rattle.nq_normal.proofs.PartLemmas.{kind_one, kind_two, kind_many}
use Rattle.nq_normal.proofs.parts.kind_of_call.Goals as goal

pub returns-else-is_ground-clause-is : goal.returns-else-is_ground-clause-is
returns-else-is_ground-clause-is c =
    sym (kind_one c.args.bank.now (text_at c.args.bank.now c.args.f) c.args.arguments.now c.in-len1.len_at_least c.in-len1.len_below (sym c.is_ground.ensures ∙ c.if-is_ground.false))

pub returns-else-is_ground-2-clause-is : goal.returns-else-is_ground-2-clause-is
returns-else-is_ground-2-clause-is c =
    sym (kind_two c.args.bank.now (text_at c.args.bank.now c.args.f) c.args.arguments.now c.in-len2.len_at_least c.in-len2.len_below (sym c.is_ground-in-len2.ensures ∙ c.if-is_ground-2.false))

pub returns-in-len3-up-clause-is : goal.returns-in-len3-up-clause-is
returns-in-len3-up-clause-is c = sym (kind_many c.args.bank.now (text_at c.args.bank.now c.args.f) c.args.arguments.now c.in-len3-up.len_at_least)
