use Rattle.nq_bank.specs.Content.{text_at}
use Rattle.nq_normal.proofs.PartLemmas.{plain_one, plain_two, plain_many}
use Rattle.nq_normal.proofs.rules.is_implication_call.Goals as goal

pub returns-in-len1 : goal.returns-in-len1
returns-in-len1 c = plain_one c.args.bank.now (text_at c.args.bank.now c.args.f) c.args.arguments.now c.in-len1.len_at_least c.in-len1.len_below

pub returns-in-len2 : goal.returns-in-len2
returns-in-len2 c =
    plain_two c.args.bank.now (text_at c.args.bank.now c.args.f) c.args.arguments.now c.is_ground.result c.in-len2.len_at_least c.in-len2.len_below c.is_ground.ensures

pub returns-in-len3-up : goal.returns-in-len3-up
returns-in-len3-up c = plain_many c.args.bank.now (text_at c.args.bank.now c.args.f) c.args.arguments.now c.in-len3-up.len_at_least
