use Rattle.nq_bank.specs.Content.{text_at}
use Rattle.nq_quick.proofs.HeadLemmas.{no_short_call}
use Rattle.nq_quick.proofs.heads.head_of_call.Goals as goal

pub returns-in_default : goal.returns-in_default
returns-in_default c = no_short_call c.args.bank.now c.args.t (text_at c.args.bank.now c.args.f) c.args.arguments.now c.requires.call c.in_default.len_at_least
