use Rattle.std.proofs.Common.{◌∙◌, sym}
use Rattle.nq_bank.specs.Content.{text_at}
use Rattle.nq_reduce.proofs.ValueLemmas.{falsity_is}
use Rattle.nq_reduce.proofs.values.is_falsity.Goals as goal

pub returns-in-empty : goal.returns-in-empty
returns-in-empty c = λ h. falsity_is c.args.bank.now c.args.t (text_at c.args.bank.now c.in-App.f) c.args-arguments.result.now c.in-App.ensures.head.1 c.args-arguments.ensures.parts c.in-empty.len_below (sym c.is_ground.ensures ∙ h)
