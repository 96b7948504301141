use Rattle.std.proofs.Common.{◌^◌, ◌∙◌, arith}
use Rattle.nq_logtext.proofs.Numbers.{narrowed, narrowed_none}
use Rattle.nq_logtext.proofs.number.number_of.Goals as goal

pub returns-in_default : goal.returns-in_default
returns-in_default c = narrowed_none (2 ^ 64) (2 ^ 128) c.args.word.now (omega arith) c.in_default.ensures

pub returns : goal.returns
returns c = c.ok.ensures.value ∙ narrowed (2 ^ 64) (2 ^ 128) c.args.word.now c.in-Some.number c.try_from.result (omega arith) c.in-Some.ensures c.try_from.ensures
