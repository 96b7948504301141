use Rattle.std.proofs.Common.{ap, sym, ◌∙◌}
use Rattle.nq_logic.specs.Numerals.{number_of}
use Rattle.nq_bank.specs.Content.{text_at}
use Rattle.nq_bank.proofs.Numerals.{number_of-numeral}
use Rattle.nq_value.proofs.ObjectLemmas.{number_of-variable}
use Rattle.nq_value.proofs.kinds.numeral.Goals as goal

pub returns-in-Num : goal.returns-in-Num
returns-in-Num c = sym (ap number_of c.in-Num.ensures.head.1 ∙ number_of-numeral c.in-Num.n c.in-Num.ensures.head.0)

pub returns-in-Var : goal.returns-in-Var
returns-in-Var c = number_of-variable (text_at c.args.bank.now c.in-Var.field-0) ∙ sym (ap number_of c.in-Var.ensures.head.1)
