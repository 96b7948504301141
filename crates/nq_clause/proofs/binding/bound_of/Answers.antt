use Rattle.std.proofs.Common.{ap, ◌∙◌}
use Rattle.nq_logic.specs.Numerals.{number_of}
use Rattle.nq_bank.specs.Content.{text_at}
use Rattle.nq_clause.proofs.InstanceLemmas.{no_variable_number}
use Rattle.nq_clause.proofs.binding.bound_of.Goals as goal

pub returns-in-Var-clause-stands : goal.returns-in-Var-clause-stands
returns-in-Var-clause-stands c =
    (c.requires, ap number_of c.in-Var.ensures.head.1 ∙ no_variable_number (text_at c.args.bank.now c.in-Var.field-0))
