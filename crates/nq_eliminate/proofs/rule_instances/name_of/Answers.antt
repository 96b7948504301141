use Rattle.std.proofs.Common.{◌∙◌, sym}
use Rattle.nq_bank.specs.Content.{term_at, text_at}
use Rattle.nq_eliminate.proofs.Names.{same_name}
use Rattle.nq_eliminate.proofs.NamingLemmas.{no_call_variable, no_number_variable}
use Rattle.nq_eliminate.proofs.rule_instances.name_of.Goals as goal

pub returns-in-Var-clause-is : goal.returns-in-Var-clause-is
returns-in-Var-clause-is c = λ x is. same_name (text_at c.args.bank.now c.in-Var.name) x (sym c.in-Var.ensures.head.1 ∙ is)

pub returns-in-Num-clause-is : goal.returns-in-Num-clause-is
returns-in-Num-clause-is c = λ x is. absurd (no_number_variable (term_at c.args.bank.now c.args.t) c.in-Num.field-0 x c.in-Num.ensures.head.1 is)

pub returns-in-App-clause-is : goal.returns-in-App-clause-is
returns-in-App-clause-is c = λ x is. absurd (no_call_variable (term_at c.args.bank.now c.args.t) (text_at c.args.bank.now c.in-App.field-0) x c.in-App.ensures.head.1 is)
