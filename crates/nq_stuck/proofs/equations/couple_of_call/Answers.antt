use Rattle.nq_bank.specs.Content.{text_at}
use Rattle.nq_stuck.proofs.CoupleLemmas.{few_couple, many_couple}
use Rattle.nq_stuck.proofs.equations.couple_of_call.Goals as goal

pub returns-in_default-clause-is : goal.returns-in_default-clause-is
returns-in_default-clause-is c = few_couple c.args.bank.now (text_at c.args.bank.now c.args.f) c.args.arguments.now c.in_default.len_below

pub returns-in_default-2-clause-is : goal.returns-in_default-2-clause-is
returns-in_default-2-clause-is c = many_couple c.args.bank.now (text_at c.args.bank.now c.args.f) c.args.arguments.now c.in_default.len_at_least
