use Rattle.nq_bank.specs.Content.{term_at}
use Rattle.nq_stuck.proofs.CoupleLemmas.{numeral_couple}
use Rattle.nq_stuck.proofs.equations.couple_of.Goals as goal

pub returns-in-Num-clause-is : goal.returns-in-Num-clause-is
returns-in-Num-clause-is c = numeral_couple c.in-Num.field-0 (term_at c.args.bank.now c.args.t) c.in-Num.ensures.head.1
