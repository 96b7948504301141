use Rattle.nq_bank.specs.Content.{term_at}
use Rattle.nq_stuck.proofs.SubstitutionLemmas.{none_of_number}
use Rattle.nq_stuck.proofs.substituting.is_candidate.Goals as goal

pub returns-in-Num : goal.returns-in-Num
returns-in-Num c = λ literal. none_of_number literal c.in-Num.field-0 (term_at c.args.bank.now c.args.left) (term_at c.args.bank.now c.args.right) c.in-Num.ensures.head.1
