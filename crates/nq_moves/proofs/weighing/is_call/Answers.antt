use Rattle.nq_bank.specs.Content.{text_at, term_at}
use Rattle.nq_bank.specs.Parts.{parts_of}
use Rattle.nq_moves.proofs.ChoosingLemmas.{called, numeral_called}
use Rattle.nq_moves.proofs.weighing.is_call.Goals as goal

pub returns-in-App : goal.returns-in-App
returns-in-App c = called (term_at c.args.bank.now c.args.t) (text_at c.args.bank.now c.in-App.field-0) (parts_of (term_at c.args.bank.now c.args.t)) c.in-App.ensures.head.1

pub returns-in-Num : goal.returns-in-Num
returns-in-Num c = numeral_called (term_at c.args.bank.now c.args.t) c.in-Num.field-0 c.in-Num.ensures.head.1
