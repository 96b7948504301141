use Rattle.std.proofs.Common.{sym, ap, ◌∙◌}
use Rattle.nq_bank.specs.Content.{text_at}
use Rattle.nq_event.specs.Definitions.{is_variable}
use Rattle.nq_event.proofs.DefinitionLemmas.{numeral_no_variable}
use Rattle.nq_event.proofs.inductions.is_variable.Goals as goal

pub returns-in-Num : goal.returns-in-Num
returns-in-Num c =
    let x = text_at c.args.bank.now c.args.variable in
    sym (ap (is_variable x) c.in-Num.ensures.head.1 ∙ numeral_no_variable x c.in-Num.field-0)
