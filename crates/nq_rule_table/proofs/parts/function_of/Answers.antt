use Rattle.std.proofs.Common.{◌∙◌, sym, ap}
use Rattle.nq_logic.specs.Values.{is_value}
use Rattle.nq_logic.specs.Words.{numeral}
use Rattle.nq_bank.specs.Parts.{parts_of}
use Rattle.nq_bank.specs.Content.{term_at}
use Rattle.nq_bank.proofs.Numerals.{is_value-number, number_of-numeral}
use Rattle.nq_rule_table.proofs.PartLemmas.{call_about, value_about}
use Rattle.nq_rule_table.proofs.parts.function_of.Goals as goal

pub returns-in-App-clause-about : goal.returns-in-App-clause-about
returns-in-App-clause-about c = λ g.
    let bank = c.args.bank.now in
    let left = term_at bank c.left_side-left.result in
    call_about bank g (term_at bank c.args.part) left c.left_side-left.ensures.is c.in-App.f (parts_of left) c.is_sound.ensures c.in-App.ensures.head.0 c.in-App.ensures.head.1 (sym c.is_value.ensures ∙ c.if-is_value.false)

pub returns-in-Num-clause-about : goal.returns-in-Num-clause-about
returns-in-Num-clause-about c = λ g.
    let bank = c.args.bank.now in
    let n = c.in-Num.field-0 in
    value_about bank g (term_at bank c.args.part) (term_at bank c.left_side-left.result) c.left_side-left.ensures.is (ap is_value c.in-Num.ensures.head.1 ∙ is_value-number (numeral n) n (number_of-numeral n c.in-Num.ensures.head.0))
