use Rattle.nq_bank.proofs.Numerals.{parts_of-number, number_of-numeral}
use Rattle.std.proofs.Common.{ap, ◌∙◌}
use Rattle.nq_bank.specs.Content.{text_at, term_at}
use Rattle.nq_bank.specs.Parts.{parts_of}
use Rattle.nq_logic.specs.Words.{numeral}
use Rattle.nq_rule.proofs.ReplacingLemmas.{deep_if_some, literal_none}
use Rattle.nq_rule.proofs.replacing.argument.Goals as goal

pub returns-in-App-clause-deep : goal.returns-in-App-clause-deep
returns-in-App-clause-deep c =
    deep_if_some c.args.bank.now c.literal.result c.args.place (text_at c.args.bank.now c.in-App.field-0) c.args-in-App.result.now (term_at c.args.bank.now c.args.t) c.in-App.ensures.head.1 c.args-in-App.ensures.parts c.literal.ensures.literal

pub returns-in-Num-clause-argument : goal.returns-in-Num-clause-argument
returns-in-Num-clause-argument c =
    literal_none c.args.place (parts_of (term_at c.args.bank.now c.args.t)) (ap parts_of c.in-Num.ensures.head.1 ∙ parts_of-number (numeral c.in-Num.field-0) c.in-Num.field-0 (number_of-numeral c.in-Num.field-0 c.in-Num.ensures.head.0))
