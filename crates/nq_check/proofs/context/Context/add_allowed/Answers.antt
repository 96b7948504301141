use Rattle.std.proofs.Common.{ap, ◌∙◌}
use Rattle.std.specs.Prelude.{Err}
use Rattle.nq_bank.specs.declared.node.BankFault.{BankFault}
use Rattle.nq_check.proofs.RuleLemmas.{line_goes_on, line_too_deep}
use Rattle.nq_check.proofs.context.Context.add_allowed.Goals as goal

pub returns-in-Ok : goal.returns-in-Ok
returns-in-Ok c =
    line_goes_on c.args.self.now c.add.new.bank c.add.new.self c.args.rule c.in-Ok.field-0 c.requires.older c.requires.whole c.add.ensures.grows c.is_sound.ensures c.add.ensures.over c.in-Ok.ensures.line

pub returns-in-Err-Deep : goal.returns-in-Err-Deep
returns-in-Err-Deep c = line_too_deep c.args.self.now c.args.rule c.requires.older (c.add.ensures.deep (c.in-Err-Deep.is ∙ ap (λ (e : BankFault). Err e) c.in-Err-Deep.field-0-is))
