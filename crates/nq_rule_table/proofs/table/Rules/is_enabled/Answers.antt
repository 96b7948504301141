use Rattle.std.proofs.Common.{true, ap, ◌∙◌}
use Rattle.nq_rule_table.specs.Enabled.{enabled_by}
use Rattle.nq_rule_table.proofs.EnabledLemmas.{taught_enabled}
use Rattle.nq_rule_table.proofs.table.Rules.is_enabled.Goals as goal

pub returns : goal.returns
returns c = λ entries taught. c.is_enabled_by.ensures ∙ ap (enabled_by c.args.name true) c.as_slice.ensures.value ∙ taught_enabled c.args.self.now entries c.args.name taught
