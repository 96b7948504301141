use Rattle.std.proofs.Common.{◌∙◌}
use Rattle.nq_rule_table.proofs.EnabledLemmas.{past_more, past_all}
use Rattle.nq_rule_table.proofs.enabling.is_enabled_by.Goals as goal

pub loop-t-preserved : goal.loop-t-preserved
loop-t-preserved c = past_more c.args.name c.args.toggles.now c.loop-t.t-index _ c.loop-t.enabled _ c.loop-t-test.true c.is_enabled_past-enabled.ensures ∙ c.loop-t.invariant

pub returns : goal.returns
returns c = past_all c.args.name c.args.toggles.now c.loop-t.t-index c.loop-t.enabled c.loop-t-test.false c.loop-t.invariant
