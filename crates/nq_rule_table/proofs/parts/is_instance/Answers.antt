use Rattle.nq_rule_table.proofs.InstanceLemmas.{match_told}
use Rattle.nq_rule_table.proofs.parts.is_instance.Goals as goal

pub returns : goal.returns
returns c = match_told c.args.bank.now c.args.pattern c.args.t _ _ _ c.new-bindings.ensures.items c.in_ok-fits.ensures.ok
