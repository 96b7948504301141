use Rattle.std.proofs.Common.{ap, sym, ◌∙◌}
use Rattle.nq_proof.specs.Paths.{if_parts}
use Rattle.nq_rule.proofs.BranchLemmas.{if_parts-numeral}
use Rattle.nq_rule.proofs.branching.branches_in.Goals as goal

pub returns-in-Num-clause-parts : goal.returns-in-Num-clause-parts
returns-in-Num-clause-parts c = if_parts-numeral c.in-Num.field-0 ∙ sym (ap if_parts c.in-Num.ensures.head.1)
