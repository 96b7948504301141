-- Which branch of an IF is chosen.
use Rattle.std.specs.Prelude.{Bool, true, false}
use Rattle.nq_bank.specs.declared.node.TermId.{TermId}
use Rattle.nq_rule.specs.declared.branching.Branches.{Branches}

-- the branch that a true or a false test chooses
abbrev pub branch_of : Branches → Bool → TermId
branch_of parts true = parts.first
branch_of parts false = parts.second
