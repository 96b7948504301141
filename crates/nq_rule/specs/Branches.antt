-- The parts of an IF over a bank.
use Rattle.nq_bank.specs.Content.{Content, Stands, term_at}
use Rattle.nq_proof.specs.Paths.{IfParts}
use Rattle.nq_rule.specs.declared.branching.Branches.{Branches}

abbrev pub branches_at : Content → Branches → IfParts
branches_at bank b = record { test = term_at bank b.test; first = term_at bank b.first; second = term_at bank b.second }

-- the parts stand in the bank
pub record BranchesStand (bank : Content) (b : Branches) : Type 0 where
  pub test : Stands bank b.test
  pub first : Stands bank b.first
  pub second : Stands bank b.second
