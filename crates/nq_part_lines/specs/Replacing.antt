-- Replacements that make no deep terms.
use Rattle.std.specs.Prelude.{◌≡◌, ◌≤◌, ℕ, List, Some}
use Rattle.nq_logic.specs.Terms.{Term}
use Rattle.nq_logic.specs.Words.{equal_term, not_term}
use Rattle.nq_logic.specs.Sizes.{depth_of, depth_limit}
use Rattle.nq_proof.specs.Paths.{replaced_at}
use Rattle.nq_kernel.specs.declared.work.Work.{Work}
use Rattle.nq_lines.specs.Lines.{LineLeads}

-- what u makes of the first literal of the line is not too deep, nor are the equations of what stood there and u
abbrev pub IsLowChange : Work → ℕ → List ℕ → Term → Type 0
IsLowChange work line path u =
    (first : Term) (these : List Term) (change : Term × Term) → LineLeads work line first these → replaced_at path u first ≡ Some change →
    (depth_of change.1 ≤ depth_limit) × (depth_of (not_term (equal_term change.0 u)) ≤ depth_limit) × (depth_of (not_term (equal_term u change.0)) ≤ depth_limit)
