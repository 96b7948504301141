-- A node that is wanted, by its head and by its arguments where they lie.
use Rattle.std.specs.Prelude.{Bool, ◌&&◌, List}
use Rattle.std.specs.Cmp.Lexicographic.{pointwise}
use Rattle.nq_bank.specs.declared.node.TermId.{TermId}
use Rattle.nq_bank.specs.declared.node.Node.{Node}
use Rattle.nq_bank.specs.Entries.{Stored}
use Rattle.nq_bank.specs.contracts.node.NodePartialEq.TheImpl.{eq-value as is_same_head}
use Rattle.nq_bank.specs.contracts.node.TermIdPartialEq.TheImpl.{eq-value as is_same_id}

-- is it the node with this head and these arguments?
abbrev pub is_wanted : Node → List TermId → Stored → Bool
is_wanted node ids e = is_same_head.it node e.node && pointwise is_same_id.it ids e.arguments
