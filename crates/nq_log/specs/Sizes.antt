-- Which terms are small enough for a log. A numeral counts as one node.
use Rattle.std.specs.Prelude.{nat_le, Bool, true, ◌&&◌, List, [], ◌∷◌}
use Rattle.nq_logic.specs.Terms.{Term}
use Rattle.nq_logic.specs.Sizes.{depth_limit, depth_of, size_of}

-- whether a term may stand in a proof
abbrev pub is_shallow : Term → Bool
is_shallow t = nat_le (depth_of t) depth_limit

abbrev pub are_shallow : List Term → Bool
are_shallow [] = true
are_shallow (t ∷ ts) = is_shallow t && are_shallow ts

-- whether a term may be claimed
abbrev pub is_small : Term → Bool
is_small t = nat_le (size_of t) 100000 && nat_le (depth_of t) 2000
