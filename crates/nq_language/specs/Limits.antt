-- The limits of a term of an event, and of a text.
use Prim.Native.String.{String as Text}
use Rattle.std.specs.Prelude.{Bool, false, ◌||◌, nat_lt, bytes_eq, codes}
use Rattle.nq_logic.specs.Terms.{Term, Variable, Function, Applied}
use Rattle.nq_logic.specs.Sizes.{size_of, depth_of}

-- the function of this name, without arguments
abbrev pub is_function : Text → Term → Bool
is_function x (Variable y) = false
is_function x (Function f) = bytes_eq f (codes x)
is_function x (Applied t u) = false

-- more than 100,000 nodes
abbrev pub is_large : Term → Bool
is_large t = nat_lt 100000 (size_of t)

-- more than a term of an event may have, in nodes or in depth
abbrev pub is_too_large : Term → Bool
is_too_large t = is_large t || nat_lt 2000 (depth_of t)
