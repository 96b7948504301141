-- What a part says of the depth of a term.
use Rattle.std.specs.Prelude.{◌<◌}
use Rattle.nq_logic.specs.Terms.{Term, Applied}
use Rattle.nq_logic.specs.Sizes.{depth_of}

-- A term with a part that is deeper than 1 is deeper than that part.
abbrev pub PartsAreShallower : Type 0
PartsAreShallower = (t u : Term) → 1 < depth_of u → depth_of u < depth_of (Applied t u)
