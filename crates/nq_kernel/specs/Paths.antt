-- Terms that use up the steps of an event at once.
use Rattle.std.specs.Prelude.{◌<◌, ◌+◌, ◌-◌, ◌*◌, ℕ, ⊤, bytes_eq, codes, if◌then◌else◌}
use Rattle.nq_logic.specs.Terms.{Term, Variable, Function, Applied}
use Rattle.nq_logic.specs.Sizes.{depth_of}
use Rattle.nq_kernel.specs.Counting.{Counting}

-- The IF paths of a term: those of an IF are those of its test times the sum of those of its branches, those of another
-- call the product of those of its arguments.
unfoldable pub if_paths : Term → ℕ
if_paths (Variable x) = 1
if_paths (Function f) = 1
if_paths (Applied (Applied (Applied (Function f) p) x) y) =
    if bytes_eq f (codes "IF") then if_paths p * (if_paths x + if_paths y) else if_paths p * if_paths x * if_paths y
if_paths (Applied (Applied (Applied (Variable z) p) x) y) = if_paths p * if_paths x * if_paths y
if_paths (Applied (Applied (Applied (Applied t u) p) x) y) = if_paths (Applied (Applied (Applied t u) p) x) * if_paths y
if_paths (Applied (Applied (Function f) x) y) = if_paths x * if_paths y
if_paths (Applied (Applied (Variable z) x) y) = if_paths x * if_paths y
if_paths (Applied (Function f) y) = if_paths y
if_paths (Applied (Variable z) y) = if_paths y

-- no variable stands in the term
unfoldable pub IsGround : Term → Type 0
IsGround (Variable x) = ⊥
IsGround (Function f) = ⊤
IsGround (Applied t u) = IsGround t × IsGround u

-- the greatest depth of a ground literal whose value is asked, and the most IF paths
abbrev pub value_depth_limit : ℕ
value_depth_limit = 3900

abbrev pub path_limit : ℕ
path_limit = 100000

-- the term has more IF paths than the limit or than steps are left, or is ground and too deep to be evaluated
pub data UsesUp (counter : Counting) (t : Term) : Type 0 where
  TooWide : (wide : path_limit < if_paths t) → UsesUp counter t
  WiderThanLeft : (wide : counter.limit - counter.used < if_paths t) → UsesUp counter t
  TooDeep : (ground : IsGround t) (deep : value_depth_limit < depth_of t) → UsesUp counter t
