-- The calls of a function within a body, each with all tests that govern it, over ids.
use Rattle.std.specs.Prelude.{List, ◌++◌, map}
use Rattle.nq_logic.specs.Terms.{Term}
use Rattle.nq_logic.specs.Admissible.{Call}

-- the calls, under these tests besides their own
abbrev pub beneath : List Term → List Call → List Call
beneath tests calls = map (λ c. record { tests = tests ++ c.tests; arguments = c.arguments }) calls
