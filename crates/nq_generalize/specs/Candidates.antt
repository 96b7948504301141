-- The terms of a list that pass a test.
use Rattle.std.specs.Prelude.{◌≡◌, Bool, true, List}
use Rattle.nq_logic.specs.Terms.{Term, IsAmong}

-- these are the terms of the whole that pass the test
pub record IsAllOf (test : Term → Bool) (whole these : List Term) : Type 0 where
  pub each : (t : Term) → IsAmong t these → IsAmong t whole × (test t ≡ true)
  pub all : (t : Term) → IsAmong t whole → test t ≡ true → IsAmong t these
