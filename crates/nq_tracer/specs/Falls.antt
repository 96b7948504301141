-- The measures of the definitions of a history fall.
use Rattle.std.specs.Prelude.{◌≡◌, ◌++◌, Some}
use Rattle.nq_logic.specs.Terms.{Term, IsAmong}
use Rattle.nq_logic.specs.Histories.{History, Definition, events_definitions}
use Rattle.nq_logic.specs.Ground.{ground_definitions}
use Rattle.nq_kernel.specs.Ready.{IsReady}
use Rattle.nq_falls.specs.Falls.{Falls}

-- the measure of each of them falls, the ground history's with them
abbrev pub DefinitionsFall : Type 0
DefinitionsFall =
    (h : History) (d : Definition) (m : Term) → IsReady h → IsAmong d (ground_definitions ++ events_definitions h) → d.measure ≡ Some m → Falls h d m
