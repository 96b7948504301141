-- Calls that bar a goal from being normal, wherever they stand open in it.
use Rattle.std.specs.Prelude.{Bool, ◌||◌}
use Rattle.nq_logic.specs.Terms.{Term}
use Rattle.nq_logic.specs.Histories.{History}
use Rattle.nq_events.specs.Events.{Hints}
use Rattle.nq_goals.specs.Functions.{is_call_among, is_openable, propositional}
use Rattle.nq_goals.specs.Normal.{is_decided_test}

-- a call of a connective, or one that is opened, or an accessor or recognizer on what a constructor made
abbrev pub is_barred : History → Hints → Term → Bool
is_barred h hints t = is_call_among propositional t || is_openable h hints t || is_decided_test h t
