-- What becomes of a goal for which a move may be found.
use Rattle.std.specs.Prelude.{Option, Some, None}
use Rattle.nq_waterfall.specs.declared.mover.Lead.{Lead}
use Rattle.nq_waterfall.specs.declared.mover.Turn.{Turn}
use Rattle.nq_waterfall.specs.declared.mover.Turn.TheVariants.{Led, Unknown}
use Rattle.nq_legal.specs.declared.way.Way.{Way}

-- it is led on where one is found; else nothing is told of it
abbrev pub turn_of : Option (Lead Way) → Turn Way
turn_of (Some lead) = Led lead
turn_of None = Unknown
