-- How deep the terms may be of which lines are made.
use Rattle.std.specs.Prelude.{ℕ}

-- the greatest depth of a nest
abbrev pub term_room : ℕ
term_room = 3000
