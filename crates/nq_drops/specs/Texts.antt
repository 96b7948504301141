-- The lines that a text spells.
use Rattle.std.specs.Prelude.{ℕ, List, [], ◌∷◌, Option, Some, None, if◌then◌else◌}
use Rattle.nq_logtext.specs.Lines.{Line}
use Rattle.nq_logtext.specs.Reading.{line_of}
use Rattle.nq_drops.specs.Drops.{is_drop}

-- a line, where there is one and it is no DROP line, before others
abbrev pub kept_line : Option Line → List Line → List Line
kept_line None lines = lines
kept_line (Some line) lines = if is_drop line.word then lines else line ∷ lines

-- the lines that these texts spell, but DROP lines
abbrev pub lines_found : List (List ℕ) → List Line
lines_found [] = []
lines_found (bytes ∷ rest) = kept_line (line_of bytes) (lines_found rest)
