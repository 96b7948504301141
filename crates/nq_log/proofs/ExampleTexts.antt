-- The texts of logs that are written by hand.
use Prim.Native.String.{String as Text}
use Rattle.std.proofs.Common.{ℕ, List, [], ◌∷◌, ◌++◌}
use Rattle.std.specs.Prelude.{codes}

-- the lines, each ended by LF
abbrev pub lines : List Text → List ℕ
lines [] = []
lines (line ∷ rest) = codes line ++ (10 ∷ lines rest)

-- a log with these lines after its first
abbrev pub log_of : List Text → List ℕ
log_of body = lines ("NQTHM-LOG 1" ∷ body)
