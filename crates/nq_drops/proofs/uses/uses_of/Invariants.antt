-- The uses so far, and those of the lines that are left, are all.
use Rattle.std.proofs.Common.{◌≡◌, ◌++◌, [], map, drop}
use Rattle.nq_logtext.specs.Views.{view}
use Rattle.nq_drops.specs.Uses.{uses}
use Rattle.nq_drops.proofs.uses.uses_of.Given as goal

abbrev pub invariant-loop-line : goal.invariant-loop-line
invariant-loop-line l = map (λ ls. ls.items) l.all.items ++ uses l.waiting.items (map view (drop l.line-index l.lines)) ≡ uses [] (map view l.lines)
