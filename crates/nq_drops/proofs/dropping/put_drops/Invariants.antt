-- The lines so far, and those that are left, are all.
use Rattle.std.proofs.Common.{◌≡◌, ◌++◌, map, drop}
use Rattle.nq_log.specs.Blocks.{lines_text}
use Rattle.nq_drops.specs.Drops.{drop_line}
use Rattle.nq_drops.proofs.dropping.put_drops.Given as goal

abbrev pub invariant-loop-l : goal.invariant-loop-l
invariant-loop-l l = l.out ++ lines_text (map drop_line (drop l.l-index l.ended)) ≡ l.fn.out ++ lines_text (map drop_line l.ended)
