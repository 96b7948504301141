-- The lines so far, and those that are left, are all.
use Rattle.std.proofs.Common.{◌≡◌, ◌≤◌, ◌++◌, [], map, drop, get_or}
use Rattle.nq_logtext.specs.Views.{view}
use Rattle.nq_log.specs.Blocks.{lines_text}
use Rattle.nq_drops.specs.Drops.{dropping}
use Rattle.nq_drops.proofs.dropping.put_dropping.Given as goal

abbrev pub invariant-loop-line : goal.invariant-loop-line
invariant-loop-line l =
    record {
      count : l.n ≤ l.line-index;
      text : l.out ++ lines_text (dropping (λ n. get_or (map (λ ls. ls.items) l.ends) n []) l.n (map view (drop l.line-index l.lines))) ≡ l.fn.out ++ lines_text (dropping (λ n. get_or (map (λ ls. ls.items) l.ends) n []) 0 (map view l.lines));
    }
