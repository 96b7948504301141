use Rattle.std.proofs.Common.{ℕ, List, ◌+◌, ◌++◌, [], map, drop, get_or, sym, ap, ◌∙◌, arith}
use Rattle.nq_logtext.specs.Views.{view}
use Rattle.nq_log.specs.Blocks.{lines_text}
use Rattle.nq_drops.specs.Drops.{dropping}
use Rattle.nq_drops.proofs.TextLemmas.{drop_next}
use Rattle.nq_drops.proofs.dropping.put_dropping.Goals as goal

pub loop-line-preserved : goal.loop-line-preserved
loop-line-preserved c =
    let i = c.loop-line.line-index in
    let ended : ℕ → List ℕ = λ n. get_or (map (λ ls. ls.items) c.args.ends.now) n [] in
    record {
      count = let a = c.in_ok-n.ensures.count in let b = c.loop-line.invariant.count in omega (arith, a, b);
      text =
          c.in_ok-n.ensures.added (map view (drop (i + 1) c.args.lines.now))
          ∙ ap (λ ls. c.loop-line.out ++ lines_text (dropping ended c.loop-line.n (map view ls))) (sym (drop_next c.args.lines.now i c.line-item.result c.loop-line-test.true c.line-item.is))
          ∙ c.loop-line.invariant.text;
    }
