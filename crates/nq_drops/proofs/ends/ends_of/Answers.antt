use Rattle.std.proofs.Common.{◌+◌, [], map, get_or, refl, ◌∙◌, arith}
use Rattle.nq_drops.proofs.EndLemmas.{end_more}
use Rattle.nq_drops.proofs.ends.ends_of.Goals as goal

pub loop-k-preserved : goal.loop-k-preserved
loop-k-preserved c =
    let k = c.loop-k.k in
    record {
      count = c.in_ok-put_end.ensures.count ∙ c.loop-k.invariant.count;
      ends = λ n low.
          end_more c.args.last.now n k (k + 1) (get_or c.args.last.now k 0) (get_or (map (λ ls. ls.items) c.loop-k.ends.items) n []) (get_or (map (λ ls. ls.items) c.put_end.new.ends.items) n []) low (omega arith) refl
          (c.in_ok-put_end.ensures.put n (let a = c.loop-k.invariant.count in omega (arith, a, low))) (c.loop-k.invariant.ends n low);
    }
